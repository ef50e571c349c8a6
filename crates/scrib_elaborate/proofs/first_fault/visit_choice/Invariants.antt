use Rattle.std.proofs.Common.{◌≡◌}
use Rattle.scrib_elaborate.proofs.first_fault.visit_choice.Given as goal

abbrev pub invariant-loop-branch : goal.invariant-loop-branch
invariant-loop-branch l = l.ahead.items ≡ l.fn.ahead.items
