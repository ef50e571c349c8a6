use Rattle.std.proofs.Common.{◌≡◌, ◌++◌, replicate}
use Rattle.scrib_types.proofs.flat.push_number.Given as goal

abbrev pub invariant-loop : goal.invariant-loop
invariant-loop l = l.out.items ≡ l.fn.out.items ++ replicate l.counter 255
