use Rattle.std.proofs.Common.{◌≤◌}
use Rattle.scrib_rejudge.proofs.workers.sweep.Given as goal

abbrev pub invariant-loop-own : goal.invariant-loop-own
invariant-loop-own g l = l.swept.judged ≤ l.swept.turns
