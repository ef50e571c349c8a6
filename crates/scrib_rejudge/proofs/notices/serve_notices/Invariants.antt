use Rattle.std.proofs.Common.{◌≤◌}
use Rattle.scrib_rejudge.proofs.notices.serve_notices.Given as goal

abbrev pub invariant-loop-notice : goal.invariant-loop-notice
invariant-loop-notice g l = l.swept.judged ≤ l.swept.turns
