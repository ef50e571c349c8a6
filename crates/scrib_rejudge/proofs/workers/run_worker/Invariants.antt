use Rattle.std.proofs.Common.{◌≤◌}
use Rattle.scrib_rejudge.proofs.workers.run_worker.Given as goal

abbrev pub invariant-loop-shard : goal.invariant-loop-shard
invariant-loop-shard g l = l.swept.judged ≤ l.swept.turns
