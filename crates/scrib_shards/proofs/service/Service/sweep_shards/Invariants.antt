use Rattle.std.proofs.Common.{◌≤◌, ◌*◌}
use Rattle.scrib_shards.proofs.service.Service.sweep_shards.Given as goal

abbrev pub invariant-loop-shard : goal.invariant-loop-shard
invariant-loop-shard l = record {
  turns : l.swept.judged ≤ l.swept.turns;
  few : l.swept.turns ≤ 4096 * l.swept.judged;
}
