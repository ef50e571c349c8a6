use Rattle.std.proofs.Common.{◌≤◌, ◌*◌}
use Rattle.scrib_rejudge.proofs.turns.sweep_shard.Given as goal

abbrev pub invariant-loop-id : goal.invariant-loop-id
invariant-loop-id g l = record {
  turned : l.swept.judged ≤ l.swept.turns;
  few : l.swept.turns ≤ 4096 * l.id-index;
  judged : l.swept.judged ≤ l.id-index;
}
