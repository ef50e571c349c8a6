use Rattle.std.proofs.Common.{◌≡◌, ◌≤◌, ◌*◌}
use Rattle.scrib_locked_steps.specs.Sweeping.{AreTurns}
use Rattle.scrib_locked_steps.proofs.SweepLemmas.{IsSweptSoFar}
use Rattle.scrib_locked_steps.proofs.sweep.sweep_shard.Given as goal

abbrev pub invariant-loop-id : goal.invariant-loop-id
invariant-loop-id l = record {
  swept : IsSweptSoFar l.library l.id-items l.id-index l.initial.shard.records l.shard.records;
  limit : l.shard.capacity ≡ l.initial.shard.capacity;
  turned : AreTurns l.library l.swept.turns l.initial.shard.records l.shard.records;
  judged : l.swept.judged ≡ l.id-index;
  some : l.id-index ≤ l.swept.turns;
  few : l.swept.turns ≤ 4096 * l.id-index;
}
