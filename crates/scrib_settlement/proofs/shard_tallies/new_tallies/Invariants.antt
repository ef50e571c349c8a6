use Rattle.scrib_settlement.proofs.ShardTallyLemmas.{AreNew}
use Rattle.scrib_settlement.proofs.shard_tallies.new_tallies.Given as goal

abbrev pub invariant-loop-index : goal.invariant-loop-index
invariant-loop-index l = AreNew l.index l.shard.records l.tallies.items
