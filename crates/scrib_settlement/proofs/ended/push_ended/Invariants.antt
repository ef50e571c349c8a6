use Rattle.scrib_settlement.proofs.EndedListLemmas.{AreEndedBelow}
use Rattle.scrib_settlement.proofs.ended.push_ended.Given as goal

abbrev pub invariant-loop-index : goal.invariant-loop-index
invariant-loop-index l = AreEndedBelow l.library l.shard.records l.index l.initial.list.items l.list.items
