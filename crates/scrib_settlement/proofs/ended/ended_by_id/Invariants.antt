use Rattle.scrib_settlement.proofs.EndedListLemmas.{AreEndedUpTo}
use Rattle.scrib_settlement.proofs.ended.ended_by_id.Given as goal

abbrev pub invariant-loop-shard : goal.invariant-loop-shard
invariant-loop-shard l = AreEndedUpTo l.library l.shards l.shard-index l.list.items
