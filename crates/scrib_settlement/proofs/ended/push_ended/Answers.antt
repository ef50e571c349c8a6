use Rattle.scrib_settlement.proofs.EndedListLemmas.{some_at, ended_more}
use Rattle.scrib_settlement.proofs.ended.push_ended.Goals as goal

pub ended_of-requires : goal.ended_of-requires
ended_of-requires c = some_at c.args.shard.now.records c.loop-index.index c.at-id.result.0 c.at-id.result.1.now c.at-id.ensures

pub loop-index-preserved : goal.loop-index-preserved
loop-index-preserved c =
    rw c.in_ok-push.ensures.items (ended_more c.args.library.now c.args.shard.now.records c.loop-index.index c.at-id.result.0 c.at-id.result.1.now c.args.list.now.items c.loop-index.list.items
    c.in_ok-ended.ended c.at-id.ensures c.in_ok-ended.ensures.id c.in_ok-ended.ensures.ended c.loop-index.invariant)
