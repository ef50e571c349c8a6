use Rattle.std.proofs.Common.{[]}
use Rattle.scrib_settlement.specs.Tallies.{IsTallyOf}
use Rattle.scrib_settlement.proofs.ShardTallyLemmas.{new_push}
use Rattle.scrib_settlement.proofs.shard_tallies.new_tallies.Goals as goal

pub loop-index-preserved : goal.loop-index-preserved
loop-index-preserved c =
    let t = c.in_ok-new.field-0 in
    let counts : IsTallyOf c.at.result.1.now.log [] t.due.items t.wrong = rw c.log.ensures.log at c.in_ok-new.ensures in
    rw c.in_ok-push.ensures.items (new_push c.loop-index.index c.args.shard.now.records c.loop-index.tallies.items t c.at.result.0 c.at.result.1.now
    c.loop-index.invariant c.at.ensures counts)
