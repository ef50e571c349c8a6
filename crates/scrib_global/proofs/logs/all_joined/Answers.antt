use Rattle.scrib_global.proofs.LogPrefixes.{joined_none, joined_more, joined_at, joined_all, not_whole, whole, true_part}
use Rattle.scrib_global.proofs.logs.all_joined.Goals as goal

pub loop-i-init : goal.loop-i-init
loop-i-init c = joined_none c.args.roles.now

pub returns-then-not-is_joined : goal.returns-then-not-is_joined
returns-then-not-is_joined c =
    not_whole c.is_joined.result c.is_joined.ensures c.if-not-is_joined.true (joined_at c.args.roles.now c.args.log.now c.loop-i.i c.index-log-i.result c.loop-i-test.true c.index-log-i.is)

pub loop-i-preserved : goal.loop-i-preserved
loop-i-preserved c =
    joined_more c.args.roles.now c.args.log.now c.loop-i.i c.index-log-i.result c.loop-i-test.true c.index-log-i.is c.loop-i.invariant (true_part c.is_joined.result c.is_joined.ensures c.if-not-is_joined.false)

pub returns : goal.returns
returns c = whole (joined_all c.args.roles.now c.args.log.now c.loop-i.i c.loop-i-test.false c.loop-i.invariant)
