use Rattle.scrib_global.proofs.LogPrefixes.{queued_none, queued_more, due_at, queued_all, not_whole, whole, true_part}
use Rattle.scrib_global.proofs.queues.is_queued.Goals as goal

pub loop-i-init : goal.loop-i-init
loop-i-init c = queued_none

pub returns-then-not-branch : goal.returns-then-not-branch
returns-then-not-branch c =
    not_whole c.in_ok-is_due.field-0 c.in_ok-is_due.ensures c.if-not-branch.true (due_at c.args.log.now c.loop-i.i c.index-log-i.result)

pub loop-i-preserved : goal.loop-i-preserved
loop-i-preserved c =
    queued_more c.args.log.now c.loop-i.i c.index-log-i.result c.loop-i-test.true c.index-log-i.is c.loop-i.invariant (true_part c.in_ok-is_due.field-0 c.in_ok-is_due.ensures c.if-not-branch.false)

pub returns : goal.returns
returns c = whole (queued_all c.args.log.now c.loop-i.i c.loop-i-test.false c.loop-i.invariant)
