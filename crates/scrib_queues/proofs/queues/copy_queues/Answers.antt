use Rattle.scrib_queues.proofs.Lookups.{one_more}
use Rattle.scrib_queues.proofs.queues.copy_queues.Goals as goal

pub loop-queue-preserved : goal.loop-queue-preserved
loop-queue-preserved g c =
    one_more c.args.queues.now c.loop-queue.copies.items c.push.new.self.items c.loop-queue.queue-index c.queue-item.result c.in_ok-copy.field-0 c.loop-queue.invariant c.loop-queue-test.true c.queue-item.is c.in_ok-copy.ensures c.in_ok-push.ensures.items
