use Rattle.std.proofs.Common.{◌≡◌, take}
use Rattle.scrib_queues.specs.Layout.{items_of}
use Rattle.scrib_queues.proofs.queues.copy_queues.Given as goal

abbrev pub invariant-loop-queue : goal.invariant-loop-queue
invariant-loop-queue g l = items_of l.copies.items ≡ items_of (take l.queue-index l.queues)
