use Rattle.std.proofs.Common.{◌≡◌, take}
use Rattle.scrib_queues.proofs.queue.copy_ring.Given as goal

abbrev pub invariant-loop-i : goal.invariant-loop-i
invariant-loop-i g l = l.copies.items ≡ take l.i l.ring.items
