use Rattle.std.proofs.Common.{take}
use Rattle.scrib_types.specs.Queues.{IsQueued}
use Rattle.scrib_global.proofs.queues.is_queued.Given as goal

abbrev pub invariant-loop-i : goal.invariant-loop-i
invariant-loop-i l = IsQueued (take l.i l.log)
