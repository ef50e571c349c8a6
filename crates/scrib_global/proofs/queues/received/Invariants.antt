use Rattle.std.proofs.Common.{◌≡◌, take}
use Rattle.scrib_types.specs.Queues.{received}
use Rattle.scrib_global.proofs.queues.received.Given as goal

abbrev pub invariant-loop-event : goal.invariant-loop-event
invariant-loop-event l = l.messages.items ≡ received l.from l.to (take l.event-index l.log)
