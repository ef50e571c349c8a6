use Rattle.std.proofs.Common.{◌≡◌, take}
use Rattle.scrib_types.specs.Queues.{sent}
use Rattle.scrib_global.proofs.queues.sent.Given as goal

abbrev pub invariant-loop-event : goal.invariant-loop-event
invariant-loop-event l = l.messages.items ≡ sent l.from l.to (take l.event-index l.log)
