-- Queues, reception by reception (this project's own).
-- Only contracts of private functions cite this file.
use Rattle.std.specs.Prelude.{List}
use Rattle.scrib_types.specs.declared.event.Event.{Event}
use Rattle.scrib_types.specs.declared.event.Event.TheVariants.{Join, Sent, Received}
use Rattle.scrib_types.specs.Queues.{sent, received, IsPrefix}

-- where the event is a reception, what was received between the two roles is a prefix of what was sent
abbrev pub IsSentFirst : List Event → Event → Type 0
IsSentFirst log (Join r) = Unit {0}
IsSentFirst log (Sent p q m) = Unit {0}
IsSentFirst log (Received p q m) = IsPrefix (received p q log) (sent p q log)
