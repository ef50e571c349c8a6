-- The flat form of events: an encoding as bytes, by which two events are compared (this project's own).
-- It is a prefix-free code: the bytes of no other event begin with those of this one.
use Rattle.std.specs.Prelude.{ℕ, List, ◌∷◌, ◌++◌}
use Rattle.scrib_types.specs.declared.event.Event.{Event}
use Rattle.scrib_types.specs.declared.event.Event.TheVariants as event
use Rattle.scrib_types.specs.Flat.{name_bytes, message_bytes}

-- the kind of event as a byte, then the roles, and then the message
abbrev pub event_bytes : Event → List ℕ
event_bytes (event.Join r) = 0 ∷ name_bytes r
event_bytes (event.Sent p q m) = (1 ∷ name_bytes p) ++ name_bytes q ++ message_bytes m
event_bytes (event.Received p q m) = (2 ∷ name_bytes p) ++ name_bytes q ++ message_bytes m

-- the flat form without the kind of event: that of a send and of the reception of its message are the same
abbrev pub exchange_bytes : Event → List ℕ
exchange_bytes (event.Join r) = name_bytes r
exchange_bytes (event.Sent p q m) = name_bytes p ++ name_bytes q ++ message_bytes m
exchange_bytes (event.Received p q m) = name_bytes p ++ name_bytes q ++ message_bytes m
