-- First-in-first-out queues, one for each ordered pair of roles, computed from whole logs (this project's own).
use Rattle.std.specs.Prelude.{◌≡◌, ℕ, ◌&&◌, List, ◌++◌, length, drop, Option, Some, None, if◌then◌else◌}
use Rattle.std.specs.List.{filter_map}
use Rattle.std.specs.Str.{bytes_eq}
use Rattle.scrib_types.specs.declared.message.Message.{Message}
use Rattle.scrib_types.specs.declared.event.Event.{Event}
use Rattle.scrib_types.specs.declared.event.Event.TheVariants.{Join, Sent, Received}

-- the message, where the event is that p sent it to q
abbrev pub sent_message : List ℕ → List ℕ → Event → Option Message
sent_message p q (Join r) = None
sent_message p q (Sent s t m) = if bytes_eq p s && bytes_eq q t then Some m else None
sent_message p q (Received s t m) = None

-- the message, where the event is that q received it from p
abbrev pub received_message : List ℕ → List ℕ → Event → Option Message
received_message p q (Join r) = None
received_message p q (Sent s t m) = None
received_message p q (Received s t m) = if bytes_eq p s && bytes_eq q t then Some m else None

-- what p sent to q, in order
abbrev pub sent : List ℕ → List ℕ → List Event → List Message
sent p q log = filter_map (sent_message p q) log

-- what q received from p, in order
abbrev pub received : List ℕ → List ℕ → List Event → List Message
received p q log = filter_map (received_message p q) log

-- ys begins with xs
abbrev pub IsPrefix : List Message → List Message → Type 0
IsPrefix xs ys = (rest : List Message) × (ys ≡ xs ++ rest)

-- after each event, what a role received from another is a prefix of what the other sent to it
abbrev pub IsQueued : List Event → Type 0
IsQueued log =
    (before after : List Event) → log ≡ before ++ after → (p q : List ℕ)
    → IsPrefix (received p q before) (sent p q before)

-- the messages from p to q that are in flight, the oldest first
abbrev pub flights : List ℕ → List ℕ → List Event → List Message
flights p q log = drop (length (received p q log)) (sent p q log)
