-- Lines of exchanges, parsed up to their id (this project's own). Only contracts of private functions cite this file.
use Rattle.std.specs.Prelude.{◌≡◌, ℕ, ◌≤◌, List, [], ◌∷◌, ◌++◌, None, length, IsTrue, codes}
use Rattle.std.specs.List.{list_all}
use Rattle.scrib_script_reader.specs.declared.direction.Direction.{Direction}
use Rattle.scrib_script_reader.specs.declared.direction.Direction.TheVariants as direction
use Rattle.scrib_types.specs.declared.message.Message.{Message}
use Rattle.scrib_types.specs.declared.event.Event.{Event}
use Rattle.scrib_types.specs.declared.event.Event.TheVariants as event
use Rattle.scrib_types.specs.Names.{is_name}
use Rattle.scrib_types.specs.Texts.{message_text}
use Rattle.scrib_script_reader.specs.Fields.{IsNumberText, fields, is_operator, is_dotted}

-- the word of a direction: `send` or `recv`
abbrev pub direction_word : Direction → List ℕ
direction_word direction.Send = codes "send"
direction_word direction.Receive = codes "recv"

-- the line, of at most 131,072 bytes, is the direction's word, the id's digits and the text, with one space between
abbrev pub IsHead : List ℕ → Direction → ℕ → List ℕ → Type 0
IsHead bytes d id text =
    (length bytes ≤ 131072)
    × ((digits : List ℕ) × (bytes ≡ direction_word d ++ 32 ∷ digits ++ 32 ∷ text) × IsNumberText digits id)

-- the bytes are the id's digits, a space and the text
abbrev pub IsIdBefore : List ℕ → ℕ → List ℕ → Type 0
IsIdBefore bytes id text = (digits : List ℕ) × (bytes ≡ digits ++ 32 ∷ text) × IsNumberText digits id

-- the event of an exchange in a direction
abbrev pub directed_event : Direction → (from to : List ℕ) → Message → Event
directed_event direction.Send from to m = event.Sent from to m
directed_event direction.Receive from to m = event.Received from to m

-- the fields of the text are these names and the message's printed text
abbrev pub SpellsExchange : List ℕ → (from to : List ℕ) → Message → Type 0
SpellsExchange text from to m =
    (fields text ≡ from ∷ to ∷ message_text m ∷ [])
    × IsTrue (is_name from) × IsTrue (is_name to) × IsTrue (is_operator m.op) × IsTrue (list_all is_dotted m.payload)

-- the sender of an event's message; empty for a join
abbrev pub sender_of : Event → List ℕ
sender_of (event.Join r) = []
sender_of (event.Sent p q m) = p
sender_of (event.Received p q m) = p

-- the receiver of an event's message; empty for a join
abbrev pub receiver_of : Event → List ℕ
receiver_of (event.Join r) = []
receiver_of (event.Sent p q m) = q
receiver_of (event.Received p q m) = q

-- an event's message; empty for a join
abbrev pub event_message : Event → Message
event_message (event.Join r) = record { op = None; payload = [] }
event_message (event.Sent p q m) = m
event_message (event.Received p q m) = m

-- the fields of the text are an exchange, and the event is that of the exchange in this direction
abbrev pub SpellsEvent : List ℕ → Direction → Event → Type 0
SpellsEvent text d e =
    (e ≡ directed_event d (sender_of e) (receiver_of e) (event_message e))
    × SpellsExchange text (sender_of e) (receiver_of e) (event_message e)
