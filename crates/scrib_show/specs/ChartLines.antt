-- A conversation as a sequence diagram: the text that Mermaid draws (this project's own). Of Mermaid's syntax, which
-- https://mermaid.js.org/syntax/sequenceDiagram.html describes, it has participants, messages and notes.
use Rattle.std.specs.Prelude.{◌≡◌, ◌==◌, ◌&&◌, ◌||◌, if◌then◌else◌, ℕ, ◌+◌, ◌-◌, Bool, true, false, List, [], ◌∷◌, ◌++◌, length, drop, codes}
use Rattle.std.specs.Fmt.{decimal}
use Rattle.std.specs.Str.{bytes_eq}
use Rattle.scrib_types.specs.declared.event.Event.{Event}
use Rattle.scrib_types.specs.declared.event.Event.TheVariants.{Join, Sent, Received}
use Rattle.scrib_types.specs.Logs.{subject_of}
use Rattle.scrib_types.specs.Texts.{message_text}
use Rattle.scrib_global.specs.Explained.{flight}
use Rattle.scrib_global.specs.declared.explain.Flight.{Flight}
use Rattle.scrib_reasons.specs.declared.reason.Reason.{Reason}
use Rattle.scrib_show.specs.ShownLines.{offence_text, event_text}

-- the messages that the log's receptions receive, in their order
abbrev pub received : List Event → List Flight
received [] = []
received (Join r ∷ log) = received log
received (Sent p q m ∷ log) = received log
received (Received p q m ∷ log) = flight p q m ∷ received log

-- whether the event is a reception
abbrev pub is_reception : Event → Bool
is_reception (Join r) = false
is_reception (Sent p q m) = false
is_reception (Received p q m) = true

-- the place of a role among these, from 1; one past the last where it is none of them
abbrev pub role_place : List ℕ → List (List ℕ) → ℕ
role_place r [] = 1
role_place r (s ∷ roles) = if bytes_eq r s then 1 else role_place r roles + 1

-- what a role is called in the diagram, as `p1`
abbrev pub alias_text : ℕ → List ℕ
alias_text place = codes "p" ++ decimal place

-- the word `end`, in capital or small letters, which Mermaid reads as a keyword
abbrev pub is_end_word : List ℕ → Bool
is_end_word (a ∷ b ∷ c ∷ []) = (a == 101 || a == 69) && (b == 110 || b == 78) && (c == 100 || c == 68)
is_end_word _ = false

-- the byte as an entity code, as `#101;`
abbrev pub entity : ℕ → List ℕ
entity b = codes "#" ++ decimal b ++ codes ";"

-- a text with its first byte as an entity code
abbrev pub escaped : List ℕ → List ℕ
escaped [] = []
escaped (b ∷ bytes) = entity b ++ bytes

-- the label of a role: its name, which is escaped where it is a keyword
abbrev pub label_text : List ℕ → List ℕ
label_text name = if is_end_word name then escaped name else name

-- the line of a participant, as `    participant p1 as Client`
unfoldable pub participant_line : (place : ℕ) → List ℕ → List ℕ
participant_line place name =
    codes "    participant " ++ alias_text place ++ codes " as " ++ label_text name ++ codes "\n"

-- the line of each role, of which the first has this place
abbrev pub participants : (place : ℕ) → List (List ℕ) → List ℕ
participants place [] = []
participants place (r ∷ roles) = participant_line place r ++ participants (place + 1) roles

-- an arrow: with a filled head for a message that was received, and with an open head for one in flight
abbrev pub arrow : (open_head : Bool) → List ℕ
arrow true = codes "-)"
arrow false = codes "->>"

-- the line of a message, as `    p1->>p2: hello()`
unfoldable pub arrow_line : (roles : List (List ℕ)) (open_head : Bool) → Flight → List ℕ
arrow_line roles open_head f =
    codes "    " ++ alias_text (role_place f.from roles) ++ arrow open_head ++ alias_text (role_place f.to roles)
    ++ codes ": " ++ message_text f.message ++ codes "\n"

-- the line of each message
abbrev pub arrow_lines : (roles : List (List ℕ)) (open_head : Bool) → List Flight → List ℕ
arrow_lines roles open_head [] = []
arrow_lines roles open_head (f ∷ fs) = arrow_line roles open_head f ++ arrow_lines roles open_head fs

-- the last of so many participants behind the first, if there are more
unfoldable pub last_text : (count : ℕ) → List ℕ
last_text count = if count == 1 then [] else codes "," ++ alias_text count

-- a note over all participants, as `    Note over p1,p3: `
unfoldable pub note_head : (count : ℕ) → List ℕ
note_head count = codes "    Note over p1" ++ last_text count ++ codes ": "

-- the note of how many messages are left out, if any are
unfoldable pub left_out_note : (count : ℕ) → (left : ℕ) → List ℕ
left_out_note count left =
    if left == 0 then [] else note_head count ++ codes "earlier messages left out: " ++ decimal left ++ codes "\n"

-- the note of an offence: its event, and why it may not follow
abbrev pub offence_note : (count place : ℕ) → Event → Reason → List ℕ
offence_note count place e reason =
    note_head count ++ event_text e ++ codes ", " ++ offence_text place (subject_of e) reason ++ codes "\n"

-- how many messages are left out, so that at most 500 are left
unfoldable pub left_out : (log : List Event) → List Flight → ℕ
left_out log flights = length (received log) + length flights - 500

-- how many messages in flight are among them
unfoldable pub left_in_flight : (log : List Event) → List Flight → ℕ
left_in_flight log flights = left_out log flights - length (received log)

-- The diagram of a permitted log up to its end: a participant for each role, an arrow for each message that was
-- received, in that order, and an open arrow for each in flight. The last 500 arrows are there.
abbrev pub chart_text : (roles : List (List ℕ)) (log : List Event) → List Flight → List ℕ
chart_text roles log flights =
    codes "sequenceDiagram\n" ++ participants 1 roles ++ left_out_note (length roles) (left_out log flights)
    ++ arrow_lines roles false (drop (left_out log flights) (received log))
    ++ arrow_lines roles true (drop (left_in_flight log flights) flights)

-- The rest of this file is cited by contracts of private functions alone.

-- What was added for an event, where so many messages are left to be left out: with the arrows of the log behind it, it
-- makes those of the log that begins with it.
abbrev pub AddsReception : (roles : List (List ℕ)) → Event → (left more : ℕ) → (old new : List ℕ) → Type 0
AddsReception roles e left more old new =
    (rest : List Event)
    → new ++ arrow_lines roles false (drop more (received rest))
    ≡ old ++ arrow_lines roles false (drop left (received (e ∷ rest)))
