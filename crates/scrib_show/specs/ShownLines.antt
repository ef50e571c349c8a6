-- The parts of what `show` prints (this project's own).
use Rattle.std.specs.Prelude.{◌==◌, if◌then◌else◌, ℕ, ◌+◌, ◌-◌, max, Bool, true, false, List, [], ◌∷◌, ◌++◌, length, take, drop, codes}
use Rattle.std.specs.Fmt.{decimal}
use Rattle.scrib_types.specs.declared.message.Message.{Message}
use Rattle.scrib_types.specs.declared.event.Event.{Event}
use Rattle.scrib_types.specs.declared.event.Event.TheVariants.{Join, Sent, Received}
use Rattle.scrib_types.specs.Texts.{dotted_text, message_text, after_each}
use Rattle.scrib_global.specs.declared.explain.Flight.{Flight}
use Rattle.scrib_reasons.specs.declared.reason.Reason.{Reason}
use Rattle.scrib_reasons.specs.declared.reason.Reason.TheVariants.{NotDeclared, JoinedTwice, NotJoined, Done, NotAllowed, NotSent, OtherFirst}
use Rattle.scrib_report.specs.Lines.{flight_text}
use Rattle.scrib_report.specs.Table.{right_aligned}

-- a number of events, as `1 event` or `35 events`
abbrev pub events_count : ℕ → List ℕ
events_count n = decimal n ++ codes " event" ++ (if n == 1 then [] else codes "s")

-- what is behind the number of events where the verdict that the monitor reports is stale
abbrev pub stale_text : Bool → List ℕ
stale_text true = codes ", stale"
stale_text false = []

-- the first line, as `orders.Order, 35 events: permitted`: the protocol, the number of events and how the log is judged
abbrev pub head_line : (name : List (List ℕ)) (events : ℕ) (stale : Bool) (judged : List ℕ) → List ℕ
head_line name events stale judged =
    dotted_text name ++ codes ", " ++ events_count events ++ stale_text stale ++ codes ": " ++ judged ++ codes "\n"

-- how a permitted log is judged
abbrev pub permitted_text : (complete : Bool) → List ℕ
permitted_text true = codes "permitted, complete"
permitted_text false = codes "permitted"

-- the word of a reason
abbrev pub reason_word : Reason → List ℕ
reason_word NotDeclared = codes "NotDeclared"
reason_word JoinedTwice = codes "JoinedTwice"
reason_word NotJoined = codes "NotJoined"
reason_word Done = codes "Done"
reason_word NotAllowed = codes "NotAllowed"
reason_word NotSent = codes "NotSent"
reason_word OtherFirst = codes "OtherFirst"

-- how a log with an offence is judged, as `offence at event 11 by Payment: NotSent`
unfoldable pub offence_text : (place : ℕ) (role : List ℕ) → Reason → List ℕ
offence_text place role reason =
    codes "offence at event " ++ decimal place ++ codes " by " ++ role ++ codes ": " ++ reason_word reason

-- a sender, a receiver and a message, as `A B hello()`
abbrev pub exchange_text : (from to : List ℕ) → Message → List ℕ
exchange_text p q m = p ++ codes " " ++ q ++ codes " " ++ message_text m

-- an event as a script's line spells it, without the id: `send A B hello()`, `recv A B hello()` or `join A`
unfoldable pub event_text : Event → List ℕ
event_text (Join r) = codes "join " ++ r
event_text (Sent p q m) = codes "send " ++ exchange_text p q m
event_text (Received p q m) = codes "recv " ++ exchange_text p q m

-- the row of an event, as `  line 24  send A B hello()`, with the number of its line filled up on its left
unfoldable pub row_text : (width n : ℕ) → Event → List ℕ
row_text width n e = codes "  line " ++ right_aligned width n ++ codes "  " ++ event_text e

-- the rows of these events, which are in the lines of these numbers
abbrev pub rows : (width : ℕ) (numbers : List ℕ) → List Event → List (List ℕ)
rows width [] events = []
rows width (n ∷ numbers) [] = []
rows width (n ∷ numbers) (e ∷ events) = row_text width n e ∷ rows width numbers events

-- the most digits of these numbers
abbrev pub most_digits : List ℕ → ℕ
most_digits [] = 0
most_digits (n ∷ numbers) = max (length (decimal n)) (most_digits numbers)

-- the line in front of the rows of the events after the first ones: `event 1:` or `events 2 to 11:`
abbrev pub rows_heading : (before last : ℕ) → List ℕ
rows_heading before last =
    (if last - before == 1 then codes "event " else codes "events " ++ decimal (before + 1) ++ codes " to ")
    ++ decimal last ++ codes ":"

-- the elements after the first ones, up to the last
abbrev pub between : {A : Type 0} → (before last : ℕ) → List A → List A
between before last xs = take (last - before) (drop before xs)

-- what is behind the last row where its event is the offence
abbrev pub offence_mark : (offends : Bool) → List ℕ
offence_mark true = codes "    <- offence"
offence_mark false = []

-- The events after the first ones, up to the last: a heading, a row for each, and the mark of an offence behind the
-- last.
abbrev pub rows_text : (before last : ℕ) (offends : Bool) (numbers : List ℕ) → List Event → List ℕ
rows_text before last offends numbers events =
    let shown = between before last numbers in
    rows_heading before last ++ after_each 10 (rows (most_digits shown) shown (between before last events))
    ++ offence_mark offends ++ codes "\n"

-- the last ten events of the first `last`, or nothing where there is none
abbrev pub events_text : (last : ℕ) (offends : Bool) (numbers : List ℕ) → List Event → List ℕ
events_text last offends numbers events =
    if last == 0 then [] else rows_text (last - 10) last offends numbers events

-- each message in flight after a comma and a blank
abbrev pub further_flights : List Flight → List ℕ
further_flights [] = []
further_flights (f ∷ fs) = codes ", " ++ flight_text f ++ further_flights fs

-- what is in front of the messages in flight; after an offence they are those before it
abbrev pub flights_heading : (offends : Bool) → List ℕ
flights_heading true = codes "in flight before it: "
flights_heading false = codes "in flight: "

-- the line of the messages in flight, as `in flight: A B hello(), B C bye()`, or nothing where there is none
abbrev pub flights_line : (offends : Bool) → List Flight → List ℕ
flights_line offends [] = []
flights_line offends (f ∷ fs) = flights_heading offends ++ flight_text f ++ further_flights fs ++ codes "\n"
