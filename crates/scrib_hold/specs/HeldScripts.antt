-- Scripts whose events are held back: what is carried out, and the law of no false alarms (this project's own).
use Rattle.std.specs.Prelude.{◌≡◌, ◌⊎◌, ℕ, ◌+◌, ◌<◌, ◌≤◌, Bool, true, false, if◌then◌else◌}
use Rattle.std.specs.Prelude.{List, [], ◌∷◌, ◌++◌, length, map, None, nat_eq}
use Rattle.std.specs.List.{AllByRecursion}
use Rattle.scrib_types.specs.declared.event.Event.{Event}
use Rattle.scrib_core.specs.declared.format.Format.{Format}
use Rattle.scrib_core.specs.declared.step.Step.TheVariants.{Note, Open, Close}
use Rattle.scrib_core.specs.Answers.{State, initial}
use Rattle.scrib_script_reader.specs.declared.item.Item.{Item}
use Rattle.scrib_script_reader.specs.declared.item.Item.TheVariants as item
use Rattle.scrib_script_reader.specs.declared.entry.Entry.{Entry}
use Rattle.scrib_script_reader.specs.declared.entry.Entry.TheVariants as entry
use Rattle.scrib_script_reader.specs.Scripts.{lines, requests_of}
use Rattle.scrib_script_reader.specs.Entries.{SpellsEntries}
use Rattle.scrib_hold_stage.specs.declared.noted.Noted.{Noted}
use Rattle.scrib_hold_stage.specs.declared.stage.Counts.{Counts}
use Rattle.scrib_hold_stage.specs.Entries as stage
use Rattle.scrib_hold_stage.specs.declared.closings.Closing.{Closing}
use Rattle.scrib_hold_stage.specs.Entries.{Closings, note, Opens, Passes, none_closed, closed_at, noted_of, noted_in, noted_since, opening_since}
use Rattle.scrib_hold_stage.specs.Conversations.{noted_event}
use Rattle.scrib_hold_stage.specs.Stages as stages
use Rattle.scrib_hold_stage.specs.Stages.{HasStaged, Expires, IsUnreleased, AreAllReleased, IsReleasedInAll}
use Rattle.scrib_cli.specs.Requests.{RequestReply, AnswersRequests}
use Rattle.scrib_cli.specs.Scripts.{written}

-- an event, and the format of the reply to it
abbrev pub Asked : Type 0
Asked = Event × Format

-- the event of these
abbrev pub event_in : Asked → Event
event_in asked = asked.0

-- entry n of a script, as the stage reads it: an event is noted, an opening opens, and all else passes
abbrev pub staged : ℕ → Entry → stage.Entry Asked
staged n (entry.Item (item.Step f (Note id e))) = note id n (e, f)
staged n (entry.Item (item.Step f (Open id name))) = Opens id
staged n _ = Passes

-- the entries of a script, where n is the number of the first
abbrev pub staged_from : ℕ → List Entry → List (stage.Entry Asked)
staged_from n [] = []
staged_from n (e ∷ entries) = staged n e ∷ staged_from (n + 1) entries

-- the item of an event that was released
abbrev pub item_of : Noted Asked → Item
item_of x = item.Step x.arrival.1 (Note x.conversation x.arrival.0)

-- a closing that waits, with the format of the reply to it
abbrev pub Pending : Type 0
Pending = Closing Format

-- the item of a closing
abbrev pub closing_item : Pending → Item
closing_item c = item.Step c.line (Close c.conversation)

-- the closing of entry n, if it closes a conversation
abbrev pub closing_at : ℕ → Entry → List Pending
closing_at n (entry.Item (item.Step f (Close id))) = record { conversation = id; time = n; line = f } ∷ []
closing_at n _ = []

-- the entry opens the conversation
abbrev pub opens_conversation : ℕ → Entry → Bool
opens_conversation id (entry.Item (item.Step f (Open k name))) = nat_eq id k
opens_conversation id _ = false

-- the next entry does
abbrev pub opens_next : ℕ → List Entry → Type 0
opens_next id [] = ⊥
opens_next id (e ∷ later) = opens_conversation id e ≡ true

-- what passes at once: each item but an event or a closing, and but an end inside a module text
abbrev pub passing : Entry → List Item
passing (entry.Item (item.Step f (Note id e))) = []
passing (entry.Item (item.Step f (Close id))) = []
passing (entry.Item (item.Step f s)) = item.Step f s ∷ []
passing (entry.Item (item.Sweep f)) = item.Sweep f ∷ []
passing (entry.Item (item.BadLine n)) = item.BadLine n ∷ []
passing (entry.Item item.EndOfText) = []
passing entry.Skipped = []

-- the entry is an end inside a module text
abbrev pub is_end_inside : Entry → Bool
is_end_inside (entry.Item item.EndOfText) = true
is_end_inside _ = false

-- some entry is one
abbrev pub ends_inside : List Entry → Bool
ends_inside [] = false
ends_inside (e ∷ entries) = if is_end_inside e then true else ends_inside entries

-- the item of an end inside a module text, if there is one
abbrev pub end_item : Bool → List Item
end_item b = if b then item.EndOfText ∷ [] else []

-- the stage after these entries of a script and these closings: these events were released, and these of them expired
abbrev pub IsStageAfter : ℕ → List Entry → Closings → (released expired : List (Noted Asked)) → Type 0
IsStageAfter bound entries closed released expired =
    (s : stages.StageState Asked) × HasStaged event_in bound (staged_from 1 entries) closed released expired s

-- The closing waits further: fewer entries were read since its own than the bound says, and an event of its
-- conversation waits.
abbrev pub WaitsFurther : ℕ → List Entry → Closings → (released : List (Noted Asked)) → Pending → Type 0
WaitsFurther bound entries closed released c =
    (length entries < c.time + bound) × IsUnreleased c.conversation (staged_from 1 entries) closed released

-- it does not
abbrev pub IsDue : ℕ → List Entry → Closings → (released : List (Noted Asked)) → Pending → Type 0
IsDue bound entries closed released c =
    (c.time + bound ≤ length entries) ⊎ AreAllReleased c.conversation (staged_from 1 entries) closed released

-- The closing behind these is made: it is the first that waits no further, or the first of a conversation that the next
-- entry opens.
abbrev pub IsNext : ℕ → (entries later : List Entry) → Closings → (released : List (Noted Asked)) → List Pending
    → Pending → Type 0
IsNext bound entries later closed released front c =
    (AllByRecursion (WaitsFurther bound entries closed released) front × IsDue bound entries closed released c)
    ⊎ (AllByRecursion (λ d. nat_eq c.conversation d.conversation ≡ false) front × opens_next c.conversation later)

-- The law of no false alarms, of a conversation from its last closing on. All of its events since then were released,
-- in an order that its roles could have brought about. If it was opened since then, and none of these events expired
-- before the end, what was released is permitted exactly where some such order is.
abbrev pub RaisesNoFalseAlarmOf : ℕ → List Entry → Closings → (expired released : List (Noted Asked)) → Type 0
RaisesNoFalseAlarmOf id entries closed expired released =
    IsReleasedInAll event_in (opening_since (closed id) id (staged_from 1 entries))
    (noted_since (closed id) id (noted_in (staged_from 1 entries))) (noted_since (closed id) id expired)
    (noted_since (closed id) id released)

-- The items that these entries let out, where others follow, and the closings that wait. An entry is read where each
-- closing waits further, and is none of a conversation that the entry opens. Behind what passes at once come the events
-- that are released for the entry itself, and then those that are released as events expire, the oldest first. A
-- closing is made behind what waited of its conversation, which is released as it expires. The law holds then.
pub data LetsOut (bound : ℕ) : (entries later : List Entry) → Closings → List Pending
    → (released expired : List (Noted Asked)) → List Item → Type 0 where
  nothing : (later : List Entry) → LetsOut bound [] later none_closed [] [] [] []
  reads : (entries later : List Entry) (closed : Closings) (pending : List Pending)
      (released expired : List (Noted Asked)) (items : List Item) (e : Entry) (given late gone : List (Noted Asked))
      → LetsOut bound entries (e ∷ later) closed pending released expired items
      → AllByRecursion (WaitsFurther bound entries closed released) pending
      → AllByRecursion (λ c. opens_conversation c.conversation e ≡ false) pending
      → IsStageAfter bound (entries ++ e ∷ []) closed (released ++ (given ++ late)) (expired ++ gone)
      → Expires late gone
      → LetsOut bound (entries ++ e ∷ []) later closed (pending ++ closing_at (length entries + 1) e)
      (released ++ (given ++ late)) (expired ++ gone) (items ++ (passing e ++ map item_of (given ++ late)))
  closes : (entries later : List Entry) (closed : Closings) (front back : List Pending) (c : Pending)
      (released expired : List (Noted Asked)) (items : List Item) (given gone : List (Noted Asked))
      → LetsOut bound entries later closed (front ++ c ∷ back) released expired items
      → IsNext bound entries later closed released front c
      → IsStageAfter bound entries (closed_at c.conversation (length entries) closed) (released ++ given)
      (expired ++ gone)
      → Expires given gone → RaisesNoFalseAlarmOf c.conversation entries closed expired (released ++ given)
      → LetsOut bound entries later (closed_at c.conversation (length entries) closed) (front ++ back)
      (released ++ given) (expired ++ gone) (items ++ (map item_of given ++ closing_item c ∷ []))

-- the events of a conversation that the items note, in order
abbrev pub noted_events_of : ℕ → List Item → List Event
noted_events_of id [] = []
noted_events_of id (item.Step f (Note k e) ∷ items) =
    if nat_eq id k then e ∷ noted_events_of id items else noted_events_of id items
noted_events_of id (_ ∷ items) = noted_events_of id items

-- The items of a whole script, in the order in which they are carried out. After what its entries let out come the
-- events that waited at its end, as they expire, then the closings that waited, and then an end inside a module text.
-- The law holds of each conversation from its last closing on. The events among the items are those released.
pub record AreHeldItems (bound : ℕ) (entries : List Entry) (expired : List (Noted Asked)) (items : List Item)
    : Type 0 where
  pub closed : Closings
  pub pending : List Pending
  pub released : List (Noted Asked)
  pub waited : List (Noted Asked)
  pub gone : List (Noted Asked)
  pub let_out : List Item
  pub lets : LetsOut bound entries [] closed pending released expired let_out
  pub wait : AllByRecursion (WaitsFurther bound entries closed released) pending
  pub in_turn : Expires waited gone
  pub law : (id : ℕ) → RaisesNoFalseAlarmOf id entries closed expired (released ++ waited)
  pub noted : (id : ℕ) → noted_events_of id items ≡ map (noted_event event_in) (noted_of id (released ++ waited))
  pub is : items ≡ let_out ++ (map item_of waited ++ (map closing_item pending ++ end_item (ends_inside entries)))

-- The output of a script of these entries: the replies of a new monitor to the items. The counts are of its events,
-- and of those that expired before its end.
pub record IsOutputOf (o : Format) (bound : ℕ) (entries : List Entry) (counts : Counts) (output : List ℕ)
    : Type 0 where
  pub expired : List (Noted Asked)
  pub items : List Item
  pub replies : List RequestReply
  pub after : State
  pub held : AreHeldItems bound entries expired items
  pub events_counted : counts.events ≡ length (noted_in (staged_from 1 entries))
  pub expired_counted : counts.expired ≡ length expired
  pub answered : AnswersRequests initial (requests_of items) replies after
  pub is : output ≡ written o items replies

-- the items that entries let out where others follow, or those of a whole script
abbrev pub AreLetOut : ℕ → (entries later : List Entry) → List Item → Type 0
AreLetOut bound entries later items =
    ((closed : Closings) × (pending : List Pending) × (released : List (Noted Asked)) × (expired : List (Noted Asked))
    × LetsOut bound entries later closed pending released expired items)
    ⊎ ((expired : List (Noted Asked)) × AreHeldItems bound entries expired items)

-- the part is a beginning of the output of some first entries: of the replies to some first items of theirs
pub record IsBeginningOf (o : Format) (bound : ℕ) (entries : List Entry) (part : List ℕ) : Type 0 where
  pub first : List Entry
  pub later : List Entry
  pub items : List Item
  pub undone : List Item
  pub replies : List RequestReply
  pub after : State
  pub unwritten : List ℕ
  pub entries_are : entries ≡ first ++ later
  pub let_out : AreLetOut bound first later (items ++ undone)
  pub answered : AnswersRequests initial (requests_of items) replies after
  pub is : written o items replies ≡ part ++ unwritten

-- An output of a script with its events held back, none for longer than the bound, and the counts of its events.
abbrev pub IsHeldOutput : Format → ℕ → List ℕ → Counts → List ℕ → Type 0
IsHeldOutput o bound input counts output =
    (entries : List Entry) × SpellsEntries 1 None (lines input) entries × IsOutputOf o bound entries counts output

-- a beginning of what the script's entries let out was written
abbrev pub IsHeldPart : Format → ℕ → List ℕ → List ℕ → Type 0
IsHeldPart o bound input part =
    (entries : List Entry) × SpellsEntries 1 None (lines input) entries × IsBeginningOf o bound entries part
