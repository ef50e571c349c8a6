-- The events of a script held back, each conversation's by the rule, and none for longer than the bound (this
-- project's own).
use Rattle.std.specs.Prelude.{◌≡◌, ◌↔◌, ℕ, ◌+◌, ◌^◌, ◌<◌, ◌≤◌, List, [], ◌∷◌, ◌++◌, length, map, Option, None, Some, true}
use Rattle.std.specs.List.{AllByRecursion}
use Rattle.scrib_types.specs.declared.event.Event.{Event}
use Rattle.scrib_types.specs.Agreement.{Agreement}
use Rattle.scrib_types.specs.Permitted.{IsPermitted}
use Rattle.scrib_holdback.specs.Reorderings.{IsReordering}
use Rattle.scrib_holdback.specs.FalseAlarms.{IsPermittedInSomeOrder}
use Rattle.scrib_holdback.specs.Holdings.{IsOldestWaiting}
use Rattle.scrib_hold_stage.specs.declared.noted.Noted.{Noted}
use Rattle.scrib_hold_stage.specs.declared.conversation.Conversation.{Conversation}
use Rattle.scrib_hold_stage.specs.declared.deadlines.Deadline.{Deadline}
use Rattle.scrib_hold_stage.specs.declared.stage.HoldStage.{HoldStage}
use Rattle.scrib_hold_stage.specs.Entries.{Entry, Closings, note, closed_at, is_of, noted_in, noted_since, opening_since, AreNumberedFrom}
use Rattle.scrib_hold_stage.specs.Conversations.{noted_event, IsUnopenedAt, IsOpenAt, waiting_at}
use Rattle.scrib_hold_stage.specs.Changes.{Conversations, conversation_at, LeavesOthers}
use Rattle.scrib_hold_stage.specs.Deadlines.{AreListed}

-- what contracts see of a stage: its bound, the number of entries that were read, the conversations that were met, the
-- deadlines of events that had to wait, how many of the entries were no events, and how many events expired
pub record StageState (A : Type 0) : Type 0 where
  pub bound : ℕ
  pub time : ℕ
  pub conversations : Conversations A
  pub deadlines : List Deadline
  pub others : ℕ
  pub expired : ℕ

-- this state
abbrev pub stage_state : {A : Type 0} → HoldStage A → StageState A
stage_state stage =
    record {
      bound = stage.bound;
      time = stage.time;
      conversations = stage.conversations.entries;
      deadlines = stage.deadlines.items;
      others = stage.others;
      expired = stage.expired;
    }

-- How a conversation is held. Before its opening nothing arrives. What expired before the opening doesn't arrive
-- either. The rest arrives, and is held back by the rule: some expires, and the others are released once they may be.
abbrev pub AreHeld : {A : Type 0} → (A → Event) → (bound : ℕ) → (opening : Option ℕ)
    → (early arrivals given late : List (Noted A)) → Option (Conversation A) → Type 0
AreHeld event bound None early arrivals given late now = (given ≡ []) × (late ≡ []) × IsUnopenedAt event arrivals now
AreHeld event bound (Some n) early arrivals given late now =
    AllByRecursion (λ x. x.time + bound < n) early × AllByRecursion (λ x. n ≤ x.time + bound) arrivals
    × IsOpenAt event arrivals given late now

-- of these events of a conversation, these were released, and these of them expired: the early ones before its opening
pub record IsHeld {A : Type 0} (event : A → Event) (bound : ℕ) (opening : Option ℕ)
    (events released expired : List (Noted A)) (now : Option (Conversation A)) : Type 0 where
  pub early : List (Noted A)
  pub arrivals : List (Noted A)
  pub given : List (Noted A)
  pub late : List (Noted A)
  pub all : events ≡ early ++ arrivals
  pub out : released ≡ early ++ given
  pub gone : expired ≡ early ++ late
  pub held : AreHeld event bound opening early arrivals given late now

-- What a stage keeps. The time is the number of entries that were read. The present life of each conversation is held.
-- What was released has the time of an entry.
pub record IsStageKept {A : Type 0} (event : A → Event) (bound : ℕ) (entries : List (Entry A)) (closed : Closings)
    (released expired : List (Noted A)) (s : StageState A) : Type 0 where
  pub bounded : s.bound ≡ bound
  pub timed : s.time ≡ length entries
  pub fits : s.time < 2 ^ 64
  pub numbered : AreNumberedFrom 1 entries
  pub begun : (id : ℕ) → closed id ≤ length entries
  pub held : (id : ℕ) → IsHeld event bound (opening_since (closed id) id entries)
      (noted_since (closed id) id (noted_in entries)) (noted_since (closed id) id released)
      (noted_since (closed id) id expired) (conversation_at s.conversations id)
  pub passed : AllByRecursion (λ x. x.time ≤ length entries) released
  pub gone : AllByRecursion (λ x. x.time ≤ length entries) expired
  pub listed : AreListed s.time s.conversations s.deadlines
  pub events : length (noted_in entries) + s.others ≡ s.time
  pub expired_count : s.expired ≡ length expired
  pub room : length expired + length s.deadlines ≤ s.time

-- The stage after these entries of a script and these closings of conversations: these events were released, and these
-- of them expired. What expired since the last closing of its conversation had waited while as many entries were read
-- as the bound says, and what waits hasn't.
pub record HasStaged {A : Type 0} (event : A → Event) (bound : ℕ) (entries : List (Entry A)) (closed : Closings)
    (released expired : List (Noted A)) (s : StageState A) : Type 0 where
  pub kept : IsStageKept event bound entries closed released expired s
  pub aged : (id : ℕ) → AllByRecursion (λ x. x.time + bound ≤ length entries) (noted_since (closed id) id expired)
  pub fresh : (id : ℕ) → AllByRecursion (λ x. length entries < x.time + bound)
      (waiting_at (conversation_at s.conversations id))

-- These items were released as these expired, one after another, the oldest first. What each made possible is of its
-- conversation, and comes right behind it.
pub data Expires {A : Type 0} : (given gone : List (Noted A)) → Type 0 where
  nothing : Expires [] []
  one_more : {given gone : List (Noted A)} (x : Noted A) (others : List (Noted A)) → Expires given gone
      → AllByRecursion (λ y. y.time < x.time) gone → AllByRecursion (λ y. is_of x.conversation y ≡ true) others
      → Expires (given ++ x ∷ others) (gone ++ x ∷ [])

-- The entry was read. After any earlier ones, some items are released then for the entry itself, and others as these
-- expire.
pub record IsRead {A : Type 0} (event : A → Event) (entry : Entry A) (old new : StageState A)
    (released now : List (Noted A)) : Type 0 where
  pub given : List (Noted A)
  pub late : List (Noted A)
  pub gone : List (Noted A)
  pub appended : now ≡ released ++ (given ++ late)
  pub in_turn : (bound : ℕ) (entries : List (Entry A)) (closed : Closings) (earlier expired : List (Noted A))
      → HasStaged event bound entries closed earlier expired old → Expires late gone
  pub after : (bound : ℕ) (entries : List (Entry A)) (closed : Closings) (earlier expired : List (Noted A))
      → HasStaged event bound entries closed earlier expired old
      → HasStaged event bound (entries ++ entry ∷ []) closed (earlier ++ (given ++ late)) (expired ++ gone) new

-- An event of the conversation was read, with any arrival beside it: it is released, and nothing else is.
abbrev pub PassesStageAlone : {A : Type 0} → (A → Event) → (id : ℕ) → Event → (old new : StageState A) → Type 0
PassesStageAlone {A} event id e old new =
    (arrival : A) → event arrival ≡ e → (released : List (Noted A))
    → IsRead event (note id (old.time + 1) arrival) old new released
    (released ++ record { conversation = id; time = old.time + 1; arrival = arrival } ∷ [])

-- What was released in all of the conversation's events: a reordering of them. If the conversation was opened and none
-- of its events expired, it is permitted exactly where some reordering is.
pub record IsReleasedInAll {A : Type 0} (event : A → Event) (opening : Option ℕ)
    (events expired all : List (Noted A)) : Type 0 where
  pub reordering : IsReordering (map (noted_event event) events) (map (noted_event event) all)
  pub exact : (n : ℕ) → opening ≡ Some n → expired ≡ [] → (a : Agreement)
      → IsPermitted a (map (noted_event event) all) ↔ IsPermittedInSomeOrder a (map (noted_event event) events)

-- some event of the conversation's present life was not released yet
abbrev pub IsUnreleased : {A : Type 0} → (id : ℕ) → List (Entry A) → Closings → (released : List (Noted A)) → Type 0
IsUnreleased id entries closed released =
    length (noted_since (closed id) id released) < length (noted_since (closed id) id (noted_in entries))

-- each was
abbrev pub AreAllReleased : {A : Type 0} → (id : ℕ) → List (Entry A) → Closings → (released : List (Noted A)) → Type 0
AreAllReleased id entries closed released =
    length (noted_since (closed id) id released) ≡ length (noted_since (closed id) id (noted_in entries))

-- an event of the conversation waits
abbrev pub Waits : {A : Type 0} → (id : ℕ) → StageState A → Type 0
Waits {A} id s = (x : Noted A) × IsOldestWaiting (waiting_at (conversation_at s.conversations id)) x

-- The conversation was closed: what waited of it is released as it expires, and the stage forgets it. The law, of the
-- life that ends.
pub record IsClosed {A : Type 0} (event : A → Event) (id : ℕ) (old new : StageState A) (released now : List (Noted A))
    : Type 0 where
  pub given : List (Noted A)
  pub gone : List (Noted A)
  pub appended : now ≡ released ++ given
  pub at_once : waiting_at (conversation_at old.conversations id) ≡ [] → given ≡ []
  pub forgotten : conversation_at new.conversations id ≡ None
  pub others : LeavesOthers id old.conversations new.conversations
  pub in_turn : (bound : ℕ) (entries : List (Entry A)) (closed : Closings) (earlier expired : List (Noted A))
      → HasStaged event bound entries closed earlier expired old → Expires given gone
  pub after : (bound : ℕ) (entries : List (Entry A)) (closed : Closings) (earlier expired : List (Noted A))
      → HasStaged event bound entries closed earlier expired old
      → HasStaged event bound entries (closed_at id (length entries) closed) (earlier ++ given) (expired ++ gone) new
  pub law : (bound : ℕ) (entries : List (Entry A)) (closed : Closings) (earlier expired : List (Noted A))
      → HasStaged event bound entries closed earlier expired old
      → IsReleasedInAll event (opening_since (closed id) id entries) (noted_since (closed id) id (noted_in entries))
      (noted_since (closed id) id expired) (noted_since (closed id) id (earlier ++ given))

-- The script ended: what waited is released, behind what was, as these expire. The law, of each conversation's last
-- life.
pub record IsFinished {A : Type 0} (event : A → Event) (s : StageState A) (released now : List (Noted A)) : Type 0 where
  pub given : List (Noted A)
  pub gone : List (Noted A)
  pub appended : now ≡ released ++ given
  pub in_turn : (bound : ℕ) (entries : List (Entry A)) (closed : Closings) (earlier expired : List (Noted A))
      → HasStaged event bound entries closed earlier expired s → Expires given gone
  pub law : (bound : ℕ) (entries : List (Entry A)) (closed : Closings) (earlier expired : List (Noted A))
      → HasStaged event bound entries closed earlier expired s
      → (id : ℕ) → IsReleasedInAll event (opening_since (closed id) id entries)
      (noted_since (closed id) id (noted_in entries)) (noted_since (closed id) id expired)
      (noted_since (closed id) id (earlier ++ given))
