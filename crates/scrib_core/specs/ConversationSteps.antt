-- The effect of open, note, turn, ask and close on the records beside a library (this project's own). Each changes at
-- most the record of its id, and a close may change the order of the others.
use Rattle.std.specs.Prelude.{◌≡◌, ◌⊎◌, ℕ, Bool, true, false, ◌<◌, ◌≤◌, List, [], ◌∷◌, ◌++◌, length, Option, Some, None, nat_eq, IsSome}
use Rattle.std.specs.Map.{set_value}
use Rattle.std.specs.Option.{option_map}
use Rattle.scrib_types.specs.declared.event.Event.{Event}
use Rattle.scrib_types.specs.declared.event.Told.{Told}
use Rattle.scrib_types.specs.Agreement.{Agreement}
use Rattle.scrib_record.specs.declared.comparison.Comparison.{Comparison}
use Rattle.scrib_record.specs.declared.comparison.Comparison.TheVariants.{Whole, Numbers}
use Rattle.scrib_record.specs.declared.version.Version.{Version}
use Rattle.scrib_record.specs.CompleteRecords.{IsCompleteRecord, IsWholeVerdict}
use Rattle.scrib_record.specs.Stale.{Recorded, IsLawful, is_stale}
use Rattle.scrib_record.specs.Told.{IsNoted, IsTurned, IsReported}
use Rattle.scrib_record.specs.Turns.{new_record}
use Rattle.scrib_record.specs.Versions.{meaning_of, number_of, HaveSameStamp}
use Rattle.scrib_library.specs.Holdings.{Holdings, IsNumber}
use Rattle.scrib_library.specs.Modules.{Means, IsMeaning, MeansOnce}
use Rattle.scrib_core.specs.declared.conversation_steps.Closed.{Closed}
use Rattle.scrib_core.specs.declared.reply.Refusal.{Refusal}
use Rattle.scrib_core.specs.declared.reply.Refusal.TheVariants.{AlreadyOpen, UnknownProtocol, TooManyConversations, NoConversation, LogFull, OutOfMemory}
use Rattle.scrib_core.specs.World.{IsTakenOut}
use Rattle.scrib_core.specs.Held.{Records, record_at, IsKnown, AreKnown}
use Rattle.scrib_record.specs.declared.record.TheConstants.{MAX_EVENTS}

-- the library's version of the name, or none
pub record IsPresent (h : Holdings) (name : List (List ℕ)) (present : Option Version) : Type 0 where
  pub meaning : IsMeaning h.modules name (option_map meaning_of present)
  pub number : IsNumber h name (option_map number_of present)

-- The comparison of versions is sound for the library and the records. Comparing by number alone is so if each held
-- version is the one that its number was given to.
abbrev pub IsSoundComparison : Comparison → Holdings → Records → Type 0
IsSoundComparison Whole h rs = Unit {0}
IsSoundComparison Numbers h rs = AreKnown h rs × MeansOnce h.modules

-- the comparison is sound for the version of this record
abbrev pub IsSoundForRecord : Comparison → Holdings → Recorded → Type 0
IsSoundForRecord Whole h r = Unit {0}
IsSoundForRecord Numbers h r = IsKnown h r

-- the record of an empty log, judged under a version of this stamp
abbrev pub IsBegun : (name : List (List ℕ)) → Version → Recorded → Type 0
IsBegun name version new = (v : Version) × HaveSameStamp version v × (new ≡ new_record name v)

-- The library has the protocol, the id is free, and fewer than `limit` conversations are open. One record is added.
pub record IsOpened (limit : ℕ) (h : Holdings) (old : Records) (id : ℕ) (name : List (List ℕ))
    (new : Records) : Type 0 where
  pub absent : record_at old id ≡ None
  pub version : Version
  pub present : IsPresent h name (Some version)
  pub room : length old < limit
  pub added : new ≡ old ++ (id, new_record name version) ∷ []

-- the opening is refused for this, and for nothing before it in this list
abbrev pub OpenFails : (limit : ℕ) → Holdings → Records → ℕ → List (List ℕ) → Refusal → Type 0
OpenFails limit h old id name AlreadyOpen = IsSome (record_at old id)
OpenFails limit h old id name UnknownProtocol =
    (record_at old id ≡ None) × ((a : Agreement) → Means h.modules name a → ⊥)
OpenFails limit h old id name TooManyConversations =
    (record_at old id ≡ None) × ((a : Agreement) × Means h.modules name a) × (limit ≤ length old)
OpenFails limit h old id name OutOfMemory =
    (record_at old id ≡ None) × ((a : Agreement) × Means h.modules name a) × (length old < limit)
OpenFails limit h old id name _ = ⊥

-- the event is appended to the record of the id
pub record IsNotedAt (h : Holdings) (old : Records) (id : ℕ) (e : Event) (place : ℕ) (answer : Told)
    (new : Records) : Type 0 where
  pub before : Recorded
  pub there : record_at old id ≡ Some before
  pub room : length before.log < MAX_EVENTS
  pub present : Option Version
  pub is_present : IsPresent h before.name present
  pub after : Recorded
  pub noted : IsNoted present before e after answer
  pub lawful : IsLawful after
  pub put : new ≡ set_value (nat_eq id) old after
  pub place_is : place ≡ length after.log

-- a note is refused: the record is missing, its log is full, or memory was refused
abbrev pub NoteFails : Records → ℕ → Refusal → Type 0
NoteFails old id NoConversation = record_at old id ≡ None
NoteFails old id LogFull = (r : Recorded) × (record_at old id ≡ Some r) × (MAX_EVENTS ≤ length r.log)
NoteFails old id OutOfMemory = (r : Recorded) × (record_at old id ≡ Some r) × (length r.log < MAX_EVENTS)
NoteFails old id _ = ⊥

-- the record of the id makes a turn
pub record IsTurnedAt (h : Holdings) (old : Records) (id : ℕ) (name : List (List ℕ)) (events : ℕ) (answer : Told)
    (new : Records) : Type 0 where
  pub before : Recorded
  pub there : record_at old id ≡ Some before
  pub present : Option Version
  pub is_present : IsPresent h before.name present
  pub after : Recorded
  pub turned : IsTurned present before after answer
  pub lawful : IsLawful after
  pub put : new ≡ set_value (nat_eq id) old after
  pub name_is : name ≡ after.name
  pub events_are : events ≡ length after.log

-- the verdict of the record of the id
pub record IsAskedAt (h : Holdings) (rs : Records) (id : ℕ) (name : List (List ℕ)) (events : ℕ)
    (answer : Told) : Type 0 where
  pub of : Recorded
  pub there : record_at rs id ≡ Some of
  pub present : Option Version
  pub is_present : IsPresent h of.name present
  pub told : IsReported present of answer
  pub lawful : IsLawful of
  pub name_is : name ≡ of.name
  pub events_are : events ≡ length of.log

-- a turn or a question is refused: the record is missing, or memory was refused
abbrev pub VerdictFails : Records → ℕ → Refusal → Type 0
VerdictFails rs id NoConversation = record_at rs id ≡ None
VerdictFails rs id OutOfMemory = IsSome (record_at rs id)
VerdictFails rs id _ = ⊥

-- the record of the id is taken out, and the verdict is that on its whole log
pub record IsClosedAt (h : Holdings) (old : Records) (id : ℕ) (closed : Closed) (new : Records) : Type 0 where
  pub before : Recorded
  pub present : Option Version
  pub is_present : IsPresent h before.name present
  pub whole : IsWholeVerdict present before.log (record { verdict = closed.verdict; complete = closed.complete })
  pub name_is : closed.name ≡ before.name
  pub events_are : closed.events ≡ length before.log
  pub taken : IsTakenOut id old before new

-- a close is refused: the record is missing, or memory was refused
abbrev pub CloseFails : Records → ℕ → Refusal → Type 0
CloseFails old id NoConversation = record_at old id ≡ None
CloseFails old id OutOfMemory = IsSome (record_at old id)
CloseFails old id _ = ⊥

-- The test holds exactly where the record of the id is complete under the version that it holds, and is not stale.
abbrev pub IsCompleteTest : Holdings → Records → ℕ → Bool → Type 0
IsCompleteTest h rs id true =
    (r : Recorded) × (record_at rs id ≡ Some r) × IsCompleteRecord r
    × ((present : Option Version) × IsPresent h r.name present × (is_stale present r ≡ false))
IsCompleteTest h rs id false =
    (r : Recorded) → record_at rs id ≡ Some r
    → IsLawful r × ((IsCompleteRecord r → ⊥)
    ⊎ ((present : Option Version) × IsPresent h r.name present × (is_stale present r ≡ true)))
