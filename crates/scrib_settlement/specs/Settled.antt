-- The results of settling (this project's own).
use Rattle.std.specs.Prelude.{◌≡◌, ◌<◌, ◌++◌, ℕ, List, length, map, flat_map, Option, Some, IsPermutation, All}
use Rattle.std.specs.List.Sorted.{IsStrictlyIncreasing}
use Rattle.std.specs.Map.{keys_of}
use Rattle.scrib_record.specs.declared.version.Version.{Version}
use Rattle.scrib_record.specs.Stale.{Recorded}
use Rattle.scrib_record.specs.Told.{IsReported}
use Rattle.scrib_library.specs.Holdings.{Holdings}
use Rattle.scrib_core.specs.Held.{Records, record_at}
use Rattle.scrib_core.specs.ConversationSteps.{IsPresent}
use Rattle.scrib_locked_steps.specs.Shards.{ShardHeld}
use Rattle.scrib_locked_steps.specs.Passes.{PassHeld}
use Rattle.scrib_settlement.specs.declared.mismatch_place.MismatchPlace.{MismatchPlace}
use Rattle.scrib_core.specs.declared.ended.Ended.{Ended}
use Rattle.scrib_settlement.specs.declared.fault.SettleFault.{SettleFault}
use Rattle.scrib_settlement.specs.declared.fault.SettleFault.TheVariants.{PassesMissing, Mismatch, OutOfMemory}
use Rattle.scrib_settlement.specs.Shares.{records_at, AllAddUp, IsFirstIncomplete}
use Rattle.scrib_settlement.specs.Mismatches.{conversation_record, PlaceAgrees, IsLeast}

-- the entry of a record: its name, the length of its log, and its verdict
pub record IsEnded (h : Holdings) (r : Recorded) (e : Ended) : Type 0 where
  pub name : e.name ≡ r.name
  pub events : e.events ≡ length r.log
  pub present : Option Version
  pub is_present : IsPresent h r.name present
  pub reported : IsReported present r e.told

-- the entry of the record with its id
abbrev pub IsEndedIn : Holdings → Records → Ended → Type 0
IsEndedIn h rs e = (r : Recorded) × (record_at rs e.id ≡ Some r) × IsEnded h r e

-- the entry of a record of some shard
abbrev pub IsEndedOf : Holdings → List ShardHeld → Ended → Type 0
IsEndedOf h shards e = (k : ℕ) × (k < length shards) × IsEndedIn h (records_at shards k) e

-- the list, extended by the entry of each record, in order
pub record AreEnded (h : Holdings) (rs : Records) (old new : List Ended) : Type 0 where
  pub added : List Ended
  pub is : new ≡ old ++ added
  pub ids : map (λ e. e.id) added ≡ keys_of rs
  pub each : All (IsEndedIn h rs) added

-- Every conversation of the shards, by rising id. Each is in its own shard and has the entry of its record there.
pub record IsListed (h : Holdings) (shards : List ShardHeld) (list : List Ended) : Type 0 where
  pub all : IsPermutation (flat_map (λ s. keys_of s.records) shards) (map (λ e. e.id) list)
  pub rise : IsStrictlyIncreasing (map (λ e. e.id) list)
  pub each : All (λ e. (r : Recorded) × (conversation_record shards e.id ≡ Some r) × IsEnded h r e) list

-- why the service is not settled; `OutOfMemory` implies that no pass is missing
abbrev pub IsFault : List ShardHeld → List PassHeld → SettleFault → Type 0
IsFault shards passes (PassesMissing k) = IsFirstIncomplete shards passes k
IsFault shards passes (Mismatch id place) =
    AllAddUp shards passes × IsLeast (PlaceAgrees shards passes) (Some (record { conversation = id; place = place }))
IsFault shards passes OutOfMemory = AllAddUp shards passes

-- no pass is missing, all places agree, and every conversation is listed
pub record IsSettled (h : Holdings) (shards : List ShardHeld) (passes : List PassHeld)
    (list : List Ended) : Type 0 where
  pub complete : AllAddUp shards passes
  pub agree : (id place : ℕ) → PlaceAgrees shards passes id place
  pub listed : IsListed h shards list

-- the fault has this place, or memory was refused
abbrev pub Names : MismatchPlace → SettleFault → Type 0
Names d (PassesMissing k) = ⊥
Names d (Mismatch id place) = (id ≡ d.conversation) × (place ≡ d.place)
Names d OutOfMemory = Unit {0}
