-- The places of logs that agree: they have exactly one receipt, equal to the entry (this project's own).
use Rattle.std.specs.Prelude.{◌≡◌, ◌≢◌, ℕ, ◌<◌, ◌%◌, ◌⊎◌, ◌&&◌, ◌||◌, nat_eq, nat_lt, List, [], length, cond, map, filter, flat_map, slice_get, slice_index_or, Bool, true, false, Option, Some, None, IfSome, IsSome, Result, IfOk, All}
use Rattle.std.specs.declared.alloc.AllocError.{AllocError}
use Rattle.scrib_types.specs.declared.event.Event.{Event}
use Rattle.scrib_record.specs.Stale.{Recorded}
use Rattle.scrib_core.specs.Held.{Records, record_at}
use Rattle.scrib_locked_steps.specs.declared.pass.Receipt.{Receipt}
use Rattle.scrib_locked_steps.specs.Shards.{ShardHeld}
use Rattle.scrib_locked_steps.specs.Receipts.{entry_at}
use Rattle.scrib_locked_steps.specs.Passes.{PassHeld}
use Rattle.scrib_settlement.specs.declared.mismatch_place.MismatchPlace.{MismatchPlace}
use Rattle.scrib_settlement.specs.Shares.{records_at}

-- the receipts of all passes to a conversation
abbrev pub receipts_of : ℕ → List PassHeld → List Receipt
receipts_of id passes = flat_map (λ p. cond (nat_eq p.conversation id) p.receipts []) passes

-- the events of the receipts for a place
abbrev pub events_at : ℕ → List Receipt → List Event
events_at place receipts = map (λ r. r.event) (filter (λ r. nat_eq r.place place) receipts)

-- the number of the shard that a conversation belongs to
abbrev pub own_shard : List ShardHeld → ℕ → ℕ
own_shard shards id = id % length shards

-- the record of the conversation in its own shard
abbrev pub conversation_record : List ShardHeld → ℕ → Option Recorded
conversation_record shards id = record_at (records_at shards (own_shard shards id)) id

-- for place 1: each pass to the conversation finds it in its own shard
abbrev pub IsThere : List ShardHeld → List PassHeld → (id place : ℕ) → Type 0
IsThere shards passes id place =
    place ≡ 1 → All (λ p. p.conversation ≡ id → IsSome (conversation_record shards id)) passes

-- A place of a conversation agrees: its receipts are its entry and no more. At place 1 also each pass to the
-- conversation finds it in its own shard, and no other shard has it.
pub record PlaceAgrees (shards : List ShardHeld) (passes : List PassHeld) (id place : ℕ) : Type 0 where
  pub entries : IfSome (conversation_record shards id) (λ r.
      events_at place (receipts_of id passes) ≡ entry_at place r.log)
  pub there : IsThere shards passes id place
  pub home : place ≡ 1 → (k : ℕ) → k < length shards → IsSome (record_at (records_at shards k) id)
      → k ≡ own_shard shards id

-- A place agrees, as far as one of `count` shards shows. In the conversation's own shard its receipts are its entry. In
-- another shard its place 1 differs.
abbrev pub PlaceAgreesIn : (count at : ℕ) → List PassHeld → (id place : ℕ) → Recorded → Type 0
PlaceAgreesIn count at passes id place r =
    (nat_eq (id % count) at ≡ true → events_at place (receipts_of id passes) ≡ entry_at place r.log)
    × (nat_eq (id % count) at ≡ false → place ≢ 1)

-- the place agrees in this sense, if the shard has the conversation
abbrev pub PlaceAgreesInShard : (count at : ℕ) → Records → List PassHeld → (id place : ℕ) → Type 0
PlaceAgreesInShard count at rs passes id place =
    (k : ℕ) (r : Recorded) → slice_get rs k ≡ Some (id, r) → PlaceAgreesIn count at passes id place r

-- the place is of a lesser conversation, or a lesser place of the same one
abbrev pub IsBefore : (id place : ℕ) → MismatchPlace → Type 0
IsBefore id place d = (id < d.conversation) ⊎ ((id ≡ d.conversation) × (place < d.place))

-- the first mismatch, if any, where `S` holds of the places that agree
abbrev pub IsLeast : (S : ℕ → ℕ → Type 0) → Option MismatchPlace → Type 0
IsLeast S None = (id place : ℕ) → S id place
IsLeast S (Some d) = (S d.conversation d.place → ⊥) × ((id place : ℕ) → IsBefore id place d → S id place)

-- the first place is of a lesser conversation, or a lesser place of the same one
abbrev pub is_before : MismatchPlace → MismatchPlace → Bool
is_before a b = nat_lt a.conversation b.conversation || (nat_eq a.conversation b.conversation && nat_lt a.place b.place)

-- the lesser of two places, or the one that is given
abbrev pub earlier_of : Option MismatchPlace → Option MismatchPlace → Option MismatchPlace
earlier_of None b = b
earlier_of (Some a) None = Some a
earlier_of (Some a) (Some b) = cond (is_before b a) (Some b) (Some a)

-- the result for the shard of this number: its first mismatch, if any, or `AllocError`
abbrev pub IsFoundMismatch : List ShardHeld → List PassHeld → ℕ → Result (Option MismatchPlace) AllocError → Type 0
IsFoundMismatch shards passes k found =
    IfOk found (IsLeast (PlaceAgreesInShard (length shards) k (records_at shards k) passes))

-- the result for each shard, in order
pub record AreFound (shards : List ShardHeld) (passes : List PassHeld)
    (found : List (Result (Option MismatchPlace) AllocError)) : Type 0 where
  pub all : length found ≡ length shards
  pub each : (k : ℕ) (d : Result (Option MismatchPlace) AllocError) → k < length shards
      → IsFoundMismatch shards passes k (slice_index_or found k d)
