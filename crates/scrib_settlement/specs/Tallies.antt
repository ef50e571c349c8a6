-- Tallies of receipts against logs.
-- Only contracts of private functions cite this file.
use Rattle.std.specs.Prelude.{◌≡◌, ◌≢◌, ℕ, ◌<◌, ◌+◌, ◌%◌, ◌++◌, List, [], length, Bool, true, false, cond, Option, Some, None, IfSome, slice_get, slice_index_or}
use Rattle.scrib_types.specs.declared.event.Event.{Event}
use Rattle.scrib_record.specs.Stale.{Recorded}
use Rattle.scrib_core.specs.Held.{Records}
use Rattle.scrib_locked_steps.specs.declared.pass.Receipt.{Receipt}
use Rattle.scrib_locked_steps.specs.Receipts.{entry_at, min_place}
use Rattle.scrib_locked_steps.specs.Passes.{PassHeld}
use Rattle.scrib_settlement.specs.declared.mismatch_place.MismatchPlace.{MismatchPlace}
use Rattle.scrib_settlement.specs.declared.tally.Tally.{Tally}
use Rattle.scrib_settlement.specs.Mismatches.{PlaceAgreesIn, events_at, receipts_of}

-- whether the entry at a place still needs a receipt
abbrev pub is_due : ℕ → List Bool → Bool
is_due place due = slice_index_or due place false

-- the events of the receipts for the place so far, if none is wrong: none if one is due, else the entry, if any
abbrev pub events_so_far : ℕ → List Event → List Bool → List Event
events_so_far place log due = cond (is_due place due) [] (entry_at place log)

-- the place is below the wrong one, if there is one
abbrev pub IsBelow : ℕ → Option ℕ → Type 0
IsBelow place wrong = IfSome wrong (λ w. place < w)

-- The tally of these receipts against this log: `due` marks the places that still need a receipt. `wrong` is the least
-- place that no further receipt can repair.
pub record IsTallyOf (log : List Event) (receipts : List Receipt) (due : List Bool) (wrong : Option ℕ) : Type 0 where
  pub size : length due ≡ length log + 1
  pub owed : (place : ℕ) → is_due place due ≡ true → entry_at place log ≢ []
  pub so_far : (place : ℕ) → IsBelow place wrong → events_at place receipts ≡ events_so_far place log due
  pub never : IfSome wrong (λ w. (more : List Event) → events_at w receipts ++ more ≢ entry_at w log)

-- the lesser of two places, or the one that is given
abbrev pub lesser : Option ℕ → Option ℕ → Option ℕ
lesser None u = u
lesser (Some w) u = Some (min_place w u)

-- the least place that is due, if any
abbrev pub IsFirstDue : List Bool → Option ℕ → Type 0
IsFirstDue due None = (place : ℕ) → is_due place due ≡ false
IsFirstDue due (Some u) = (is_due u due ≡ true) × ((place : ℕ) → place < u → is_due place due ≡ false)

-- the least place of the log that differs, if any
abbrev pub IsFirstDifference : List Event → List Receipt → Option ℕ → Type 0
IsFirstDifference log receipts None = (place : ℕ) → events_at place receipts ≡ entry_at place log
IsFirstDifference log receipts (Some n) =
    (events_at n receipts ≢ entry_at n log) × ((place : ℕ) → place < n → events_at place receipts ≡ entry_at place log)

-- the place agrees, as far as the shard's first conversations show
abbrev pub PlaceAgreesBelow : (n count at : ℕ) → Records → List PassHeld → (id place : ℕ) → Type 0
PlaceAgreesBelow n count at rs passes id place =
    (k : ℕ) (r : Recorded) → k < n → slice_get rs k ≡ Some (id, r) → PlaceAgreesIn count at passes id place r

-- A tally for each of the shard's conversations. Those of conversations that belong to the shard count the receipts of
-- these passes.
pub record AreTallies (count at : ℕ) (rs : Records) (passes : List PassHeld) (ts : List Tally) : Type 0 where
  pub size : length ts ≡ length rs
  pub each : (k id : ℕ) (r : Recorded) (t : Tally) → slice_get rs k ≡ Some (id, r) → slice_get ts k ≡ Some t
      → id % count ≡ at
      → IsTallyOf r.log (receipts_of id passes) t.due.items t.wrong

-- the place with its conversation, if there is a place
abbrev pub placed_in : ℕ → Option ℕ → Option MismatchPlace
placed_in id None = None
placed_in id (Some place) = Some (record { conversation = id; place = place })
