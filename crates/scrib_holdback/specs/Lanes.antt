-- How what waits is stored. Only contracts of private functions and views cite this file.
use Rattle.std.specs.Prelude.{◌≡◌, ℕ, zero, suc, ◌+◌, ◌-◌, ◌≤◌, Bool, true, false, List, [], ◌∷◌, ◌++◌, map, length, slice_get, Option, Some, None, MatchOption, if◌then◌else◌}
use Rattle.std.specs.List.{AllByRecursion}
use Rattle.scrib_types.specs.declared.event.Event.{Event}
use Rattle.scrib_types.specs.Logs.{subject_of}
use Rattle.scrib_types.specs.WellFormed.{has_role}
use Rattle.scrib_holdback.specs.declared.lanes.Lane.{Lane}
use Rattle.scrib_holdback.specs.Reorderings.{is_own}
use Rattle.scrib_holdback.specs.Waiters.{Waiters}
use Rattle.scrib_holdback.specs.Releases.{own_items}

-- the items in these slots, in order
abbrev pub waiting_items : {A : Type 0} → List (Option A) → List A
waiting_items [] = []
waiting_items (None ∷ slots) = waiting_items slots
waiting_items (Some x ∷ slots) = x ∷ waiting_items slots

-- the positions of the items that pass, where n is that of the first slot
abbrev pub positions : {A : Type 0} → (A → Bool) → ℕ → List (Option A) → List ℕ
positions t n [] = []
positions t n (None ∷ slots) = positions t (n + 1) slots
positions t n (Some x ∷ slots) = if t x then n ∷ positions t (n + 1) slots else positions t (n + 1) slots

-- the roles of the lanes
abbrev pub lane_roles : List Lane → List (List ℕ)
lane_roles lanes = map (λ lane. lane.role) lanes

-- the place is that of a lane of the role, or there is none
abbrev pub IsPlaceOfLane : List ℕ → List Lane → Option ℕ → Type 0
IsPlaceOfLane r lanes None = has_role r (lane_roles lanes) ≡ false
IsPlaceOfLane r lanes (Some place) = slice_get (lane_roles lanes) place ≡ Some r

-- the positions in the lane at this place
abbrev pub positions_at : List Lane → ℕ → List ℕ
positions_at [] i = []
positions_at (lane ∷ lanes) zero = lane.positions.items
positions_at (lane ∷ lanes) (suc i) = positions_at lanes i

-- the first slot, if there is one, has an item
abbrev pub StartsFull : {A : Type 0} → List (Option A) → Type 0
StartsFull [] = Unit {0}
StartsFull (slot ∷ slots) = MatchOption slot ⊥ (λ _. Unit {0})

-- No two lanes are of one role. Each has the positions of its role's items, and each item's role has a lane. The
-- position of the last slot is that of the last item that was counted. The first slot has an item.
pub record AreLaid {A : Type 0} (event : A → Event) (roles : List (List ℕ)) (at : ℕ → List ℕ)
    (slots : List (Option A)) (pushed : ℕ) : Type 0 where
  pub short : length slots ≤ pushed
  pub distinct : (i j : ℕ) (r : List ℕ) → slice_get roles i ≡ Some r → slice_get roles j ≡ Some r → i ≡ j
  pub laid : (i : ℕ) (r : List ℕ) → slice_get roles i ≡ Some r
      → at i ≡ positions (λ x. is_own r (event x)) (pushed - length slots) slots
  pub met : AllByRecursion (λ x. has_role (subject_of (event x)) roles ≡ true) (waiting_items slots)
  pub full : StartsFull slots

-- the lane at this place has other positions
pub record HasPositions (place : ℕ) (new_positions : List ℕ) (old new : List Lane) : Type 0 where
  pub roles : lane_roles new ≡ lane_roles old
  pub here : positions_at new place ≡ new_positions
  pub others : (i : ℕ) → (i ≡ place → ⊥) → positions_at new i ≡ positions_at old i

-- empty slots are removed at the front
pub record IsTrimmed {A : Type 0} (old new : List (Option A)) : Type 0 where
  pub items : waiting_items new ≡ waiting_items old
  pub shorter : length new ≤ length old
  pub same : (t : A → Bool) (pushed : ℕ) → length old ≤ pushed
      → positions t (pushed - length new) new ≡ positions t (pushed - length old) old

-- an empty slot is put behind the others, if there are any: the next position is one more
pub record IsSlotSkipped {A : Type 0} (old new : List (Option A)) : Type 0 where
  pub items : waiting_items new ≡ waiting_items old
  pub fits : length new ≤ length old + 1
  pub full : StartsFull old → StartsFull new
  pub same : (t : A → Bool) (pushed : ℕ) → length old ≤ pushed
      → positions t (pushed + 1 - length new) new ≡ positions t (pushed - length old) old

-- nothing of the role at this place waits
abbrev pub HasNone : {A : Type 0} → (A → Event) → ℕ → Waiters A → Type 0
HasNone event place w = (r : List ℕ) → slice_get w.roles place ≡ Some r → own_items event r w.items ≡ []

-- the item is the first of the role at this place
pub record IsFirstItem {A : Type 0} (event : A → Event) (place : ℕ) (w : Waiters A) (x : A) : Type 0 where
  pub role : slice_get w.roles place ≡ Some (subject_of (event x))
  pub others : List A
  pub first : own_items event (subject_of (event x)) w.items ≡ x ∷ others

-- the first item of the role at this place is taken out
pub record TakesFirst {A : Type 0} (event : A → Event) (place : ℕ) (old new : Waiters A) (x : A) : Type 0 where
  pub role : slice_get old.roles place ≡ Some (subject_of (event x))
  pub earlier : List A
  pub later : List A
  pub was : old.items ≡ earlier ++ x ∷ later
  pub first : own_items event (subject_of (event x)) earlier ≡ []
  pub now : new.items ≡ earlier ++ later
