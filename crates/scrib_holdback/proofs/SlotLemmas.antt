-- Slots, and the positions of their items.
use Rattle.std.proofs.Common.{◌≡◌, Bool, true, false, cond, zero, suc, ℕ, ◌+◌, ◌-◌, ◌<◌, ◌≤◌, List, [], ◌∷◌, ◌++◌, filter, length, get_or, set, Option, Some, None, refl, sym, ap, ◌∙◌, arith}
use Rattle.scrib_holdback.specs.declared.lanes.Lane.{Lane}
use Rattle.scrib_holdback.specs.Lanes.{waiting_items, positions, lane_roles, positions_at, HasPositions, IsTrimmed, StartsFull}
use Rattle.scrib_holdback.specs.Holdings.{IsOldestWaiting}

-- the slot at the first position
pub record IsSlot {A : Type 0} (t : A → Bool) (n : ℕ) (slots : List (Option A)) (p : ℕ) (ps : List ℕ) : Type 0 where
  pub index : ℕ
  pub place : n + index ≡ p
  pub within : index < length slots
  pub x : A
  pub slot : (d : Option A) → get_or slots index d ≡ Some x
  pub own : t x ≡ true
  pub earlier : List A
  pub later : List A
  pub items : waiting_items slots ≡ earlier ++ x ∷ later
  pub first : filter t earlier ≡ []
  pub left : waiting_items (set slots index None) ≡ earlier ++ later
  pub rest : positions t n (set slots index None) ≡ ps
  pub others : (u : A → Bool) → u x ≡ false → positions u n (set slots index None) ≡ positions u n slots

slot_here : {A : Type 0} (t : A → Bool) (n : ℕ) (x : A) (slots : List (Option A)) (p : ℕ) (ps : List ℕ) → t x ≡ true → n ∷ positions t (n + 1) slots ≡ p ∷ ps → IsSlot t n (Some x ∷ slots) p ps
slot_here t n x slots p ps y e =
    let same : n ≡ p = cc in
    let rest : positions t (n + 1) slots ≡ ps = cc in
    record {
      index = 0;
      place = omega (arith, same);
      within = omega arith;
      x = x;
      slot = λ d. refl;
      own = y;
      earlier = [];
      later = waiting_items slots;
      items = refl;
      first = refl;
      left = refl;
      rest = rest;
      others = λ u no_. sym (ap (λ b. cond b (n ∷ positions u (n + 1) slots) (positions u (n + 1) slots)) no_);
    }

slot_empty : {A : Type 0} (t : A → Bool) (n : ℕ) (slots : List (Option A)) (p : ℕ) (ps : List ℕ) → IsSlot t (n + 1) slots p ps → IsSlot t n (None ∷ slots) p ps
slot_empty t n slots p ps k = record {
  index = suc k.index;
  place = omega (arith, k.place);
  within = omega (arith, k.within);
  x = k.x;
  slot = k.slot;
  own = k.own;
  earlier = k.earlier;
  later = k.later;
  items = k.items;
  first = k.first;
  left = k.left;
  rest = k.rest;
  others = k.others;
}

slot_other : {A : Type 0} (t : A → Bool) (n : ℕ) (y : A) (slots : List (Option A)) (p : ℕ) (ps : List ℕ) → t y ≡ false → IsSlot t (n + 1) slots p ps → IsSlot t n (Some y ∷ slots) p ps
slot_other t n y slots p ps no_ k = record {
  index = suc k.index;
  place = omega (arith, k.place);
  within = omega (arith, k.within);
  x = k.x;
  slot = k.slot;
  own = k.own;
  earlier = y ∷ k.earlier;
  later = k.later;
  items = ap (λ z. y ∷ z) k.items;
  first = ap (λ b. cond b (y ∷ filter t k.earlier) (filter t k.earlier)) no_ ∙ k.first;
  left = ap (λ z. y ∷ z) k.left;
  rest = ap (λ b. cond b (n ∷ positions t (n + 1) (set slots k.index None)) (positions t (n + 1) (set slots k.index None))) no_ ∙ k.rest;
  others = λ u other. ap (λ z. cond (u y) (n ∷ z) z) (k.others u other);
}

slot_step : {A : Type 0} (t : A → Bool) (n : ℕ) (x : A) (slots : List (Option A)) (p : ℕ) (ps : List ℕ) → (positions t (n + 1) slots ≡ p ∷ ps → IsSlot t (n + 1) slots p ps) → (b : Bool) → t x ≡ b → cond b (n ∷ positions t (n + 1) slots) (positions t (n + 1) slots) ≡ p ∷ ps → IsSlot t n (Some x ∷ slots) p ps
slot_step t n x slots p ps ih true y e = slot_here t n x slots p ps y e
slot_step t n x slots p ps ih false other e = slot_other t n x slots p ps other (ih e)

pub slot_at : {A : Type 0} (t : A → Bool) (n : ℕ) (slots : List (Option A)) (p : ℕ) (ps : List ℕ) → positions t n slots ≡ p ∷ ps → IsSlot t n slots p ps
slot_at t n [] p ps e = absurd (cc)
slot_at t n (None ∷ slots) p ps e = slot_empty t n slots p ps (slot_at t (n + 1) slots p ps e)
slot_at t n (Some x ∷ slots) p ps e = slot_step t n x slots p ps (slot_at t (n + 1) slots p ps) (t x) refl e

-- no position, no item
none_step : {A : Type 0} (t : A → Bool) (n : ℕ) (x : A) (slots : List (Option A)) → (positions t (n + 1) slots ≡ [] → filter t (waiting_items slots) ≡ []) → (b : Bool) → cond b (n ∷ positions t (n + 1) slots) (positions t (n + 1) slots) ≡ [] → cond b (x ∷ filter t (waiting_items slots)) (filter t (waiting_items slots)) ≡ []
none_step t n x slots ih true e = absurd (cc)
none_step t n x slots ih false e = ih e

absent_step : {A : Type 0} (t : A → Bool) (n : ℕ) (x : A) (slots : List (Option A)) → (filter t (waiting_items slots) ≡ [] → positions t (n + 1) slots ≡ []) → (b : Bool) → cond b (x ∷ filter t (waiting_items slots)) (filter t (waiting_items slots)) ≡ [] → cond b (n ∷ positions t (n + 1) slots) (positions t (n + 1) slots) ≡ []
absent_step t n x slots ih true e = absurd (cc)
absent_step t n x slots ih false e = ih e

pub no_position : {A : Type 0} (t : A → Bool) (n : ℕ) (slots : List (Option A)) → positions t n slots ≡ [] → filter t (waiting_items slots) ≡ []
no_position t n [] e = refl
no_position t n (None ∷ slots) e = no_position t (n + 1) slots e
no_position t n (Some x ∷ slots) e = none_step t n x slots (no_position t (n + 1) slots) (t x) e

pub no_item_no_position : {A : Type 0} (t : A → Bool) (n : ℕ) (slots : List (Option A)) → filter t (waiting_items slots) ≡ [] → positions t n slots ≡ []
no_item_no_position t n [] e = refl
no_item_no_position t n (None ∷ slots) e = no_item_no_position t (n + 1) slots e
no_item_no_position t n (Some x ∷ slots) e = absent_step t n x slots (no_item_no_position t (n + 1) slots) (t x) e

-- one item more
pub items_pushed : {A : Type 0} (slots : List (Option A)) (x : A) → waiting_items (slots ++ Some x ∷ []) ≡ waiting_items slots ++ x ∷ []
items_pushed [] x = refl
items_pushed (None ∷ slots) x = items_pushed slots x
items_pushed (Some y ∷ slots) x = ap (λ z. y ∷ z) (items_pushed slots x)

last_position : (b : Bool) (n m : ℕ) → n ≡ m → cond b (n ∷ []) [] ≡ cond b (m ∷ []) []
last_position b n m e = ap (λ z. cond b (z ∷ []) []) e

cond_cons : (b : Bool) (n : ℕ) (xs ys : List ℕ) → cond b (n ∷ (xs ++ ys)) (xs ++ ys) ≡ cond b (n ∷ xs) xs ++ ys
cond_cons true n xs ys = refl
cond_cons false n xs ys = refl

pub positions_pushed : {A : Type 0} (t : A → Bool) (n : ℕ) (slots : List (Option A)) (x : A) → positions t n (slots ++ Some x ∷ []) ≡ positions t n slots ++ cond (t x) ((n + length slots) ∷ []) []
positions_pushed t n [] x = last_position (t x) n (n + 0) (omega arith)
positions_pushed t n (None ∷ slots) x =
    positions_pushed t (n + 1) slots x ∙ ap (λ z. positions t (n + 1) slots ++ z) (last_position (t x) (n + 1 + length slots) (n + suc (length slots)) (omega arith))
positions_pushed t n (Some y ∷ slots) x =
    let more : positions t (n + 1) (slots ++ Some x ∷ []) ≡ positions t (n + 1) slots ++ cond (t x) ((n + suc (length slots)) ∷ []) [] =
    positions_pushed t (n + 1) slots x ∙ ap (λ z. positions t (n + 1) slots ++ z) (last_position (t x) (n + 1 + length slots) (n + suc (length slots)) (omega arith)) in
    ap (λ z. cond (t y) (n ∷ z) z) more ∙ cond_cons (t y) n (positions t (n + 1) slots) (cond (t x) ((n + suc (length slots)) ∷ []) [])

-- one empty slot more
pub items_emptied : {A : Type 0} (slots : List (Option A)) → waiting_items (slots ++ None ∷ []) ≡ waiting_items slots
items_emptied [] = refl
items_emptied (None ∷ slots) = items_emptied slots
items_emptied (Some y ∷ slots) = ap (λ z. y ∷ z) (items_emptied slots)

pub positions_emptied : {A : Type 0} (t : A → Bool) (n : ℕ) (slots : List (Option A)) → positions t n (slots ++ None ∷ []) ≡ positions t n slots
positions_emptied t n [] = refl
positions_emptied t n (None ∷ slots) = positions_emptied t (n + 1) slots
positions_emptied t n (Some y ∷ slots) = ap (λ z. cond (t y) (n ∷ z) z) (positions_emptied t (n + 1) slots)

-- the slots of two lists
pub items_joined : {A : Type 0} (xs ys : List (Option A)) → waiting_items (xs ++ ys) ≡ waiting_items xs ++ waiting_items ys
items_joined [] ys = refl
items_joined (None ∷ xs) ys = items_joined xs ys
items_joined (Some x ∷ xs) ys = ap (λ z. x ∷ z) (items_joined xs ys)

-- items are at most as many as slots
pub items_fit : {A : Type 0} (slots : List (Option A)) → length (waiting_items slots) ≤ length slots
items_fit [] = omega arith
items_fit (None ∷ slots) = omega (arith, items_fit slots)
items_fit (Some x ∷ slots) = omega (arith, items_fit slots)

-- the first slot has the oldest item
pub full_pushed : {A : Type 0} (slots : List (Option A)) (x : A) → StartsFull slots → StartsFull (slots ++ Some x ∷ [])
full_pushed [] x h = tt
full_pushed (None ∷ slots) x h = h
full_pushed (Some y ∷ slots) x h = tt

pub full_emptied : {A : Type 0} (slots : List (Option A)) → 0 < length slots → StartsFull slots → StartsFull (slots ++ None ∷ [])
full_emptied [] some h = absurd (omega (arith, some))
full_emptied (None ∷ slots) some h = h
full_emptied (Some y ∷ slots) some h = tt

pub no_slots : {A : Type 0} (slots : List (Option A)) → (0 < length slots → ⊥) → waiting_items slots ≡ []
no_slots [] none = refl
no_slots (slot ∷ slots) none = absurd (none (omega arith))

pub record IsFirstSlot {A : Type 0} (slots : List (Option A)) : Type 0 where
  pub x : A
  pub slot : (d : Option A) → get_or slots 0 d ≡ Some x
  pub oldest : IsOldestWaiting (waiting_items slots) x

pub first_slot : {A : Type 0} (slots : List (Option A)) → 0 < length slots → StartsFull slots → IsFirstSlot slots
first_slot [] some h = absurd (omega (arith, some))
first_slot (None ∷ slots) some h = absurd h
first_slot (Some x ∷ slots) some h = record { x = x; slot = λ d. refl; oldest = (waiting_items slots, refl) }

-- an empty slot at the front
pub trimmed_none : {A : Type 0} (slots : List (Option A)) → IsTrimmed slots slots
trimmed_none slots = record { items = refl; shorter = omega arith; same = λ t pushed long. refl }

pub trimmed_more : {A : Type 0} (old mid new : List (Option A)) → IsTrimmed old mid → mid ≡ None ∷ new → IsTrimmed old new
trimmed_more old mid new k e =
    let long : length mid ≡ suc (length new) = ap length e in
    record {
      items = sym (ap waiting_items e) ∙ k.items;
      shorter = omega (arith, long, k.shorter);
      same = λ t pushed fits. (
          let n : pushed - length new ≡ (pushed - length mid) + 1 = omega (arith, long, k.shorter, fits) in
          ap (λ m. positions t m new) n ∙ sym (ap (positions t (pushed - length mid)) e) ∙ k.same t pushed fits);
    }

-- lanes
pub roles_set : (lanes : List Lane) (i : ℕ) (a b : Lane) → i < length lanes → a ≡ get_or lanes i a → b.role ≡ a.role → lane_roles (set lanes i b) ≡ lane_roles lanes
roles_set [] i a b h is same = refl
roles_set (lane ∷ lanes) zero a b h is same = ap (λ z. z ∷ lane_roles lanes) (same ∙ ap (λ (z : Lane). z.role) is)
roles_set (lane ∷ lanes) (suc i) a b h is same = ap (λ z. lane.role ∷ z) (roles_set lanes i a b (omega arith) is same)

pub positions_set : (lanes : List Lane) (i : ℕ) (b : Lane) → i < length lanes → positions_at (set lanes i b) i ≡ b.positions.items
positions_set [] i b h = absurd (omega arith)
positions_set (lane ∷ lanes) zero b h = refl
positions_set (lane ∷ lanes) (suc i) b h = positions_set lanes i b (omega arith)

pub positions_elsewhere : (lanes : List Lane) (i j : ℕ) (b : Lane) → (j ≡ i → ⊥) → positions_at (set lanes i b) j ≡ positions_at lanes j
positions_elsewhere [] i j b n = refl
positions_elsewhere (lane ∷ lanes) zero zero b n = absurd (n refl)
positions_elsewhere (lane ∷ lanes) zero (suc j) b n = refl
positions_elsewhere (lane ∷ lanes) (suc i) zero b n = refl
positions_elsewhere (lane ∷ lanes) (suc i) (suc j) b n = positions_elsewhere lanes i j b (λ e. n (ap suc e))

pub positions_read : (lanes : List Lane) (i : ℕ) (a : Lane) → i < length lanes → a ≡ get_or lanes i a → positions_at lanes i ≡ a.positions.items
positions_read [] i a h is = absurd (omega arith)
positions_read (lane ∷ lanes) zero a h is = ap (λ (z : Lane). z.positions.items) (sym is)
positions_read (lane ∷ lanes) (suc i) a h is = positions_read lanes i a (omega arith) is

pub positions_past : (lanes : List Lane) (i : ℕ) → length lanes ≤ i → positions_at lanes i ≡ []
positions_past [] i h = refl
positions_past (lane ∷ lanes) zero h = absurd (omega arith)
positions_past (lane ∷ lanes) (suc i) h = positions_past lanes i (omega arith)

pub has_positions : (lanes : List Lane) (i : ℕ) (a b : Lane) (ps : List ℕ) → i < length lanes → a ≡ get_or lanes i a → b.role ≡ a.role → b.positions.items ≡ ps → HasPositions i ps lanes (set lanes i b)
has_positions lanes i a b ps h is same is_now = record {
  roles = roles_set lanes i a b h is same;
  here = positions_set lanes i b h ∙ is_now;
  others = λ j n. positions_elsewhere lanes i j b n;
}
