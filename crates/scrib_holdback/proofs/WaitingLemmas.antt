-- What waits, after an item is put in or taken out.
use Rattle.std.proofs.Common.{◌≡◌, ◌⊎◌, ◌↔◌, inl, inr, ◌||◌, not, Bool, true, false, cond, zero, suc, ℕ, ◌+◌, ◌-◌, ◌<◌, ◌≤◌, List, [], ◌∷◌, ◌++◌, length, length-append, get_or, set, position, slice_get, Option, Some, None, MatchOption, IfNone, IfSome, OnErr, Result, Ok, Err, is_some, Bor, refl, sym, ap, ◌∙◌, subst, append-nil, arith}
use Rattle.std.specs.List.{AllByRecursion, list_any}
use Rattle.std.specs.Option.{option_copied}
use Rattle.std.specs.Str.{bytes_eq}
use Rattle.std.proofs.lemmas.Bool.{true≢false, false_from_ne_true, cases_eq}
use Rattle.std.proofs.lemmas.List.{map-append, length-set}
use Rattle.scrib_types.specs.declared.event.Event.{Event}
use Rattle.scrib_types.specs.Logs.{subject_of}
use Rattle.scrib_types.specs.WellFormed.{has_role}
use Rattle.scrib_holdback.specs.declared.lanes.Lane.{Lane}
use Rattle.scrib_holdback.specs.Reorderings.{is_own}
use Rattle.scrib_holdback.specs.Waiters.{Waiters}
use Rattle.scrib_holdback.specs.Holdings.{IsOldestWaiting}
use Rattle.scrib_holdback.specs.Releases.{own_items}
use Rattle.scrib_holdback.specs.Lanes.{waiting_items, positions, lane_roles, IsPlaceOfLane, positions_at, StartsFull, AreLaid, HasPositions, IsTrimmed, IsSlotSkipped, HasNone, IsFirstItem, TakesFirst}
use Rattle.scrib_holdback.proofs.OwnEvents.{name_itself, same_name}
use Rattle.scrib_holdback.proofs.Positions.{first_at, none_at, no_any, any_left, or_true, all_without, all_weaker, all_pushed}
use Rattle.scrib_holdback.proofs.ReleaseLemmas.{own_items-append, own_item_yes}
use Rattle.scrib_holdback.proofs.SlotLemmas.{IsSlot, slot_at, no_position, no_item_no_position, items_pushed, items_emptied, positions_pushed, positions_emptied, full_pushed, full_emptied}

-- lanes by their role
got_in_place : {X : Type 0} (earlier later : List X) (x : X) → slice_get (earlier ++ x ∷ later) (length earlier) ≡ Some x
got_in_place [] later x = refl
got_in_place (y ∷ earlier) later x = got_in_place earlier later x

got_lane : (earlier later : List Lane) (lane : Lane) → slice_get (lane_roles (earlier ++ lane ∷ later)) (length earlier) ≡ Some lane.role
got_lane [] later lane = refl
got_lane (y ∷ earlier) later lane = got_lane earlier later lane

lane_found : (lanes : List Lane) (r : List ℕ) (i : ℕ) → position (λ (lane : Lane). bytes_eq r lane.role) lanes ≡ Some i → slice_get (lane_roles lanes) i ≡ Some r
lane_found lanes r i at =
    let k = first_at (λ (lane : Lane). bytes_eq r lane.role) lanes i at in
    let got : slice_get (lane_roles (k.earlier ++ k.x ∷ k.later)) i ≡ Some k.x.role = subst (λ n. slice_get (lane_roles (k.earlier ++ k.x ∷ k.later)) n ≡ Some k.x.role) k.place (got_lane k.earlier k.later k.x) in
    ap (λ z. slice_get (lane_roles z) i) k.whole ∙ got ∙ ap (λ z. Some z) (sym (same_name r k.x.role k.here))

any_role : (lanes : List Lane) (r : List ℕ) → has_role r (lane_roles lanes) ≡ list_any (λ (lane : Lane). bytes_eq r lane.role) lanes
any_role [] r = refl
any_role (lane ∷ lanes) r = ap (λ b. bytes_eq r lane.role || b) (any_role lanes r)

lane_missing : (lanes : List Lane) (r : List ℕ) → position (λ (lane : Lane). bytes_eq r lane.role) lanes ≡ None → has_role r (lane_roles lanes) ≡ false
lane_missing lanes r at =
    any_role lanes r ∙ no_any (λ (lane : Lane). bytes_eq r lane.role) lanes (none_at (λ (lane : Lane). bytes_eq r lane.role) lanes at)

pub first_placed : (lanes : List Lane) (r : List ℕ) (o : Option ℕ) → o ≡ position (λ (lane : Lane). bytes_eq r lane.role) lanes → IsPlaceOfLane r lanes o
first_placed lanes r None e = lane_missing lanes r (sym e)
first_placed lanes r (Some i) e = lane_found lanes r i (sym e)

pub lane_role : (lanes : List Lane) (i : ℕ) (lane : Lane) → slice_get lanes i ≡ Some lane → slice_get (lane_roles lanes) i ≡ Some lane.role
lane_role [] i lane e = absurd (cc)
lane_role (l ∷ lanes) zero lane e = (let same : l ≡ lane = cc in ap (λ (z : Lane). Some z.role) same)
lane_role (l ∷ lanes) (suc i) lane e = lane_role lanes i lane e

met_here : (r : List ℕ) (roles : List (List ℕ)) → has_role r (r ∷ roles) ≡ true
met_here r roles = ap (λ b. b || has_role r roles) (name_itself r)

role_met : (roles : List (List ℕ)) (r : List ℕ) (i : ℕ) → slice_get roles i ≡ Some r → has_role r roles ≡ true
role_met [] r i e = absurd (cc)
role_met (s ∷ roles) r zero e = let same : s ≡ r = cc in subst (λ z. has_role r (z ∷ roles) ≡ true) (sym same) (met_here r roles)
role_met (s ∷ roles) r (suc i) e = ap (λ b. bytes_eq r s || b) (role_met roles r i e) ∙ or_true (bytes_eq r s)

-- a role that wasn't met has nothing that waits
pub none_met : {A : Type 0} (event : A → Event) (r : List ℕ) (roles : List (List ℕ)) (items : List A) → AllByRecursion (λ x. has_role (subject_of (event x)) roles ≡ true) items → has_role r roles ≡ false → own_items event r items ≡ []
none_met event r roles [] met none = refl
none_met event r roles (x ∷ items) met none =
    let other : is_own r (event x) ≡ false = false_from_ne_true (is_own r (event x)) (λ y. true≢false (sym met.0 ∙ ap (λ z. has_role z roles) (sym (same_name r (subject_of (event x)) y)) ∙ none)) in
    ap (λ b. cond b (x ∷ own_items event r items) (own_items event r items)) other ∙ none_met event r roles items met.1 none

pub placed : {A : Type 0} (event : A → Event) (lanes : List Lane) (r : List ℕ) (items : List A) (o : Option ℕ) → AllByRecursion (λ x. has_role (subject_of (event x)) (lane_roles lanes) ≡ true) items → IsPlaceOfLane r lanes o → MatchOption o (own_items event r items ≡ []) (λ place. slice_get (lane_roles lanes) place ≡ Some r)
placed event lanes r items None met found = none_met event r (lane_roles lanes) items met found
placed event lanes r items (Some i) met found = found

-- before the first item
pub laid_nothing : {A : Type 0} (event : A → Event) (lanes : List Lane) (slots : List (Option A)) (pushed : ℕ) → lanes ≡ [] → slots ≡ [] → AreLaid event (lane_roles lanes) (positions_at lanes) slots pushed
laid_nothing event [] [] pushed e f = record {
  short = omega arith;
  distinct = λ i j r at other. absurd (cc);
  laid = λ i r at. absurd (cc);
  met = tt;
  full = tt;
}
laid_nothing event (lane ∷ lanes) slots pushed e f = absurd (cc)
laid_nothing event [] (slot ∷ slots) pushed e f = absurd (cc)

-- one more is counted, where nothing waits
pub laid_idle : {A : Type 0} (event : A → Event) (roles : List (List ℕ)) (at : ℕ → List ℕ) (slots : List (Option A)) (pushed : ℕ) → AreLaid event roles at slots pushed → waiting_items slots ≡ [] → AreLaid event roles at slots (pushed + 1)
laid_idle event roles at [] pushed l none = record {
  short = omega arith;
  distinct = l.distinct;
  laid = λ i r e. l.laid i r e;
  met = l.met;
  full = l.full;
}
laid_idle event roles at (None ∷ slots) pushed l none = absurd l.full
laid_idle event roles at (Some x ∷ slots) pushed l none = absurd (cc)

-- one lane more
got_pushed : (roles : List (List ℕ)) (r s : List ℕ) (i : ℕ) → slice_get (roles ++ r ∷ []) i ≡ Some s → (slice_get roles i ≡ Some s) ⊎ ((i ≡ length roles) × (r ≡ s))
got_pushed [] r s zero e = inr (refl, cc)
got_pushed [] r s (suc i) e = absurd (cc)
got_pushed (t ∷ roles) r s zero e = inl e
got_pushed (t ∷ roles) r s (suc i) e = elim (got_pushed roles r s i e) [ inl h ↦ inl h | inr h ↦ inr (ap suc h.0, h.1) ]

old_positions : (lanes : List Lane) (lane : Lane) (i : ℕ) (r : List ℕ) → slice_get (lane_roles lanes) i ≡ Some r → positions_at (lanes ++ lane ∷ []) i ≡ positions_at lanes i
old_positions [] lane i r e = absurd (cc)
old_positions (l ∷ lanes) lane zero r e = refl
old_positions (l ∷ lanes) lane (suc i) r e = old_positions lanes lane i r e

new_positions : (lanes : List Lane) (lane : Lane) → positions_at (lanes ++ lane ∷ []) (length (lane_roles lanes)) ≡ lane.positions.items
new_positions [] lane = refl
new_positions (l ∷ lanes) lane = new_positions lanes lane

not_met : (roles : List (List ℕ)) (r s : List ℕ) (i : ℕ) → has_role r roles ≡ false → slice_get roles i ≡ Some s → r ≡ s → ⊥
not_met roles r s i none at same = true≢false (sym (role_met roles s i at) ∙ ap (λ z. has_role z roles) (sym same) ∙ none)

same_place : (roles : List (List ℕ)) (r s : List ℕ) (i j : ℕ) → has_role r roles ≡ false → ((a b : ℕ) (t : List ℕ) → slice_get roles a ≡ Some t → slice_get roles b ≡ Some t → a ≡ b) → (slice_get roles i ≡ Some s) ⊎ ((i ≡ length roles) × (r ≡ s)) → (slice_get roles j ≡ Some s) ⊎ ((j ≡ length roles) × (r ≡ s)) → i ≡ j
same_place roles r s i j none distinct (inl a) (inl b) = distinct i j s a b
same_place roles r s i j none distinct (inl a) (inr b) = absurd (not_met roles r s i none a b.1)
same_place roles r s i j none distinct (inr a) (inl b) = absurd (not_met roles r s j none b a.1)
same_place roles r s i j none distinct (inr a) (inr b) = a.0 ∙ sym b.0

laid_here : {A : Type 0} (event : A → Event) (lanes : List Lane) (lane : Lane) (slots : List (Option A)) (pushed : ℕ) → AreLaid event (lane_roles lanes) (positions_at lanes) slots pushed → has_role lane.role (lane_roles lanes) ≡ false → lane.positions.items ≡ [] → (i : ℕ) (s : List ℕ) → (slice_get (lane_roles lanes) i ≡ Some s) ⊎ ((i ≡ length (lane_roles lanes)) × (lane.role ≡ s)) → positions_at (lanes ++ lane ∷ []) i ≡ positions (λ x. is_own s (event x)) (pushed - length slots) slots
laid_here event lanes lane slots pushed l none empty i s (inl at) = old_positions lanes lane i s at ∙ l.laid i s at
laid_here event lanes lane slots pushed l none empty i s (inr at) =
    let gone : own_items event s (waiting_items slots) ≡ [] = none_met event s (lane_roles lanes) (waiting_items slots) l.met (ap (λ z. has_role z (lane_roles lanes)) (sym at.1) ∙ none) in
    ap (positions_at (lanes ++ lane ∷ [])) at.0 ∙ new_positions lanes lane ∙ empty ∙ sym (no_item_no_position (λ x. is_own s (event x)) (pushed - length slots) slots gone)

pub laid_added : {A : Type 0} (event : A → Event) (lanes now : List Lane) (lane : Lane) (slots : List (Option A)) (pushed : ℕ) → AreLaid event (lane_roles lanes) (positions_at lanes) slots pushed → has_role lane.role (lane_roles lanes) ≡ false → lane.positions.items ≡ [] → now ≡ lanes ++ lane ∷ [] → AreLaid event (lane_roles now) (positions_at now) slots pushed
laid_added {A} event lanes now lane slots pushed l none empty more =
    let roles : lane_roles now ≡ lane_roles lanes ++ lane.role ∷ [] = ap lane_roles more ∙ map-append (λ (z : Lane). z.role) lanes (lane ∷ []) in
    let old_met : A → Type 0 = λ x. has_role (subject_of (event x)) (lane_roles lanes) ≡ true in
    let now_met : A → Type 0 = λ x. has_role (subject_of (event x)) (lane_roles now) ≡ true in
    record {
      short = l.short;
      distinct = λ i j s a b. same_place (lane_roles lanes) lane.role s i j none l.distinct (got_pushed (lane_roles lanes) lane.role s i (ap (λ z. slice_get z i) (sym roles) ∙ a)) (got_pushed (lane_roles lanes) lane.role s j (ap (λ z. slice_get z j) (sym roles) ∙ b));
      laid = λ i s a. ap (λ z. positions_at z i) more ∙ laid_here event lanes lane slots pushed l none empty i s (got_pushed (lane_roles lanes) lane.role s i (ap (λ z. slice_get z i) (sym roles) ∙ a));
      met = all_weaker old_met now_met (λ x h. ap (has_role (subject_of (event x))) roles ∙ any_left (bytes_eq (subject_of (event x))) (lane_roles lanes) (lane.role ∷ []) h) (waiting_items slots) l.met;
      full = l.full;
    }

pub role_added : (lanes now : List Lane) (lane : Lane) (r : List ℕ) (n : ℕ) → now ≡ lanes ++ lane ∷ [] → lane.role ≡ r → n ≡ length lanes → slice_get (lane_roles now) n ≡ Some r
role_added lanes now lane r n more same e =
    ap (λ z. slice_get (lane_roles z) n) more ∙ subst (λ m. slice_get (lane_roles (lanes ++ lane ∷ [])) m ≡ Some lane.role) (sym e) (got_lane lanes [] lane) ∙ ap (λ z. Some z) same

-- an item more
other_own : {A : Type 0} (event : A → Event) (r s : List ℕ) (x : A) → r ≡ subject_of (event x) → (s ≡ r → ⊥) → is_own s (event x) ≡ false
other_own event r s x mine n = false_from_ne_true (is_own s (event x)) (λ y. n (same_name s (subject_of (event x)) y ∙ sym mine))

own_own : {A : Type 0} (event : A → Event) (r : List ℕ) (x : A) → r ≡ subject_of (event x) → is_own r (event x) ≡ true
own_own event r x mine = ap (λ z. bytes_eq z (subject_of (event x))) mine ∙ name_itself (subject_of (event x))

same_role : (roles : List (List ℕ)) (i : ℕ) (r s : List ℕ) → slice_get roles i ≡ Some r → slice_get roles i ≡ Some s → s ≡ r
same_role roles i r s a b = let e : Some r ≡ Some s = sym a ∙ b in cc

pushed_here : {A : Type 0} (event : A → Event) (slots : List (Option A)) (pushed : ℕ) (x : A) (r : List ℕ) → length slots ≤ pushed → r ≡ subject_of (event x) → positions (λ y. is_own r (event y)) (pushed - length slots) (slots ++ Some x ∷ []) ≡ positions (λ y. is_own r (event y)) (pushed - length slots) slots ++ pushed ∷ []
pushed_here {A} event slots pushed x r short mine =
    let t : A → Bool = λ y. is_own r (event y) in
    let at : pushed - length slots + length slots ≡ pushed = omega (arith, short) in
    positions_pushed t (pushed - length slots) slots x
    ∙ ap (λ b. positions t (pushed - length slots) slots ++ cond b ((pushed - length slots + length slots) ∷ []) []) (own_own event r x mine)
    ∙ ap (λ n. positions t (pushed - length slots) slots ++ n ∷ []) at

pushed_elsewhere : {A : Type 0} (event : A → Event) (slots : List (Option A)) (n : ℕ) (x : A) (s : List ℕ) → is_own s (event x) ≡ false → positions (λ y. is_own s (event y)) n (slots ++ Some x ∷ []) ≡ positions (λ y. is_own s (event y)) n slots
pushed_elsewhere {A} event slots n x s other =
    let t : A → Bool = λ y. is_own s (event y) in
    positions_pushed t n slots x
    ∙ ap (λ b. positions t n slots ++ cond b ((n + length slots) ∷ []) []) other
    ∙ append-nil (positions t n slots)

pub laid_pushed : {A : Type 0} (event : A → Event) (lanes now : List Lane) (slots more : List (Option A)) (pushed place : ℕ) (x : A) → AreLaid event (lane_roles lanes) (positions_at lanes) slots pushed → slice_get (lane_roles lanes) place ≡ Some (subject_of (event x)) → HasPositions place (positions_at lanes place ++ pushed ∷ []) lanes now → more ≡ slots ++ Some x ∷ [] → AreLaid event (lane_roles now) (positions_at now) more (pushed + 1)
laid_pushed {A} event lanes now slots more pushed place x l role has e =
    let r = subject_of (event x) in
    let len : length more ≡ length slots + 1 = ap length e ∙ length-append slots (Some x ∷ []) in
    let base : pushed + 1 - length more ≡ pushed - length slots = omega (arith, len) in
    let old_met : A → Type 0 = λ y. has_role (subject_of (event y)) (lane_roles lanes) ≡ true in
    let now_met : A → Type 0 = λ y. has_role (subject_of (event y)) (lane_roles now) ≡ true in
    let to : (s : List ℕ) → positions (λ y. is_own s (event y)) (pushed + 1 - length more) more ≡ positions (λ y. is_own s (event y)) (pushed - length slots) (slots ++ Some x ∷ []) =
    λ s. ap (λ n. positions (λ y. is_own s (event y)) n more) base ∙ ap (positions (λ y. is_own s (event y)) (pushed - length slots)) e in
    record {
      short = omega (arith, len, l.short);
      distinct = λ i j s a b. l.distinct i j s (ap (λ z. slice_get z i) (sym has.roles) ∙ a) (ap (λ z. slice_get z j) (sym has.roles) ∙ b);
      laid = λ i s a. (
          let was : slice_get (lane_roles lanes) i ≡ Some s = ap (λ z. slice_get z i) (sym has.roles) ∙ a in
          elim (cases_eq i place) [
            | inl y ↦ let mine : s ≡ r = same_role (lane_roles lanes) place r s role (ap (slice_get (lane_roles lanes)) (sym y) ∙ was) in
                ap (positions_at now) y ∙ has.here ∙ ap (λ z. z ++ pushed ∷ []) (ap (positions_at lanes) (sym y) ∙ l.laid i s was) ∙ sym (pushed_here event slots pushed x s l.short mine) ∙ sym (to s)
            | inr n ↦ let other : s ≡ r → ⊥ = λ same. n (l.distinct i place r (was ∙ ap (λ z. Some z) same) role) in
                has.others i n ∙ l.laid i s was ∙ sym (pushed_elsewhere event slots (pushed - length slots) x s (other_own event r s x refl other)) ∙ sym (to s)
          ]);
      met = subst (AllByRecursion now_met) (sym (ap waiting_items e ∙ items_pushed slots x)) (all_pushed now_met (waiting_items slots) x (all_weaker old_met now_met (λ y h. ap (has_role (subject_of (event y))) has.roles ∙ h) (waiting_items slots) l.met) (ap (has_role r) has.roles ∙ role_met (lane_roles lanes) r place role));
      full = subst StartsFull (sym e) (full_pushed slots x l.full);
    }

pub some_since : (n m : ℕ) → (n ≡ 0 → ⊥) → n ≡ m → 0 < m
some_since zero m none e = absurd (none refl)
some_since (suc n) m none e = omega (arith, e)

-- an item that is counted alone
pub skipped_none : {A : Type 0} (old new : List (Option A)) → old ≡ [] → new ≡ old → IsSlotSkipped old new
skipped_none old new none same = record {
  items = ap waiting_items same;
  fits = omega (arith, ap length same);
  full = λ h. subst StartsFull (sym same) h;
  same = λ t pushed fits. ap (positions t (pushed + 1 - length new)) (same ∙ none) ∙ sym (ap (positions t (pushed - length old)) none);
}

pub skipped_one : {A : Type 0} (old new : List (Option A)) → 0 < length old → new ≡ old ++ None ∷ [] → IsSlotSkipped old new
skipped_one old new some more =
    let len : length new ≡ length old + 1 = ap length more ∙ length-append old (None ∷ []) in
    record {
      items = ap waiting_items more ∙ items_emptied old;
      fits = omega (arith, len);
      full = λ h. subst StartsFull (sym more) (full_emptied old some h);
      same = λ t pushed fits. (
          let base : pushed + 1 - length new ≡ pushed - length old = omega (arith, len) in
          ap (λ n. positions t n new) base ∙ ap (positions t (pushed - length old)) more ∙ positions_emptied t (pushed - length old) old);
    }

pub laid_skipped : {A : Type 0} (event : A → Event) (roles : List (List ℕ)) (at : ℕ → List ℕ) (slots more : List (Option A)) (pushed : ℕ) → AreLaid event roles at slots pushed → IsSlotSkipped slots more → AreLaid event roles at more (pushed + 1)
laid_skipped {A} event roles at slots more pushed l k =
    let is_met : A → Type 0 = λ y. has_role (subject_of (event y)) roles ≡ true in
    record {
      short = omega (arith, k.fits, l.short);
      distinct = l.distinct;
      laid = λ i r a. l.laid i r a ∙ sym (k.same (λ y. is_own r (event y)) pushed l.short);
      met = subst (AllByRecursion is_met) (sym k.items) l.met;
      full = k.full l.full;
    }

-- the first item of a lane
role_by_positions : (lanes : List Lane) (place p : ℕ) (ps : List ℕ) → positions_at lanes place ≡ p ∷ ps → (r : List ℕ) × (slice_get (lane_roles lanes) place ≡ Some r)
role_by_positions [] place p ps e = absurd (cc)
role_by_positions (lane ∷ lanes) zero p ps e = (lane.role, refl)
role_by_positions (lane ∷ lanes) (suc i) p ps e = role_by_positions lanes i p ps e

-- the slot of the first position of a lane
pub record IsLaneSlot {A : Type 0} (event : A → Event) (roles : List (List ℕ)) (slots : List (Option A)) (pushed place p : ℕ) (ps : List ℕ) : Type 0 where
  pub r : List ℕ
  pub role : slice_get roles place ≡ Some r
  pub slot : IsSlot (λ x. is_own r (event x)) (pushed - length slots) slots p ps

pub lane_slot : {A : Type 0} (event : A → Event) (lanes : List Lane) (slots : List (Option A)) (pushed place p : ℕ) (ps : List ℕ) → AreLaid event (lane_roles lanes) (positions_at lanes) slots pushed → positions_at lanes place ≡ p ∷ ps → IsLaneSlot event (lane_roles lanes) slots pushed place p ps
lane_slot event lanes slots pushed place p ps l e =
    let k = role_by_positions lanes place p ps e in
    record {
      r = k.0;
      role = k.1;
      slot = slot_at (λ x. is_own k.0 (event x)) (pushed - length slots) slots p ps (sym (l.laid place k.0 k.1) ∙ e);
    }

pub lane_empty : {A : Type 0} (event : A → Event) (lanes : List Lane) (slots : List (Option A)) (pushed place : ℕ) → AreLaid event (lane_roles lanes) (positions_at lanes) slots pushed → positions_at lanes place ≡ [] → (r : List ℕ) → slice_get (lane_roles lanes) place ≡ Some r → own_items event r (waiting_items slots) ≡ []
lane_empty event lanes slots pushed place l e r role =
    no_position (λ x. is_own r (event x)) (pushed - length slots) slots (sym (l.laid place r role) ∙ e)

first_own : {A : Type 0} (event : A → Event) (r : List ℕ) (items earlier later : List A) (x : A) → items ≡ earlier ++ x ∷ later → own_items event r earlier ≡ [] → is_own r (event x) ≡ true → own_items event r items ≡ x ∷ own_items event r later
first_own event r items earlier later x e none own =
    ap (own_items event r) e ∙ own_items-append event r earlier (x ∷ later) ∙ ap (λ z. z ++ own_items event r (x ∷ later)) none ∙ own_item_yes event r x later own

-- the item at the first position of a lane
pub record IsAtPosition {A : Type 0} (event : A → Event) (lanes : List Lane) (slots : List (Option A)) (pushed place p : ℕ) : Type 0 where
  pub x : A
  pub above : pushed - length slots ≤ p
  pub within : p - (pushed - length slots) < length slots
  pub slot : (d : Option A) → get_or slots (p - (pushed - length slots)) d ≡ Some x
  pub first : IsFirstItem event place record { roles = lane_roles lanes; items = waiting_items slots; pushed = pushed } x

pub first_item : {A : Type 0} (event : A → Event) (lanes : List Lane) (slots : List (Option A)) (pushed place p : ℕ) (ps : List ℕ) → AreLaid event (lane_roles lanes) (positions_at lanes) slots pushed → positions_at lanes place ≡ p ∷ ps → IsAtPosition event lanes slots pushed place p
first_item event lanes slots pushed place p ps l e =
    let k = lane_slot event lanes slots pushed place p ps l e in
    let s = k.slot in
    let index : s.index ≡ p - (pushed - length slots) = omega (arith, s.place) in
    let mine : k.r ≡ subject_of (event s.x) = same_name k.r (subject_of (event s.x)) s.own in
    let own : own_items event k.r (waiting_items slots) ≡ s.x ∷ own_items event k.r s.later = first_own event k.r (waiting_items slots) s.earlier s.later s.x s.items s.first s.own in
    record {
      x = s.x;
      above = omega (arith, s.place);
      within = omega (arith, s.place, s.within);
      slot = λ d. ap (λ n. get_or slots n d) (sym index) ∙ s.slot d;
      first = record {
        role = k.role ∙ ap (λ z. Some z) mine;
        others = own_items event k.r s.later;
        first = subst (λ z. own_items event z (waiting_items slots) ≡ s.x ∷ own_items event k.r s.later) mine own;
      };
    }

-- an item less
pub record IsPopped {A : Type 0} (event : A → Event) (lanes now : List Lane) (slots left : List (Option A)) (pushed place p : ℕ) : Type 0 where
  pub x : A
  pub slot : (d : Option A) → get_or slots (p - (pushed - length slots)) d ≡ Some x
  pub laid : AreLaid event (lane_roles now) (positions_at now) left pushed
  pub taken : TakesFirst event place record { roles = lane_roles lanes; items = waiting_items slots; pushed = pushed } record { roles = lane_roles now; items = waiting_items left; pushed = pushed } x

pub popped : {A : Type 0} (event : A → Event) (lanes now : List Lane) (slots left : List (Option A)) (pushed place p : ℕ) (ps : List ℕ) → AreLaid event (lane_roles lanes) (positions_at lanes) slots pushed → positions_at lanes place ≡ p ∷ ps → HasPositions place ps lanes now → IsTrimmed (set slots (p - (pushed - length slots)) None) left → StartsFull left → IsPopped event lanes now slots left pushed place p
popped {A} event lanes now slots left pushed place p ps l e has trimmed full =
    let k = lane_slot event lanes slots pushed place p ps l e in
    let s = k.slot in
    let index : s.index ≡ p - (pushed - length slots) = omega (arith, s.place) in
    let mine : k.r ≡ subject_of (event s.x) = same_name k.r (subject_of (event s.x)) s.own in
    let emptied : set slots s.index None ≡ set slots (p - (pushed - length slots)) None = ap (λ n. set slots n None) index in
    let t : IsTrimmed (set slots s.index None) left = subst (λ z. IsTrimmed z left) (sym emptied) trimmed in
    let len : length (set slots s.index None) ≡ length slots = length-set slots s.index None in
    let items : waiting_items left ≡ s.earlier ++ s.later = t.items ∙ s.left in
    let old_met : A → Type 0 = λ y. has_role (subject_of (event y)) (lane_roles lanes) ≡ true in
    let now_met : A → Type 0 = λ y. has_role (subject_of (event y)) (lane_roles now) ≡ true in
    let at : (r : List ℕ) → positions (λ y. is_own r (event y)) (pushed - length left) left ≡ positions (λ y. is_own r (event y)) (pushed - length slots) (set slots s.index None) =
    λ r. t.same (λ y. is_own r (event y)) pushed (omega (arith, len, l.short)) ∙ ap (λ n. positions (λ y. is_own r (event y)) (pushed - n) (set slots s.index None)) len in
    record {
      x = s.x;
      slot = λ d. ap (λ n. get_or slots n d) (sym index) ∙ s.slot d;
      laid = record {
        short = omega (arith, t.shorter, len, l.short);
        distinct = λ i j r a b. l.distinct i j r (ap (λ z. slice_get z i) (sym has.roles) ∙ a) (ap (λ z. slice_get z j) (sym has.roles) ∙ b);
        laid = λ i r a. (
            let was : slice_get (lane_roles lanes) i ≡ Some r = ap (λ z. slice_get z i) (sym has.roles) ∙ a in
            elim (cases_eq i place) [
              | inl y ↦ let same : r ≡ k.r = same_role (lane_roles lanes) place k.r r k.role (ap (slice_get (lane_roles lanes)) (sym y) ∙ was) in
                  ap (positions_at now) y ∙ has.here ∙ sym s.rest ∙ ap (λ z. positions (λ v. is_own z (event v)) (pushed - length slots) (set slots s.index None)) (sym same) ∙ sym (at r)
              | inr n ↦ let other : r ≡ k.r → ⊥ = λ same. n (l.distinct i place k.r (was ∙ ap (λ z. Some z) same) k.role) in
                  has.others i n ∙ l.laid i r was ∙ sym (s.others (λ v. is_own r (event v)) (other_own event k.r r s.x mine other)) ∙ sym (at r)
            ]);
        met = subst (AllByRecursion now_met) (sym items) (all_weaker old_met now_met (λ y h. ap (has_role (subject_of (event y))) has.roles ∙ h) (s.earlier ++ s.later) (all_without old_met s.earlier s.later s.x (subst (AllByRecursion old_met) s.items l.met)));
        full = full;
      };
      taken = record {
        role = k.role ∙ ap (λ z. Some z) mine;
        earlier = s.earlier;
        later = s.later;
        was = s.items;
        first = subst (λ z. own_items event z s.earlier ≡ []) mine s.first;
        now = items;
      };
    }

-- what is read of a slot
pub first_lent : {A : Type 0} (event : A → Event) (place : ℕ) (w : Waiters A) (o : Option (Bor A)) (x : A) → option_copied o ≡ Some x → IsFirstItem event place w x → MatchOption o (HasNone event place w) (λ b. IsFirstItem event place w b.now)
first_lent event place w None x e k = absurd (cc)
first_lent event place w (Some b) x e k = let same : b.now ≡ x = cc in subst (IsFirstItem event place w) (sym same) k

pub oldest_lent : {A : Type 0} (items : List A) (o : Option (Bor A)) (x : A) → option_copied o ≡ Some x → IsOldestWaiting items x → MatchOption o (items ≡ []) (λ b. IsOldestWaiting items b.now)
oldest_lent items None x e k = absurd (cc)
oldest_lent items (Some b) x e k = let same : b.now ≡ x = cc in subst (IsOldestWaiting items) (sym same) k

pub taken_out : {A : Type 0} (event : A → Event) (place : ℕ) (old new : Waiters A) (o : Option A) (x : A) → o ≡ Some x → TakesFirst event place old new x → MatchOption o (HasNone event place old) (λ y. TakesFirst event place old new y)
taken_out event place old new None x e k = absurd (cc)
taken_out event place old new (Some y) x e k = let same : y ≡ x = cc in subst (TakesFirst event place old new) (sym same) k

-- what is read of a lane
abbrev pub HasFirst : List ℕ → Option ℕ → Type 0
HasFirst items r = MatchOption r (items ≡ []) (λ p. (rest : List ℕ) × (items ≡ p ∷ rest))

pub first_read : (items : List ℕ) (o : Option (Bor ℕ)) (r : Option ℕ) → (is_some o ≡ true → 0 < length items) → (0 < length items → is_some o ≡ true) → IfSome o (λ x. x.now ≡ get_or items 0 x.now) → r ≡ option_copied o → HasFirst items r
first_read [] None r some none at e = subst (HasFirst []) (sym e) refl
first_read [] (Some x) r some none at e = absurd (let h : 0 < 0 = some refl in omega (arith, h))
first_read (y ∷ items) None r some none at e = absurd (true≢false (sym (none (omega arith))))
first_read (y ∷ items) (Some x) r some none at e = subst (HasFirst (y ∷ items)) (sym e) (items, ap (λ z. z ∷ items) (sym at))

pub none_left : (items : List ℕ) (o : Option ℕ) → (0 < length items → is_some o ≡ true) → IfNone o (items ≡ [])
none_left [] None some = refl
none_left (y ∷ items) None some = absurd (true≢false (sym (some (omega arith))))
none_left items (Some x) some = tt

pub on_err : {T E : Type 0} (r : Result T E) (P : Type 0) → P → OnErr r P
on_err (Ok x) P p = tt
on_err (Err e) P p = p

-- a lane without a first position is that of a role of which nothing waits
pub none_first : {A : Type 0} (event : A → Event) (lanes : List Lane) (slots : List (Option A)) (pushed place : ℕ) (r : List ℕ) (o : Option ℕ) (none : Bool) → AreLaid event (lane_roles lanes) (positions_at lanes) slots pushed → slice_get (lane_roles lanes) place ≡ Some r → HasFirst (positions_at lanes place) o → is_some o ≡ not none → (none ≡ true) ↔ (own_items event r (waiting_items slots) ≡ [])
none_first event lanes slots pushed place r None true l at f e = (λ y. lane_empty event lanes slots pushed place l f r at, λ y. refl)
none_first event lanes slots pushed place r None false l at f e = absurd (true≢false (sym e))
none_first event lanes slots pushed place r (Some p) true l at f e = absurd (true≢false e)
none_first {A} event lanes slots pushed place r (Some p) false l at f e =
    let k = first_item event lanes slots pushed place p f.0 l f.1 in
    let both : ◌≡◌ {A = Option (List ℕ)} (Some r) (Some (subject_of (event k.x))) = sym at ∙ k.first.role in
    let same : r ≡ subject_of (event k.x) = cc in (
      λ y. absurd (true≢false (sym y)),
      λ none. (let clash : ◌≡◌ {A = List A} [] (k.x ∷ k.first.others) = sym none ∙ ap (λ s. own_items event s (waiting_items slots)) same ∙ k.first.first in absurd (cc)),
    )

-- the same for the role at the lane's place, if there is a lane
pub empty_at : {A : Type 0} (event : A → Event) (lanes : List Lane) (slots : List (Option A)) (pushed place : ℕ) (o : Option ℕ) (none : Bool) → AreLaid event (lane_roles lanes) (positions_at lanes) slots pushed → HasFirst (positions_at lanes place) o → is_some o ≡ not none → (none ≡ true) ↔ HasNone event place record { roles = lane_roles lanes; items = waiting_items slots; pushed = pushed }
empty_at event lanes slots pushed place None true l f e = (λ y r at. lane_empty event lanes slots pushed place l f r at, λ y. refl)
empty_at event lanes slots pushed place None false l f e = absurd (true≢false (sym e))
empty_at event lanes slots pushed place (Some p) true l f e = absurd (true≢false e)
empty_at {A} event lanes slots pushed place (Some p) false l f e =
    let k = first_item event lanes slots pushed place p f.0 l f.1 in (
      λ y. absurd (true≢false (sym y)),
      λ none. (let clash : ◌≡◌ {A = List A} [] (k.x ∷ k.first.others) = sym (none (subject_of (event k.x)) k.first.role) ∙ k.first.first in absurd (cc)),
    )
