-- The record at an index: its id finds it, and a write at the index is one under the id. The record that is taken out.
use Rattle.std.proofs.Common.{◌≡◌, ◌≢◌, ◌<◌, ◌+◌, ◌-◌, ◌∙◌, ℕ, zero, suc, Bool, true, false, not, cond, [], ◌∷◌, Option, Some, None, IsPermutation, length, set, slice_get, take, get_or, position, nat_eq, IfSome, refl, sym, ap, subst, eqb-true, eq-eqb, true≢false, arith}
use Rattle.std.specs.List.{IsDistinct, position_or_len, swap_remove}
use Rattle.std.specs.Map.{keys_of, set_value}
use Rattle.std.specs.Option.{option_map_or}
use Rattle.std.specs.Cmp.{nat_eq_equiv}
use Rattle.std.proofs.lemmas.Option.{slice_get_within, get_or_from_slice_get, same_Some}
use Rattle.std.proofs.lemmas.Bool.{lt-ltb}
use Rattle.std.proofs.lemmas.List.{get_or_default}
use Rattle.std.proofs.lemmas.List.Sorted.{IsPermutation-swap_remove}
use Rattle.std.proofs.lemmas.Map.Entries.{lookup_from_place}
use Rattle.std.proofs.lemmas.Map.Keys.{apart_from_distinct}
use Rattle.indexmap.specs.IndexMap.{set_value_at, swap_remove_entry}
use Rattle.scrib_record.specs.Stale.{Recorded}
use Rattle.scrib_core.specs.World.{IsTakenOut}
use Rattle.scrib_core.specs.Held.{Records, record_at, IsRecordAt}
use Rattle.scrib_core.proofs.Indexes.{key_at, found_at}

-- ---- the index of a look-up

-- the given index, if the id is there
pub is_record_read : (rs : Records) (at key id : ℕ) (r : Recorded) → Some (key, r) ≡ slice_get rs at → key ≡ id → IsRecordAt rs at id
is_record_read rs at key id r read same = (r, sym read ∙ ap (λ (n : ℕ). let o : Option (ℕ × Recorded) = Some (n, r) in o) same)

-- the index that a search returns
pub found_in_records : (rs : Records) (id : ℕ) (o : Option ℕ) → o ≡ position (nat_eq id) (keys_of rs) → IfSome o (λ at. IsRecordAt rs at id)
found_in_records rs id None index = tt
found_in_records rs id (Some at) index = found_at rs id at (sym index)

-- ---- the record at the place of its id

apart : (a b : ℕ) → nat_eq a b ≡ false → nat_eq b a ≡ false
apart a b differ = by (nat_eq b a) refl
  where
    by : (t : Bool) → nat_eq b a ≡ t → nat_eq b a ≡ false
    by true e = absurd (true≢false (sym (eq-eqb a b (sym (eqb-true b a e))) ∙ differ))
    by false e = e

-- a write at the first index of the key is one under the key
first_set : (rs : Records) (at id : ℕ) (w : Recorded) → nat_eq id (get_or (keys_of rs) at 0) ≡ true → ((k : ℕ) → k < at → nat_eq id (get_or (keys_of rs) k 0) ≡ false)
    → set_value_at rs at w ≡ set_value (nat_eq id) rs w
first_set [] at id w here before = refl
first_set (e ∷ rs) zero id w here before = rw here refl
first_set (e ∷ rs) (suc at) id w here before =
    rw (before 0 (omega arith)) (ap (λ (l : Records). e ∷ l) (first_set rs at id w here (λ k below. before (suc k) (omega arith))))

pub set_there : (rs : Records) (at id : ℕ) (w : Recorded) → IsDistinct nat_eq (keys_of rs) → IsRecordAt rs at id → set_value_at rs at w ≡ set_value (nat_eq id) rs w
set_there rs at id w distinct is_there =
    let key : slice_get (keys_of rs) at ≡ Some id = key_at rs at id is_there.0 is_there.1 in
    let here : get_or (keys_of rs) at 0 ≡ id = get_or_from_slice_get (keys_of rs) at id 0 key in
    let within : at < length (keys_of rs) = slice_get_within (keys_of rs) at id key in
    first_set rs at id w (eq-eqb id (get_or (keys_of rs) at 0) (sym here))
    (λ k below. apart (get_or (keys_of rs) k 0) id (ap (nat_eq (get_or (keys_of rs) k 0)) (sym here) ∙ apart_from_distinct nat_eq (keys_of rs) k at 0 distinct below within))

-- the record that was read at the index of an id is that of the id
pub there_read : (rs : Records) (at id key : ℕ) (r : Recorded) → IsDistinct nat_eq (keys_of rs) → IsRecordAt rs at id → slice_get rs at ≡ Some (key, r) → record_at rs id ≡ Some r
there_read rs at id key r distinct is_there value =
    let held : ℕ × Recorded = (id, is_there.0) in
    let read : ℕ × Recorded = (key, r) in
    let same : held ≡ read = same_Some held read (sym is_there.1 ∙ value) in
    lookup_from_place nat_eq_equiv rs at id is_there.0 distinct is_there.1 ∙ ap (λ (e : ℕ × Recorded). Some e.1) same

-- the index of an id is below the number of records
pub within_records : (rs : Records) (at id : ℕ) → IsRecordAt rs at id → at < length rs
within_records rs at id is_there =
    let held : ℕ × Recorded = (id, is_there.0) in
    slice_get_within rs at held is_there.1

-- ---- the record that is taken out

-- the first index of the key of a record
abbrev first_index : Records → ℕ → ℕ
first_index rs id = position_or_len (nat_eq id) (keys_of rs)

first_within : (rs : Records) (id : ℕ) (r : Recorded) → record_at rs id ≡ Some r → first_index rs id < length (keys_of rs)
first_within [] id r e = cc
first_within (d ∷ rs) id r e = by (nat_eq id d.0) e (first_within rs id r)
  where
    by : (b : Bool) → cond b (Some d.1) (record_at rs id) ≡ Some r → (record_at rs id ≡ Some r → first_index rs id < length (keys_of rs)) → cond (not b) (1 + first_index rs id) 0 < suc (length (keys_of rs))
    by true e rest = omega arith
    by false e rest = let below = rest e in omega (arith, below)

first_found : (rs : Records) (id : ℕ) (r : Recorded) → record_at rs id ≡ Some r → slice_get rs (first_index rs id) ≡ Some (id, r)
first_found [] id r e = cc
first_found (d ∷ rs) id r e = by (nat_eq id d.0) refl e (first_found rs id r)
  where
    by : (b : Bool) → nat_eq id d.0 ≡ b → cond b (Some d.1) (record_at rs id) ≡ Some r → (record_at rs id ≡ Some r → slice_get rs (first_index rs id) ≡ Some (id, r)) → slice_get (d ∷ rs) (cond (not b) (1 + first_index rs id) 0) ≡ Some (id, r)
    by true t e rest =
        let key : d.0 ≡ id = sym (eqb-true id d.0 t) in
        let value : d.1 ≡ r = same_Some d.1 r e in
        λ j. Some (key j, value j)
    by false t e rest =
        let next : 1 + first_index rs id ≡ suc (first_index rs id) = omega arith in
        ap (slice_get (d ∷ rs)) next ∙ rest e

-- the default of a removal is not read
any_default : (rs : Records) (i : ℕ) (d e : ℕ × Recorded) → 0 < length rs → swap_remove rs i d ≡ swap_remove rs i e
any_default rs i d e some = ap (λ (x : ℕ × Recorded). take (length rs - 1) (set rs i x)) (get_or_default rs (length rs - 1) d e (omega (arith, some)))

taken_by : (rs : Records) (id : ℕ) (r : Recorded) → record_at rs id ≡ Some r → IsPermutation rs ((id, r) ∷ swap_remove_entry (nat_eq id) rs)
taken_by [] id r e = cc
taken_by (d ∷ ds) id r e = subst (λ (x : Records). IsPermutation (d ∷ ds) ((id, r) ∷ x)) (sym removed) moved
  where
    within : first_index (d ∷ ds) id < length (d ∷ ds)
    within = slice_get_within (d ∷ ds) (first_index (d ∷ ds) id) (id, r) (first_found (d ∷ ds) id r e)

    there : (id, r) ≡ get_or (d ∷ ds) (first_index (d ∷ ds) id) (id, r)
    there = sym (get_or_from_slice_get (d ∷ ds) (first_index (d ∷ ds) id) (id, r) (id, r) (first_found (d ∷ ds) id r e))

    place : position (nat_eq id) (keys_of (d ∷ ds)) ≡ Some (first_index (d ∷ ds) id)
    place = ap (λ (b : Bool). cond b (Some (first_index (d ∷ ds) id)) None) (lt-ltb (first_index (d ∷ ds) id) (length (keys_of (d ∷ ds))) (first_within (d ∷ ds) id r e))

    removed : swap_remove_entry (nat_eq id) (d ∷ ds) ≡ swap_remove (d ∷ ds) (first_index (d ∷ ds) id) (id, r)
    removed = ap (λ (o : Option ℕ). option_map_or (λ k. swap_remove (d ∷ ds) k d) o (d ∷ ds)) place ∙ any_default (d ∷ ds) (first_index (d ∷ ds) id) d (id, r) (omega arith)

    moved : IsPermutation (d ∷ ds) ((id, r) ∷ swap_remove (d ∷ ds) (first_index (d ∷ ds) id) (id, r))
    moved = IsPermutation-swap_remove (d ∷ ds) (first_index (d ∷ ds) id) (id, r) within there

pub taken_out : (old new : Records) (id : ℕ) (r : Recorded) → record_at old id ≡ Some r → new ≡ swap_remove_entry (nat_eq id) old → record_at new id ≡ None → ((i : ℕ) → nat_eq id i ≡ false → record_at new i ≡ record_at old i) → IsTakenOut id old r new
taken_out old new id r there is gone others = record {
  there = there;
  rest = subst (λ (x : Records). IsPermutation old ((id, r) ∷ x)) (sym is) (taken_by old id r there);
  gone = gone;
  others = λ i differ. others i (by i differ (nat_eq id i) refl);
}
  where
    by : (i : ℕ) → i ≢ id → (b : Bool) → nat_eq id i ≡ b → nat_eq id i ≡ false
    by i differ true e = absurd (differ (sym (eqb-true id i e)))
    by i differ false e = e
