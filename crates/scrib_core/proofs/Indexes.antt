-- The index of an entry, by its key.
use Rattle.std.proofs.Common.{◌≡◌, ◌<◌, ◌∙◌, ℕ, List, Option, Some, None, length, slice_get, get_or, position, is_some, nat_eq, option_map, refl, sym, ap, eqb-true, eq-eqb, true≢false, arith}
use Rattle.std.specs.List.{IsDistinct}
use Rattle.std.specs.Map.{keys_of, lookup}
use Rattle.std.specs.Cmp.{nat_eq_equiv}
use Rattle.std.proofs.lemmas.Option.{slice_get-map, slice_get-get_or, slice_get_within, get_or_from_slice_get, none-some, same_Some, some_pair_parts}
use Rattle.std.proofs.lemmas.List.Quantifiers.{position-Some}
use Rattle.std.proofs.lemmas.Map.Entries.{lookup_from_place}
use Rattle.std.proofs.lemmas.Map.Keys.{apart_from_distinct}

pub key_at : {X : Type 0} (es : List (ℕ × X)) (i id : ℕ) (x : X) → slice_get es i ≡ Some (id, x) → slice_get (keys_of es) i ≡ Some id
key_at {X} es i id x h = slice_get-map (λ (e : ℕ × X). e.0) es i ∙ ap (option_map (λ (e : ℕ × X). e.0)) h

-- the entry at a key's position
pub found_at : {X : Type 0} (es : List (ℕ × X)) (id i : ℕ) → position (nat_eq id) (keys_of es) ≡ Some i → (x : X) × (slice_get es i ≡ Some (id, x))
found_at {X} es id i h =
    let p = position-Some (nat_eq id) (keys_of es) i 0 h in
    let at : slice_get (keys_of es) i ≡ Some id = slice_get-get_or (keys_of es) i 0 p.0 ∙ ap Some (sym (eqb-true id (get_or (keys_of es) i 0) p.1)) in
    by (slice_get es i) refl (sym (slice_get-map (λ (e : ℕ × X). e.0) es i) ∙ at)
  where
    by : (o : Option (ℕ × X)) → slice_get es i ≡ o → option_map (λ (e : ℕ × X). e.0) o ≡ Some id → (x : X) × (slice_get es i ≡ Some (id, x))
    by None e k = absurd (none-some id k)
    by (Some (key, x)) e k = let same : key ≡ id = same_Some key id k in (x, e ∙ ap (λ (n : ℕ). let o : Option (ℕ × X) = Some (n, x) in o) same)

-- distinct keys occur at one index each
pub one_place : {X : Type 0} (es : List (ℕ × X)) (id i j : ℕ) (x y : X) → IsDistinct nat_eq (keys_of es) → slice_get es i ≡ Some (id, x) → slice_get es j ≡ Some (id, y) → i ≡ j
one_place es id i j x y distinct p q =
    let at_i : get_or (keys_of es) i 0 ≡ id = get_or_from_slice_get (keys_of es) i id 0 (key_at es i id x p) in
    let at_j : get_or (keys_of es) j 0 ≡ id = get_or_from_slice_get (keys_of es) j id 0 (key_at es j id y q) in
    let in_i : i < length (keys_of es) = slice_get_within (keys_of es) i id (key_at es i id x p) in
    let in_j : j < length (keys_of es) = slice_get_within (keys_of es) j id (key_at es j id y q) in
    let no_less : ¬ (i < j) = λ below. true≢false (sym (eq-eqb (get_or (keys_of es) i 0) (get_or (keys_of es) j 0) (at_i ∙ sym at_j)) ∙ apart_from_distinct nat_eq (keys_of es) i j 0 distinct below in_j) in
    let no_more : ¬ (j < i) = λ below. true≢false (sym (eq-eqb (get_or (keys_of es) j 0) (get_or (keys_of es) i 0) (at_j ∙ sym at_i)) ∙ apart_from_distinct nat_eq (keys_of es) j i 0 distinct below in_i) in
    omega arith

pub same_entry : {X : Type 0} (es : List (ℕ × X)) (i id j : ℕ) (x y : X) → slice_get es i ≡ Some (id, x) → slice_get es i ≡ Some (j, y) → (id ≡ j) × (x ≡ y)
same_entry {X} es i id j x y e f = let both : ◌≡◌ {A = Option (ℕ × X)} (Some (id, x)) (Some (j, y)) = sym e ∙ f in some_pair_parts id j x y both

-- the position that a search returns is the only one
pub only_at : {X : Type 0} (es : List (ℕ × X)) (id i : ℕ) (x : X) (o : Option ℕ) → IsDistinct nat_eq (keys_of es) → o ≡ position (nat_eq id) (keys_of es) → is_some o ≡ is_some (lookup (nat_eq id) es) → slice_get es i ≡ Some (id, x) → o ≡ Some i
only_at es id i x None distinct index found at =
    absurd (true≢false (sym (found ∙ ap is_some (lookup_from_place nat_eq_equiv es i id x distinct at))))
only_at es id i x (Some j) distinct index found at =
    let f = found_at es id j (sym index) in
    ap Some (one_place es id j i f.0 x distinct f.1 at)
