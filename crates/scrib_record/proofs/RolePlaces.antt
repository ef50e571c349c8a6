-- The places of roles.
use Rattle.std.proofs.Common.{◌≡◌, ℕ, zero, suc, ◌+◌, ◌<◌, ◌≤◌, Bool, true, false, not, cond, ◌||◌, List, [], ◌∷◌, Option, Some, None, length, get_or, slice_get, refl, sym, ap, ◌∙◌, arith}
use Rattle.std.specs.List.{position_or_len}
use Rattle.std.specs.Str.{bytes_eq}
use Rattle.std.proofs.lemmas.Bool.{true≢false}
use Rattle.std.proofs.lemmas.Grind.{common_steps}
use Rattle.std.proofs.lemmas.List.Quantifiers.{position-Some}
use Rattle.std.proofs.lemmas.Option.{same_Some, slice_get-get_or}
use Rattle.std.proofs.lemmas.Slice.Eq.{bytes_eq-Decides}
use Rattle.scrib_types.specs.WellFormed.{has_role, distinct_roles}
use Rattle.scrib_record.specs.Places.{place_in}

pub bytes_same : (p q : List ℕ) → bytes_eq p q ≡ true → p ≡ q
bytes_same p q h = (bytes_eq-Decides p q).0 h

pub bytes_itself : (p : List ℕ) → bytes_eq p p ≡ true
bytes_itself p = (bytes_eq-Decides p p).1 refl

pub place_within : (roles : List (List ℕ)) (r : List ℕ) (i : ℕ) → place_in roles r ≡ Some i → i < length roles
place_within roles r i e = (position-Some (bytes_eq r) roles i r e).0

-- the role is at its place
pub place_role : (roles : List (List ℕ)) (r : List ℕ) (i : ℕ) → place_in roles r ≡ Some i → slice_get roles i ≡ Some r
place_role roles r i e =
    let f = position-Some (bytes_eq r) roles i r e in
    slice_get-get_or roles i r f.0 ∙ ap Some (sym (bytes_same r (get_or roles i r) f.1))

-- no two roles have one place
pub same_role : (roles : List (List ℕ)) (r t : List ℕ) (i : ℕ) → place_in roles r ≡ Some i → place_in roles t ≡ Some i → r ≡ t
same_role roles r t i e f = same_Some r t (sym (place_role roles r i e) ∙ place_role roles t i f)

-- no role has two places
pub same_place : (roles : List (List ℕ)) (r t : List ℕ) (i j : ℕ) → r ≡ t → place_in roles r ≡ Some i → place_in roles t ≡ Some j → i ≡ j
same_place roles r t i j s e f = same_Some i j (sym e ∙ ap (place_in roles) s ∙ f)

none_past : (r : List ℕ) (roles : List (List ℕ)) → length roles ≤ position_or_len (bytes_eq r) roles → has_role r roles ≡ false
none_past r [] h = refl
none_past r (x ∷ xs) h = by (bytes_eq r x) h (none_past r xs)
  where
    by : (b : Bool) → suc (length xs) ≤ cond (not b) (1 + position_or_len (bytes_eq r) xs) 0 → (length xs ≤ position_or_len (bytes_eq r) xs → has_role r xs ≡ false) → (b || has_role r xs) ≡ false
    by true h rest = absurd (omega arith)
    by false h rest = rest (omega arith)

past : (r : List ℕ) (roles : List (List ℕ)) → place_in roles r ≡ None → length roles ≤ position_or_len (bytes_eq r) roles
past r roles e = grind (arith, common_steps)

-- a role without a place is not one of the roles
pub not_declared : (roles : List (List ℕ)) (r : List ℕ) → place_in roles r ≡ None → has_role r roles ≡ false
not_declared roles r e = none_past r roles (past r roles e)

-- each of the roles has a place
pub place_for : (roles : List (List ℕ)) (r : List ℕ) → has_role r roles ≡ true → (i : ℕ) × (place_in roles r ≡ Some i)
place_for roles r h = by (place_in roles r) refl
  where
    by : (o : Option ℕ) → place_in roles r ≡ o → (i : ℕ) × (place_in roles r ≡ Some i)
    by None e = absurd (true≢false (sym h ∙ not_declared roles r e))
    by (Some i) e = (i, e)

led_there : (r : List ℕ) (roles : List (List ℕ)) (i : ℕ) → slice_get roles i ≡ Some r → has_role r roles ≡ true
led_there r [] i e = absurd (cc)
led_there r (x ∷ xs) zero e = let same : x ≡ r = same_Some x r e in rw same (ap (λ b. b || has_role r xs) (bytes_itself r))
led_there r (x ∷ xs) (suc i) e = by (bytes_eq r x) (led_there r xs i e)
  where
    by : (b : Bool) → has_role r xs ≡ true → (b || has_role r xs) ≡ true
    by true h = refl
    by false h = h

-- a role with a place is one of the roles
pub is_declared : (roles : List (List ℕ)) (r : List ℕ) (i : ℕ) → place_in roles r ≡ Some i → has_role r roles ≡ true
is_declared roles r i e = led_there r roles i (place_role roles r i e)

-- the first of different roles is not among the others
twice : (r x : List ℕ) (xs : List (List ℕ)) → distinct_roles (x ∷ xs) ≡ true → x ≡ r → has_role r xs ≡ true → ⊥
twice r x xs d same h = grind (arith, common_steps)

others : (x : List ℕ) (xs : List (List ℕ)) → distinct_roles (x ∷ xs) ≡ true → distinct_roles xs ≡ true
others x xs d = grind (arith, common_steps)

-- each of different roles is at one place
led_once : (r : List ℕ) (roles : List (List ℕ)) (i j : ℕ) → distinct_roles roles ≡ true → slice_get roles i ≡ Some r → slice_get roles j ≡ Some r → i ≡ j
led_once r [] i j d e f = absurd (cc)
led_once r (x ∷ xs) zero zero d e f = refl
led_once r (x ∷ xs) zero (suc j) d e f = absurd (twice r x xs d (same_Some x r e) (led_there r xs j f))
led_once r (x ∷ xs) (suc i) zero d e f = absurd (twice r x xs d (same_Some x r f) (led_there r xs i e))
led_once r (x ∷ xs) (suc i) (suc j) d e f = ap suc (led_once r xs i j (others x xs d) e f)

-- the place at which one of different roles is, is its place
pub place_at : (roles : List (List ℕ)) (r : List ℕ) (i : ℕ) → distinct_roles roles ≡ true → slice_get roles i ≡ Some r → place_in roles r ≡ Some i
place_at roles r i d e =
    let found = place_for roles r (led_there r roles i e) in
    found.1 ∙ ap Some (led_once r roles found.0 i d (place_role roles r found.0 found.1) e)
