-- Membership in lists, by recursion.
use Rattle.std.proofs.Common.{◌≡◌, ◌≢◌, ℕ, zero, suc, ◌<◌, ◌≤◌, Bool, cond, List, [], ◌∷◌, ◌++◌, length, get_or, set, take, drop, map, ◌⊎◌, inl, inr, refl, sym, ap, ◌∙◌, subst, arith}
use Rattle.std.specs.List.{Contains, AllPairs, count_by, remove}
use Rattle.std.proofs.Math.ListN.{length-set}
use Rattle.std.proofs.Common.{drop-cons}
use Rattle.std.proofs.lemmas.List.{take-append-drop, map-append, take-map, drop-map, get_or-set_same, get_or-set_other}
use Rattle.std.proofs.lemmas.List.Sums.{sum_by-cons, sum_by-remove}
use Rattle.std.proofs.lemmas.List.Elements.{Contains-append_left, Contains-append_right, Contains-append_cases}

pub Contains-nil : {X : Type 0} (x : X) → Contains [] x → ⊥
Contains-nil x h = omega (arith, h.1)

pub Contains-head : {X : Type 0} (x : X) (xs : List X) → Contains (x ∷ xs) x
Contains-head x xs = (0, omega arith, refl)

pub Contains-head_at : {X : Type 0} (x : X) (xs : List X) (y : X) → x ≡ y → Contains (x ∷ xs) y
Contains-head_at {X} x xs y e = let P : X → Type 0 = λ z. Contains (x ∷ xs) z in subst P e (Contains-head x xs)

pub Contains-tail : {X : Type 0} (x : X) (xs : List X) (y : X) → Contains xs y → Contains (x ∷ xs) y
Contains-tail x xs y h = Contains-append_right (x ∷ []) xs y h

only_one : {X : Type 0} (x y : X) → Contains (x ∷ []) y → x ≡ y
only_one x y h = at_first h.0 h.1 h.2
  where
    at_first : (k : ℕ) → k < length (x ∷ []) → get_or (x ∷ []) k y ≡ y → x ≡ y
    at_first zero lt e = e
    at_first (suc k) lt e = absurd (omega arith)

pub Contains-cases : {X : Type 0} (x : X) (xs : List X) (y : X) → Contains (x ∷ xs) y → (x ≡ y) ⊎ Contains xs y
Contains-cases x xs y h = elim (Contains-append_cases (x ∷ []) xs y h) [ inl p ↦ inl (only_one x y p) | inr p ↦ inr p ]

pub Contains-map : {X Y : Type 0} (f : X → Y) (xs : List X) (x : X) → Contains xs x → Contains (map f xs) (f x)
Contains-map f [] x h = absurd (Contains-nil x h)
Contains-map f (y ∷ ys) x h =
    elim (Contains-cases y ys x h) [ inl e ↦ Contains-head_at (f y) (map f ys) (f x) (ap f e) | inr p ↦ Contains-tail (f y) (map f ys) (f x) (Contains-map f ys x p) ]

pub Contains-map_back : {X Y : Type 0} (f : X → Y) (xs : List X) (y : Y) → Contains (map f xs) y → (x : X) × Contains xs x × (f x ≡ y)
Contains-map_back f [] y h = absurd (Contains-nil y h)
Contains-map_back f (x ∷ xs) y h =
    elim (Contains-cases (f x) (map f xs) y h) [ inl e ↦ (x, Contains-head x xs, e) | inr p ↦ (let q = Contains-map_back f xs y p in (q.0, Contains-tail x xs q.0 q.1, q.2)) ]

pub Contains-set_cases : {X : Type 0} (xs : List X) (i : ℕ) (x y : X) → Contains (set xs i x) y → (x ≡ y) ⊎ Contains xs y
Contains-set_cases [] i x y h = absurd (Contains-nil y h)
Contains-set_cases (z ∷ zs) zero x y h = elim (Contains-cases x zs y h) [ inl e ↦ inl e | inr p ↦ inr (Contains-tail z zs y p) ]
Contains-set_cases (z ∷ zs) (suc i) x y h =
    elim (Contains-cases z (set zs i x) y h) [ inl e ↦ inr (Contains-head_at z zs y e) | inr p ↦ elim (Contains-set_cases zs i x y p) [ inl e ↦ inl e | inr q ↦ inr (Contains-tail z zs y q) ] ]

-- ---- an element taken out

split_at : {X : Type 0} (xs : List X) (i : ℕ) (y : X) → i < length xs → Contains xs y → Contains (take i xs ++ get_or xs i y ∷ drop (suc i) xs) y
split_at {X} xs i y lt p =
    let P : List X → Type 0 = λ l. Contains l y in
    subst P (sym (take-append-drop i xs) ∙ ap (λ l. take i xs ++ l) (drop-cons xs i y lt)) p

pub Contains-remove_cases : {X : Type 0} (xs : List X) (i : ℕ) (y : X) → i < length xs → Contains xs y → (get_or xs i y ≡ y) ⊎ Contains (remove xs i) y
Contains-remove_cases xs i y lt p =
    elim (Contains-append_cases (take i xs) (get_or xs i y ∷ drop (suc i) xs) y (split_at xs i y lt p)) [
      | inl q ↦ inr (Contains-append_left (take i xs) (drop (suc i) xs) y q)
      | inr q ↦ elim (Contains-cases (get_or xs i y) (drop (suc i) xs) y q) [ inl e ↦ inl e | inr r ↦ inr (Contains-append_right (take i xs) (drop (suc i) xs) y r) ]
    ]

pub Contains-remove_back : {X : Type 0} (xs : List X) (i : ℕ) (y : X) → i < length xs → Contains (remove xs i) y → Contains xs y
Contains-remove_back {X} xs i y lt p =
    let P : List X → Type 0 = λ l. Contains l y in
    let whole : take i xs ++ get_or xs i y ∷ drop (suc i) xs ≡ xs = sym (ap (λ l. take i xs ++ l) (drop-cons xs i y lt)) ∙ take-append-drop i xs in
    subst P whole (elim (Contains-append_cases (take i xs) (drop (suc i) xs) y p) [
      | inl q ↦ Contains-append_left (take i xs) (get_or xs i y ∷ drop (suc i) xs) y q
      | inr q ↦ Contains-append_right (take i xs) (get_or xs i y ∷ drop (suc i) xs) y (Contains-tail (get_or xs i y) (drop (suc i) xs) y q)
    ])

pub map-remove : {X Y : Type 0} (f : X → Y) (xs : List X) (i : ℕ) → map f (remove xs i) ≡ remove (map f xs) i
map-remove f xs i = map-append f (take i xs) (drop (suc i) xs) ∙ (λ j. sym (take-map f i xs) j ++ sym (drop-map f (suc i) xs) j)

pub Contains-set_here : {X : Type 0} (xs : List X) (i : ℕ) (x : X) → i < length xs → Contains (set xs i x) x
Contains-set_here xs i x lt = (i, omega (arith, lt, length-set xs i x), get_or-set_same xs i x x lt)

pub Contains-set_other : {X : Type 0} (xs : List X) (i : ℕ) (x y : X) → (p : Contains xs y) → (p.0 ≡ i → ⊥) → Contains (set xs i x) y
Contains-set_other xs i x y p other = (p.0, omega (arith, p.1, length-set xs i x), get_or-set_other xs i p.0 x y other ∙ p.2)

same_at : {X : Type 0} (xs : List X) (k : ℕ) (d c : X) → k < length xs → get_or xs k d ≡ get_or xs k c
same_at [] k d c lt = absurd (omega (arith, lt))
same_at (x ∷ xs) zero d c lt = refl
same_at (x ∷ xs) (suc k) d c lt = same_at xs k d c (omega (arith, lt))

-- different elements of a list count no more than the whole list
pub count_within : {X : Type 0} (p : X → Bool) (R : X → X → Type 0) → ((x y : X) → R x y → x ≢ y) → (xs ys : List X) → AllPairs R xs → ((x : X) → Contains xs x → Contains ys x) → count_by p xs ≤ count_by p ys
count_within p R apart [] ys pairs within = omega arith
count_within {X} p R apart (x ∷ xs) ys pairs within =
    let at = within x (Contains-head x xs) in
    let rest = count_within p R apart xs (remove ys at.0) (λ i j d lt l. pairs (suc i) (suc j) d (omega (arith, lt)) (omega (arith, l))) left in
    let one : X → ℕ = λ z. cond (p z) 1 0 in
    let all = sum_by-cons one x xs in
    let out = sum_by-remove one ys at.0 x at.1 in
    let same : one (get_or ys at.0 x) ≡ one x = ap one at.2 in
    omega (arith, rest, all, out, same)
  where
    other : (y : X) → Contains xs y → x ≢ y
    other y q =
        let first : R x (get_or xs q.0 y) = pairs 0 (suc q.0) y (omega arith) (omega (arith, q.1)) in
        apart x y (subst (R x) q.2 first)

    left : (y : X) → Contains xs y → Contains (remove ys (within x (Contains-head x xs)).0) y
    left y q =
        let at = within x (Contains-head x xs) in
        elim (Contains-remove_cases ys at.0 y at.1 (within y (Contains-tail x xs y q))) [
          | inl e ↦ absurd (other y q (sym at.2 ∙ same_at ys at.0 x y at.1 ∙ e))
          | inr r ↦ r
        ]
