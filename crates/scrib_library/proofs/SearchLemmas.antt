-- A binary search by full name, and insertion at its result.
use Rattle.std.proofs.Common.{◌≡◌, ℕ, ◌+◌, ◌-◌, ◌<◌, ◌≤◌, false, List, [], ◌∷◌, ◌++◌, length, get_or, take, drop, map, Result, Ok, Err, IfOk, IfErr, ◌⊎◌, inl, inr, refl, sym, ap, ◌∙◌, subst, arith}
use Rattle.std.specs.List.{Contains, AllPairs, insert}
use Rattle.std.specs.List.Sorted.{IsSortedBy, IsSearchInRange, IsBinarySearchResult}
use Rattle.std.specs.Ordering.{is_lt, ordering_reverse}
use Rattle.std.specs.declared.cmp.Ordering.{Ordering}
use Rattle.std.specs.declared.cmp.Ordering.TheVariants.{Less, Equal, Greater}
use Rattle.std.proofs.lemmas.Bool.{cases_order, cases_lt}
use Rattle.std.proofs.lemmas.List.{get_or-map, length-map, take-append-drop, map-append, take-map, drop-map}
use Rattle.std.proofs.lemmas.List.Edits.{length-insert, get_or-insert_below, get_or-insert_at, get_or-insert_above}
use Rattle.std.proofs.lemmas.List.Elements.{Contains-append_left, Contains-append_right, Contains-append_cases}
use Rattle.std.proofs.lemmas.List.Sorted.{searchable_from_sorted}
use Rattle.scrib_library.specs.Listed.{name_cmp, AreInOrder, IsAt, IsGap}
use Rattle.scrib_library.proofs.Lists.{Contains-head_at, Contains-tail, Contains-cases}
use Rattle.scrib_library.proofs.Orders.{name_cmp_total, name_exact, not_before}

module _ {X : Type 0} where
  pub Contains-insert : (xs : List X) (i : ℕ) (x y : X) → (x ≡ y) ⊎ Contains xs y → Contains (insert xs i x) y
  Contains-insert xs i x y (inl e) = Contains-append_right (take i xs) (x ∷ drop i xs) y (Contains-head_at x (drop i xs) y e)
  Contains-insert xs i x y (inr p) =
      let split : Contains (take i xs ++ drop i xs) y = (let P : List X → Type 0 = λ l. Contains l y in subst P (sym (take-append-drop i xs)) p) in
      elim (Contains-append_cases (take i xs) (drop i xs) y split) [
        | inl q ↦ Contains-append_left (take i xs) (x ∷ drop i xs) y q
        | inr q ↦ Contains-append_right (take i xs) (x ∷ drop i xs) y (Contains-tail x (drop i xs) y q)
      ]

  whole : (xs : List X) (i : ℕ) (y : X) → Contains (take i xs ++ drop i xs) y → Contains xs y
  whole xs i y p = let P : List X → Type 0 = λ l. Contains l y in subst P (take-append-drop i xs) p

  pub Contains-insert_cases : (xs : List X) (i : ℕ) (x y : X) → Contains (insert xs i x) y → (x ≡ y) ⊎ Contains xs y
  Contains-insert_cases xs i x y p =
      elim (Contains-append_cases (take i xs) (x ∷ drop i xs) y p) [
        | inl q ↦ inr (whole xs i y (Contains-append_left (take i xs) (drop i xs) y q))
        | inr q ↦ elim (Contains-cases x (drop i xs) y q) [
          | inl e ↦ inl e
          | inr r ↦ inr (whole xs i y (Contains-append_right (take i xs) (drop i xs) y r))
        ]
      ]

  module _ (R : X → X → Type 0) (xs : List X) (at : ℕ) (x : X) (within : at ≤ length xs) where
    -- the index of each element after the insertion
    below : (k : ℕ) (d : X) → k < at → get_or (insert xs at x) k d ≡ get_or xs k d
    below k d lt = get_or-insert_below xs at x d k lt within

    here : (d : X) → get_or (insert xs at x) at d ≡ x
    here d = get_or-insert_at xs at x d within

    above : (k : ℕ) (d : X) → at < k → get_or (insert xs at x) k d ≡ get_or xs (k - 1) d
    above k d lt =
        let e : k ≡ (k - 1) + 1 = omega arith in
        ap (λ n. get_or (insert xs at x) n d) e ∙ get_or-insert_above xs at x d (k - 1) (omega arith) within

    pub AllPairs-insert : AllPairs R xs → ((k : ℕ) (d : X) → k < at → R (get_or xs k d) x) → ((k : ℕ) (d : X) → at ≤ k → k < length xs → R x (get_or xs k d)) → AllPairs R (insert xs at x)
    AllPairs-insert all before after i j d lt last =
        let long = length-insert xs at x within in
        elim (cases_order j at) [
          | inl je ↦ rw (below i d (omega arith), ap (λ n. get_or (insert xs at x) n d) je ∙ here d) (before i d (omega arith))
          | inr jr ↦ elim jr [
            | inl jb ↦ rw (below i d (omega arith), below j d jb) (all i j d lt (omega arith))
            | inr ja ↦ elim (cases_order i at) [
              | inl ie ↦ rw (ap (λ n. get_or (insert xs at x) n d) ie ∙ here d, above j d ja) (after (j - 1) d (omega arith) (omega arith))
              | inr ir ↦ elim ir [
                | inl ib ↦ rw (below i d ib, above j d ja) (all i (j - 1) d (omega arith) (omega arith))
                | inr ia ↦ rw (above i d ia, above j d ja) (all (i - 1) (j - 1) d (omega arith) (omega arith))
              ]
            ]
          ]
        ]

pub map-insert : {X Y : Type 0} (f : X → Y) (xs : List X) (i : ℕ) (x : X) → map f (insert xs i x) ≡ insert (map f xs) i (f x)
map-insert f xs i x =
    map-append f (take i xs) (x ∷ drop i xs) ∙ (λ j. sym (take-map f i xs) j ++ f x ∷ sym (drop-map f i xs) j)

-- inserting a name at its place keeps the order
pub in_order-insert : (names : List (List (List ℕ))) (i : ℕ) (name : List (List ℕ)) → AreInOrder names → IsGap names name i → AreInOrder (insert names i name)
in_order-insert names i name sorted gap =
    AllPairs-insert (λ m n. name_cmp m n ≡ Less) names i name gap.0 sorted gap.1 gap.2

less_back : (o p : Ordering) → o ≡ ordering_reverse p → o ≡ Greater → p ≡ Less
less_back o Less e g = refl
less_back o Equal e g = cc
less_back o Greater e g = cc

not_less : (o p : Ordering) → p ≡ ordering_reverse o → o ≡ Less → is_lt p ≡ false
not_less Less p e l = rw e refl
not_less Equal p e l = cc
not_less Greater p e l = cc

some_element : {X : Type 0} (xs : List X) (j : ℕ) → j < length xs → X
some_element [] j lt = absurd (omega (arith, lt))
some_element (x ∷ xs) j lt = x

module _ {X : Type 0} (f : X → List (List ℕ)) (xs : List X) where
  long : length (map f xs) ≡ length xs
  long = length-map xs f

  sorted_by_name : AreInOrder (map f xs) → IsSortedBy (λ x y. is_lt (name_cmp (f x) (f y))) xs
  sorted_by_name sorted k d low lt =
      let up = sorted k (k + 1) (f d) (omega arith) (omega (arith, long)) in
      let first = get_or-map f xs k d (f d) (omega arith) in
      let second = get_or-map f xs (k + 1) d (f d) (omega arith) in
      not_less (name_cmp (f (get_or xs k d)) (f (get_or xs (k + 1) d))) (name_cmp (f (get_or xs (k + 1) d)) (f (get_or xs k d)))
      (name_cmp_total.antisymm (f (get_or xs (k + 1) d)) (f (get_or xs k d)))
      ((λ i. name_cmp (sym first i) (sym second i)) ∙ up)

  -- the result of a binary search
  pub searched : (name : List (List ℕ)) → AreInOrder (map f xs) → (r : Result ℕ ℕ) → IsSearchInRange r (length xs) → IsBinarySearchResult (λ x. name_cmp (f x) name) xs r → IfOk r (IsAt (map f xs) name) × IfErr r (IsGap (map f xs) name)
  searched name sorted (Ok i) within found =
      let e = some_element xs i within in
      ((omega (arith, long, within), λ d. get_or-map f xs i e d within ∙ name_exact (f (get_or xs i e)) name (found e)), tt)
  searched name sorted (Err i) within found =
      let rises = searchable_from_sorted name_cmp_total f xs name (sorted_by_name sorted) in
      let parted = found rises in (
        tt,
        (
          omega (arith, long, within),
          λ k d lt.
              let inside : k < length xs = omega (arith, within, lt) in
              let e = some_element xs k inside in
              ap (λ n. name_cmp n name) (get_or-map f xs k e d inside) ∙ parted.0 k e (omega arith) lt,
          λ k d le lt.
              let inside : k < length xs = omega (arith, long, lt) in
              let e = some_element xs k inside in
              ap (λ n. name_cmp name n) (get_or-map f xs k e d inside)
              ∙ less_back (name_cmp (f (get_or xs k e)) name) (name_cmp name (f (get_or xs k e))) (name_cmp_total.antisymm (f (get_or xs k e)) name) (parted.1 k e le inside),
        ),
      )

-- a name with a gap is not among these
pub not_at_gap : (names : List (List (List ℕ))) (i : ℕ) (name : List (List ℕ)) → IsGap names name i → Contains names name → ⊥
not_at_gap names i name gap p =
    elim (cases_lt p.0 i) [
      | inl lt ↦ not_before (get_or names p.0 name) name p.2 (gap.1 p.0 name lt)
      | inr le ↦ not_before name (get_or names p.0 name) (sym p.2) (gap.2 p.0 name le p.1)
    ]

pub Contains-at : (names : List (List (List ℕ))) (i : ℕ) (name : List (List ℕ)) → IsAt names name i → Contains names name
Contains-at names i name at = (i, at.0, at.1 name)
