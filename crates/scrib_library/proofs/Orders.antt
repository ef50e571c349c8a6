-- The order of full names.
use Rattle.std.proofs.Common.{◌≡◌, ◌≢◌, ℕ, zero, suc, ◌+◌, ◌<◌, ◌≤◌, List, [], ◌∷◌, length, get_or, drop, map, inl, inr, refl, sym, ap, ◌∙◌, arith}
use Rattle.std.proofs.Math.ListN.{drop_of_length-le}
use Rattle.std.specs.List.{Contains}
use Rattle.std.specs.Cmp.{IsTotalOrder}
use Rattle.std.specs.Ordering.{nat_cmp, ordering_then}
use Rattle.std.specs.declared.cmp.Ordering.{Ordering}
use Rattle.std.specs.declared.cmp.Ordering.TheVariants.{Less, Equal, Greater}
use Rattle.std.specs.Cmp.Lexicographic.{slice_cmp}
use Rattle.std.proofs.lemmas.Bool.{cases_order}
use Rattle.std.proofs.lemmas.Cmp.{nat_list_cmp_total, lists_total, tied_itself}
use Rattle.std.proofs.lemmas.List.{drop_more, length-map, get_or-map}
use Rattle.std.proofs.lemmas.Map.Lookups.{exact_bytes}
use Rattle.scrib_library.specs.Listed.{name_cmp, AreInOrder}

pub name_cmp_total : IsTotalOrder name_cmp
name_cmp_total = lists_total nat_list_cmp_total

both_equal : (o p : Ordering) → ordering_then o p ≡ Equal → (o ≡ Equal) × (p ≡ Equal)
both_equal Less p e = cc
both_equal Equal p e = (refl, e)
both_equal Greater p e = cc

-- names that compare equal are equal
pub name_exact : (a b : List (List ℕ)) → name_cmp a b ≡ Equal → a ≡ b
name_exact [] [] e = refl
name_exact [] (y ∷ ys) e = cc
name_exact (x ∷ xs) [] e = cc
name_exact (x ∷ xs) (y ∷ ys) e =
    let p = both_equal (slice_cmp nat_cmp x y) (name_cmp xs ys) e in
    λ i. exact_bytes x y p.0 i ∷ name_exact xs ys p.1 i

-- no name is before itself
pub not_before : (a b : List (List ℕ)) → a ≡ b → name_cmp a b ≡ Less → ⊥
not_before a b e less =
    let tied : name_cmp a b ≡ Equal = ap (name_cmp a) (sym e) ∙ tied_itself name_cmp_total a in
    cc

-- the step of a comparison
module _ (a b : List (List ℕ)) (i : ℕ) where
  rest_of : (c : List (List ℕ)) (x : List ℕ) → i < length c → x ≡ get_or c i x → drop i c ≡ x ∷ drop (i + 1) c
  rest_of c x lt at = drop_more c i x lt ∙ ap (λ y. y ∷ drop (i + 1) c) (sym at)

  pub cmp_step : (x y : List ℕ) → i < length a → i < length b → x ≡ get_or a i x → y ≡ get_or b i y → name_cmp a b ≡ name_cmp (drop i a) (drop i b) → name_cmp a b ≡ ordering_then (slice_cmp nat_cmp x y) (name_cmp (drop (i + 1) a) (drop (i + 1) b))
  cmp_step x y la lb p q e =
      e ∙ ap (λ l. name_cmp l (drop i b)) (rest_of a x la p) ∙ ap (name_cmp (x ∷ drop (i + 1) a)) (rest_of b y lb q)

  pub cmp_longer : (d : List ℕ) → i < length a → length b ≤ i → name_cmp a b ≡ name_cmp (drop i a) (drop i b) → Greater ≡ name_cmp a b
  cmp_longer d la lb e =
      sym (e ∙ ap (λ l. name_cmp l (drop i b)) (drop_more a i d la) ∙ ap (name_cmp (get_or a i d ∷ drop (i + 1) a)) (drop_of_length-le b lb))

  pub cmp_shorter : (d : List ℕ) → length a ≤ i → i < length b → name_cmp a b ≡ name_cmp (drop i a) (drop i b) → Less ≡ name_cmp a b
  cmp_shorter d la lb e =
      sym (e ∙ ap (λ l. name_cmp l (drop i b)) (drop_of_length-le a la) ∙ ap (name_cmp []) (drop_more b i d lb))

  pub cmp_alike : length a ≤ i → length b ≤ i → name_cmp a b ≡ name_cmp (drop i a) (drop i b) → Equal ≡ name_cmp a b
  cmp_alike la lb e =
      sym (e ∙ ap (λ l. name_cmp l (drop i b)) (drop_of_length-le a la) ∙ ap (name_cmp []) (drop_of_length-le b lb))

pub decided : (o p : Ordering) → o ≢ Equal → ordering_then o p ≡ o
decided Less p h = refl
decided Equal p h = absurd (h refl)
decided Greater p h = refl

pub get_or_any : {X : Type 0} (xs : List X) (k : ℕ) (d c : X) → k < length xs → get_or xs k d ≡ get_or xs k c
get_or_any [] k d c lt = absurd (omega (arith, lt))
get_or_any (x ∷ xs) zero d c lt = refl
get_or_any (x ∷ xs) (suc k) d c lt = get_or_any xs k d c (omega (arith, lt))

-- in ordered names, no name is at two indices
pub once : {X : Type 0} (f : X → List (List ℕ)) (xs : List X) → AreInOrder (map f xs) → (x y : X) → Contains xs x → Contains xs y → f x ≡ f y → x ≡ y
once f xs sorted x y p q e =
    let long : length (map f xs) ≡ length xs = length-map xs f in
    let i = p.0 in
    let j = q.0 in
    let at_i : get_or (map f xs) i (f x) ≡ f x = get_or-map f xs i x (f x) p.1 ∙ ap f p.2 in
    let at_j : get_or (map f xs) j (f x) ≡ f y = get_or-map f xs j y (f x) q.1 ∙ ap f q.2 in
    elim (cases_order i j) [
      | inl same ↦ sym p.2 ∙ ap (λ k. get_or xs k x) same ∙ get_or_any xs j x y q.1 ∙ q.2
      | inr r ↦ elim r [
        | inl lt ↦ absurd (not_before (get_or (map f xs) i (f x)) (get_or (map f xs) j (f x)) (at_i ∙ e ∙ sym at_j) (sorted i j (f x) lt (omega (arith, long, q.1))))
        | inr gt ↦ absurd (not_before (get_or (map f xs) j (f x)) (get_or (map f xs) i (f x)) (at_j ∙ sym e ∙ sym at_i) (sorted j i (f x) gt (omega (arith, long, p.1))))
      ]
    ]
