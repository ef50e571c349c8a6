-- Lists whose items pass a test, and lists in order.
use Rattle.std.proofs.Common.{◌≡◌, ◌∙◌, ℕ, suc, ◌+◌, ◌<◌, ◌≤◌, Bool, true, false, not, List, [], ◌∷◌, ◌++◌, length, filter, nat_eq, eqb-true, eq-eqb, refl, sym, ap, subst, inl, inr, length-append, arith}
use Rattle.std.specs.List.{AllByRecursion}
use Rattle.scrib_hold_stage.specs.Deadlines.{IsInOrder, how_many}
use Rattle.std.proofs.lemmas.Bool.{true≢false, cases_Bool, cond-true, cond-false}
use Rattle.std.proofs.lemmas.List.Elements.{filter-append}

-- ---- what holds of each

pub all_append : {X : Type 0} (P : X → Type 0) (xs ys : List X) → AllByRecursion P xs → AllByRecursion P ys → AllByRecursion P (xs ++ ys)
all_append P [] ys a b = b
all_append P (x ∷ xs) ys a b = (a.0, all_append P xs ys a.1 b)

pub all_left : {X : Type 0} (P : X → Type 0) (xs ys : List X) → AllByRecursion P (xs ++ ys) → AllByRecursion P xs
all_left P [] ys a = tt
all_left P (x ∷ xs) ys a = (a.0, all_left P xs ys a.1)

pub all_right : {X : Type 0} (P : X → Type 0) (xs ys : List X) → AllByRecursion P (xs ++ ys) → AllByRecursion P ys
all_right P [] ys a = a
all_right P (x ∷ xs) ys a = all_right P xs ys a.1

pub all_without : {X : Type 0} (P : X → Type 0) (xs : List X) (y : X) (ys : List X) → AllByRecursion P (xs ++ y ∷ ys) → AllByRecursion P (xs ++ ys)
all_without P xs y ys a = all_append P xs ys (all_left P xs (y ∷ ys) a) (all_right P xs (y ∷ ys) a).1

pub all_weaker : {X : Type 0} (P Q : X → Type 0) → ((x : X) → P x → Q x) → (xs : List X) → AllByRecursion P xs → AllByRecursion Q xs
all_weaker P Q w [] a = tt
all_weaker P Q w (x ∷ xs) a = (w x a.0, all_weaker P Q w xs a.1)

-- ---- how many pass

pub many-append : {X : Type 0} (p : X → Bool) (xs ys : List X) → how_many p (xs ++ ys) ≡ how_many p xs + how_many p ys
many-append p xs ys = ap length (filter-append p xs ys) ∙ length-append (filter p xs) (filter p ys)

pub many-here : {X : Type 0} (p : X → Bool) (x : X) (xs : List X) → p x ≡ true → how_many p (x ∷ xs) ≡ 1 + how_many p xs
many-here p x xs y = ap length (cond-true (p x) (x ∷ filter p xs) (filter p xs) y) ∙ omega arith

pub many-past : {X : Type 0} (p : X → Bool) (x : X) (xs : List X) → p x ≡ false → how_many p (x ∷ xs) ≡ how_many p xs
many-past p x xs n = ap length (cond-false (p x) (x ∷ filter p xs) (filter p xs) n)

pub none_pass : {X : Type 0} (p : X → Bool) (xs : List X) → AllByRecursion (λ x. p x ≡ false) xs → how_many p xs ≡ 0
none_pass p [] a = refl
none_pass p (x ∷ xs) a = many-past p x xs a.0 ∙ none_pass p xs a.1

pub no_item : {X : Type 0} (p : X → Bool) (xs : List X) → AllByRecursion (λ x. p x ≡ false) xs → filter p xs ≡ []
no_item p [] a = refl
no_item p (x ∷ xs) a = cond-false (p x) (x ∷ filter p xs) (filter p xs) a.0 ∙ no_item p xs a.1

pub each_item : {X : Type 0} (p : X → Bool) (xs : List X) → AllByRecursion (λ x. p x ≡ true) xs → filter p xs ≡ xs
each_item p [] a = refl
each_item p (x ∷ xs) a = cond-true (p x) (x ∷ filter p xs) (filter p xs) a.0 ∙ ap (λ z. x ∷ z) (each_item p xs a.1)

pub all_fail : {X : Type 0} (p : X → Bool) (xs : List X) → how_many p xs ≡ 0 → AllByRecursion (λ x. p x ≡ false) xs
all_fail p [] e = tt
all_fail p (x ∷ xs) e = elim (cases_Bool (p x)) [
  | inl y ↦ absurd (omega (arith, many-here p x xs y))
  | inr n ↦ (n, all_fail p xs (sym (many-past p x xs n) ∙ e))
]

-- each item passes of those of which each that doesn't is not there
pub all_pass : {X : Type 0} (p : X → Bool) (xs : List X) → how_many (λ x. not (p x)) xs ≡ 0 → AllByRecursion (λ x. p x ≡ true) xs
all_pass p xs e = all_weaker (λ x. not (p x) ≡ false) (λ x. p x ≡ true) (λ x. passed (p x)) xs (all_fail (λ x. not (p x)) xs e)
  where
    passed : (b : Bool) → not b ≡ false → b ≡ true
    passed true e = refl
    passed false e = absurd (true≢false e)

-- the items that a filter keeps pass
pub kept_pass : {X : Type 0} (p : X → Bool) (xs : List X) → AllByRecursion (λ x. p x ≡ true) (filter p xs)
kept_pass p [] = tt
kept_pass p (x ∷ xs) = elim (cases_Bool (p x)) [
  | inl y ↦ subst (AllByRecursion (λ x. p x ≡ true)) (sym (cond-true (p x) (x ∷ filter p xs) (filter p xs) y)) (y, kept_pass p xs)
  | inr n ↦ subst (AllByRecursion (λ x. p x ≡ true)) (sym (cond-false (p x) (x ∷ filter p xs) (filter p xs) n)) (kept_pass p xs)
]

-- what holds of each holds of those that a filter keeps
pub all_kept : {X : Type 0} (P : X → Type 0) (p : X → Bool) (xs : List X) → AllByRecursion P xs → AllByRecursion P (filter p xs)
all_kept P p [] a = tt
all_kept P p (x ∷ xs) a = elim (cases_Bool (p x)) [
  | inl y ↦ subst (AllByRecursion P) (sym (cond-true (p x) (x ∷ filter p xs) (filter p xs) y)) (a.0, all_kept P p xs a.1)
  | inr n ↦ subst (AllByRecursion P) (sym (cond-false (p x) (x ∷ filter p xs) (filter p xs) n)) (all_kept P p xs a.1)
]

-- every item passes
pub many_all : {X : Type 0} (xs : List X) → how_many (λ (x : X). true) xs ≡ length xs
many_all [] = refl
many_all (x ∷ xs) = ap suc (many_all xs)

-- ---- lists in order

module _ {X : Type 0} (time : X → ℕ) where
  pub order_left : (xs ys : List X) → IsInOrder time (xs ++ ys) → IsInOrder time xs
  order_left [] ys a = tt
  order_left (x ∷ xs) ys a = (all_left (λ m. time x < time m) xs ys a.0, order_left xs ys a.1)

  pub order_right : (xs ys : List X) → IsInOrder time (xs ++ ys) → IsInOrder time ys
  order_right [] ys a = a
  order_right (x ∷ xs) ys a = order_right xs ys a.1

  pub order_without : (xs : List X) (y : X) (ys : List X) → IsInOrder time (xs ++ y ∷ ys) → IsInOrder time (xs ++ ys)
  order_without [] y ys a = a.1
  order_without (x ∷ xs) y ys a = (all_without (λ m. time x < time m) xs y ys a.0, order_without xs y ys a.1)

  pub order_push : (xs : List X) (y : X) → IsInOrder time xs → AllByRecursion (λ m. time m < time y) xs → IsInOrder time (xs ++ y ∷ [])
  order_push [] y a b = (tt, tt)
  order_push (x ∷ xs) y a b = (all_append (λ m. time x < time m) xs (y ∷ []) a.0 (b.0, tt), order_push xs y a.1 b.1)

  pub all_before : (xs : List X) (y : X) (ys : List X) → IsInOrder time (xs ++ y ∷ ys) → AllByRecursion (λ m. time m < time y) xs
  all_before [] y ys a = tt
  all_before (x ∷ xs) y ys a = ((all_right (λ m. time x < time m) xs (y ∷ ys) a.0).0, all_before xs y ys a.1)

  pub order_kept : (p : X → Bool) (xs : List X) → IsInOrder time xs → IsInOrder time (filter p xs)
  order_kept p [] a = tt
  order_kept p (x ∷ xs) a = elim (cases_Bool (p x)) [
    | inl y ↦ subst (IsInOrder time) (sym (cond-true (p x) (x ∷ filter p xs) (filter p xs) y)) (all_kept (λ m. time x < time m) p xs a.0, order_kept p xs a.1)
    | inr n ↦ subst (IsInOrder time) (sym (cond-false (p x) (x ∷ filter p xs) (filter p xs) n)) (order_kept p xs a.1)
  ]

  -- no item behind another has its time
  pub none_behind : (n : ℕ) (xs : List X) → AllByRecursion (λ y. n < time y) xs → how_many (λ y. nat_eq n (time y)) xs ≡ 0
  none_behind n xs a = none_pass (λ y. nat_eq n (time y)) xs (all_weaker (λ y. n < time y) (λ y. nat_eq n (time y) ≡ false) (λ y b. later n (time y) b) xs a)
    where
      later : (n m : ℕ) → n < m → nat_eq n m ≡ false
      later n m b = elim (cases_Bool (nat_eq n m)) [ inl y ↦ absurd (omega (arith, eqb-true n m y)) | inr k ↦ k ]

  -- of one time there is one item at most
  pub one_at : (n : ℕ) (xs : List X) → IsInOrder time xs → how_many (λ y. nat_eq n (time y)) xs ≤ 1
  one_at n [] a = omega arith
  one_at n (x ∷ xs) a = elim (cases_Bool (nat_eq n (time x))) [
    | inl y ↦ let same : n ≡ time x = eqb-true n (time x) y in
        omega (arith, many-here (λ y. nat_eq n (time y)) x xs y, none_behind n xs (subst (λ k. AllByRecursion (λ y. k < time y) xs) (sym same) a.0))
    | inr k ↦ omega (arith, many-past (λ y. nat_eq n (time y)) x xs k, one_at n xs a.1)
  ]

  -- what holds of each time that an item has holds of each item's
  pub each_time : (P : ℕ → Type 0) (xs : List X) → ((n : ℕ) → 0 < how_many (λ y. nat_eq n (time y)) xs → P n) → AllByRecursion (λ x. P (time x)) xs
  each_time P [] f = tt
  each_time P (x ∷ xs) f = (
    f (time x) (omega (arith, many-here (λ y. nat_eq (time x) (time y)) x xs (eq-eqb (time x) (time x) refl))),
    each_time P xs (λ n some. f n (more n some)),
  )
    where
      more : (n : ℕ) → 0 < how_many (λ y. nat_eq n (time y)) xs → 0 < how_many (λ y. nat_eq n (time y)) (x ∷ xs)
      more n some = elim (cases_Bool (nat_eq n (time x))) [
        | inl y ↦ omega (arith, many-here (λ y. nat_eq n (time y)) x xs y)
        | inr k ↦ omega (arith, many-past (λ y. nat_eq n (time y)) x xs k)
      ]
