-- The first place in a list at which a test holds.
use Rattle.std.proofs.Common.{◌≡◌, ◌||◌, Bool, true, false, cond, not, ℕ, ◌+◌, ◌<◌, ◌≤◌, suc, ltb, List, [], ◌∷◌, ◌++◌, filter, length, get_or, remove, position, Some, None, refl, sym, ap, ◌∙◌, subst, inl, inr, arith}
use Rattle.std.specs.List.{AllByRecursion, position_or_len, list_any}
use Rattle.std.proofs.lemmas.Bool.{true≢false, cases_Bool, cond-true, cond-false, ltb-true, ltb-false}
use Rattle.std.proofs.lemmas.List.{get_or_at}

-- the element at this index is the first that passes
pub record IsFirstAt {X : Type 0} (p : X → Bool) (xs : List X) (i : ℕ) : Type 0 where
  pub earlier : List X
  pub x : X
  pub later : List X
  pub whole : xs ≡ earlier ++ x ∷ later
  pub place : length earlier ≡ i
  pub none : filter p earlier ≡ []
  pub here : p x ≡ true

first_step : {X : Type 0} (p : X → Bool) (x : X) (xs : List X) (n : ℕ) → (n < length xs → IsFirstAt p xs n) → (b : Bool) → p x ≡ b → cond (not b) (1 + n) 0 < suc (length xs) → IsFirstAt p (x ∷ xs) (cond (not b) (1 + n) 0)
first_step p x xs n ih true y h = record { earlier = []; x = x; later = xs; whole = refl; place = refl; none = refl; here = y }
first_step p x xs n ih false y h =
    let f = ih (omega arith) in
    record {
      earlier = x ∷ f.earlier;
      x = f.x;
      later = f.later;
      whole = ap (λ z. x ∷ z) f.whole;
      place = omega (arith, f.place);
      none = ap (λ b. cond b (x ∷ filter p f.earlier) (filter p f.earlier)) y ∙ f.none;
      here = f.here;
    }

first_at_len : {X : Type 0} (p : X → Bool) (xs : List X) → position_or_len p xs < length xs → IsFirstAt p xs (position_or_len p xs)
first_at_len p [] h = absurd (omega arith)
first_at_len p (x ∷ xs) h = first_step p x xs (position_or_len p xs) (first_at_len p xs) (p x) refl h

none_step : {X : Type 0} (p : X → Bool) (x : X) (xs : List X) (n : ℕ) → (length xs ≤ n → filter p xs ≡ []) → (b : Bool) → suc (length xs) ≤ cond (not b) (1 + n) 0 → cond b (x ∷ filter p xs) (filter p xs) ≡ []
none_step p x xs n ih true h = absurd (omega arith)
none_step p x xs n ih false h = ih (omega arith)

none_at_len : {X : Type 0} (p : X → Bool) (xs : List X) → length xs ≤ position_or_len p xs → filter p xs ≡ []
none_at_len p [] h = refl
none_at_len p (x ∷ xs) h = none_step p x xs (position_or_len p xs) (none_at_len p xs) (p x) h

pub first_at : {X : Type 0} (p : X → Bool) (xs : List X) (i : ℕ) → position p xs ≡ Some i → IsFirstAt p xs i
first_at p xs i e =
    let n = position_or_len p xs in
    elim (cases_Bool (ltb n (length xs))) [
      | inl y ↦ let some : Some n ≡ Some i = sym (cond-true (ltb n (length xs)) (Some n) None y) ∙ e in
          let same : n ≡ i = cc in
          subst (IsFirstAt p xs) same (first_at_len p xs (ltb-true n (length xs) y))
      | inr f ↦ let none : None ≡ Some i = sym (cond-false (ltb n (length xs)) (Some n) None f) ∙ e in absurd (cc)
    ]

pub none_at : {X : Type 0} (p : X → Bool) (xs : List X) → position p xs ≡ None → filter p xs ≡ []
none_at p xs e =
    let n = position_or_len p xs in
    elim (cases_Bool (ltb n (length xs))) [
      | inl y ↦ let some : Some n ≡ None = sym (cond-true (ltb n (length xs)) (Some n) None y) ∙ e in absurd (cc)
      | inr f ↦ none_at_len p xs (ltb-false n (length xs) f)
    ]

-- the element at the index
pub element_at : {X : Type 0} (p : X → Bool) (xs : List X) (i : ℕ) (f : IsFirstAt p xs i) (d : X) → get_or xs i d ≡ f.x
element_at p xs i f d = ap (λ z. get_or z i d) f.whole ∙ get_or_at f.earlier f.x f.later d i f.place

-- a test that passes nothing of a list
pub passes_not : {X : Type 0} (p : X → Bool) (x : X) (xs : List X) → filter p (x ∷ xs) ≡ [] → (p x ≡ false) × (filter p xs ≡ [])
passes_not p x xs h = by (p x) refl h
  where
    by : (b : Bool) → p x ≡ b → cond b (x ∷ filter p xs) (filter p xs) ≡ [] → (p x ≡ false) × (filter p xs ≡ [])
    by true e k = absurd (cc)
    by false e k = (e, k)

pub no_any : {X : Type 0} (p : X → Bool) (xs : List X) → filter p xs ≡ [] → list_any p xs ≡ false
no_any p [] h = refl
no_any p (x ∷ xs) h = let k = passes_not p x xs h in rw k.0 (no_any p xs k.1)

-- a list without the element
pub removed_at : {X : Type 0} (earlier later : List X) (x : X) → remove (earlier ++ x ∷ later) (length earlier) ≡ earlier ++ later
removed_at [] later x = refl
removed_at (y ∷ earlier) later x = ap (λ z. y ∷ z) (removed_at earlier later x)

-- tests of lists
any_step : (b x y : Bool) → (x ≡ true → y ≡ true) → (b || x) ≡ true → (b || y) ≡ true
any_step true x y h k = refl
any_step false x y h k = h k

pub any_left : {X : Type 0} (f : X → Bool) (xs ys : List X) → list_any f xs ≡ true → list_any f (xs ++ ys) ≡ true
any_left f [] ys h = absurd (true≢false (sym h))
any_left f (x ∷ xs) ys h = any_step (f x) (list_any f xs) (list_any f (xs ++ ys)) (any_left f xs ys) h

pub or_true : (b : Bool) → (b || true) ≡ true
or_true true = refl
or_true false = refl

pub any_right : {X : Type 0} (f : X → Bool) (xs ys : List X) → list_any f ys ≡ true → list_any f (xs ++ ys) ≡ true
any_right f [] ys h = h
any_right f (x ∷ xs) ys h = ap (λ b. f x || b) (any_right f xs ys h) ∙ or_true (f x)

pub any_only : {X : Type 0} (f : X → Bool) (x : X) → f x ≡ true → list_any f (x ∷ []) ≡ true
any_only f x h = ap (λ b. b || false) h

-- what holds of each element
pub all_without : {X : Type 0} (P : X → Type 0) (earlier later : List X) (x : X) → AllByRecursion P (earlier ++ x ∷ later) → AllByRecursion P (earlier ++ later)
all_without P [] later x h = h.1
all_without P (y ∷ earlier) later x h = (h.0, all_without P earlier later x h.1)

pub all_here : {X : Type 0} (P : X → Type 0) (earlier later : List X) (x : X) → AllByRecursion P (earlier ++ x ∷ later) → P x
all_here P [] later x h = h.0
all_here P (y ∷ earlier) later x h = all_here P earlier later x h.1

pub all_weaker : {X : Type 0} (P Q : X → Type 0) → ((x : X) → P x → Q x) → (xs : List X) → AllByRecursion P xs → AllByRecursion Q xs
all_weaker P Q f [] h = tt
all_weaker P Q f (x ∷ xs) h = (f x h.0, all_weaker P Q f xs h.1)

pub all_pushed : {X : Type 0} (P : X → Type 0) (xs : List X) (x : X) → AllByRecursion P xs → P x → AllByRecursion P (xs ++ x ∷ [])
all_pushed P [] x h p = (p, tt)
all_pushed P (y ∷ xs) x h p = (h.0, all_pushed P xs x h.1 p)
