-- One more entry of a script.
use Rattle.std.proofs.Common.{◌≡◌, ◌∙◌, ℕ, ◌+◌, ◌<◌, ◌≤◌, true, false, cond, List, [], ◌∷◌, ◌++◌, Option, None, Some, length, nat_eq, ltb, filter, ◌&&◌, Bool, eqb-true, eq-eqb, refl, sym, ap, subst, inl, inr, append-nil, arith}
use Rattle.std.specs.List.{AllByRecursion}
use Rattle.std.proofs.lemmas.Bool.{true≢false, cases_Bool, cond-true, cond-false, lt-ltb, le-ltb, and_from, and_left, and_right, and_parts}
use Rattle.std.proofs.lemmas.List.Elements.{filter-append}
use Rattle.scrib_hold_stage.specs.declared.noted.Noted.{Noted}
use Rattle.scrib_hold_stage.specs.Entries.{Entry, Notes, Opens, Passes, is_of, is_since, noted_since, noted_in, opens, opening_from, HasTime, AreNumberedFrom}
use Rattle.scrib_hold_stage.specs.Deadlines.{IsInOrder}
use Rattle.scrib_hold_stage.proofs.Lists.{all_weaker, each_item, no_item}

-- the events of one more entry
pub noted-append : {A : Type 0} (es : List (Entry A)) (e : Entry A) → noted_in (es ++ e ∷ []) ≡ noted_in es ++ noted_in (e ∷ [])
noted-append [] e = refl
noted-append (Notes x ∷ es) e = ap (λ z. x ∷ z) (noted-append es e)
noted-append (Opens id ∷ es) e = noted-append es e
noted-append (Passes ∷ es) e = noted-append es e

-- ---- openings

some_none : {X : Type 0} (x : X) → ◌≡◌ {A = Option X} None (Some x) → ⊥
some_none x e = absurd (cc)

-- the entry opens the conversation, and is later than this time
abbrev opens_since : {A : Type 0} → (n time id : ℕ) → Entry A → Bool
opens_since n time id e = opens id e && ltb time n

-- an opening stays
pub opening_stays : {A : Type 0} (n time id m : ℕ) (es : List (Entry A)) (e : Entry A) → opening_from n time id es ≡ Some m → opening_from n time id (es ++ e ∷ []) ≡ Some m
opening_stays n time id m [] e o = absurd (some_none m o)
opening_stays n time id m (f ∷ es) e o = elim (cases_Bool (opens_since n time id f)) [
  | inl y ↦ cond-true (opens_since n time id f) (Some n) (opening_from (n + 1) time id (es ++ e ∷ [])) y ∙ sym (cond-true (opens_since n time id f) (Some n) (opening_from (n + 1) time id es) y) ∙ o
  | inr k ↦ cond-false (opens_since n time id f) (Some n) (opening_from (n + 1) time id (es ++ e ∷ [])) k
      ∙ opening_stays (n + 1) time id m es e (sym (cond-false (opens_since n time id f) (Some n) (opening_from (n + 1) time id es) k) ∙ o)
]

-- an entry that doesn't open the conversation changes nothing
pub opening_other : {A : Type 0} (n time id : ℕ) (es : List (Entry A)) (e : Entry A) → opens id e ≡ false → opening_from n time id (es ++ e ∷ []) ≡ opening_from n time id es
opening_other n time id [] e differs = cond-false (opens_since n time id e) (Some n) None (and_left (opens id e) (ltb time n) differs)
opening_other n time id (f ∷ es) e differs = ap (λ z. cond (opens_since n time id f) (Some n) z) (opening_other (n + 1) time id es e differs)

-- the first opening is here
pub opening_here : {A : Type 0} (n time id : ℕ) (es : List (Entry A)) (e : Entry A) → opens id e ≡ true → time < n + length es → opening_from n time id es ≡ None → opening_from n time id (es ++ e ∷ []) ≡ Some (n + length es)
opening_here n time id [] e here later none =
    cond-true (opens_since n time id e) (Some n) None (and_from (opens id e) (ltb time n) here (lt-ltb time n (omega arith))) ∙ ap Some (omega arith)
opening_here n time id (f ∷ es) e here later none = elim (cases_Bool (opens_since n time id f)) [
  | inl y ↦ absurd (some_none n (sym none ∙ cond-true (opens_since n time id f) (Some n) (opening_from (n + 1) time id es) y))
  | inr k ↦ cond-false (opens_since n time id f) (Some n) (opening_from (n + 1) time id (es ++ e ∷ [])) k
      ∙ opening_here (n + 1) time id es e here (omega arith) (sym (cond-false (opens_since n time id f) (Some n) (opening_from (n + 1) time id es) k) ∙ none)
      ∙ ap Some (omega arith)
]

same_some : (a b : ℕ) → Some a ≡ Some b → a ≡ b
same_some a b e = cc

-- an opening is one of the entries
pub opening_before : {A : Type 0} (n time id m : ℕ) (es : List (Entry A)) → opening_from n time id es ≡ Some m → m < n + length es
opening_before n time id m [] o = absurd (some_none m o)
opening_before n time id m (f ∷ es) o = elim (cases_Bool (opens_since n time id f)) [
  | inl y ↦ omega (arith, same_some n m (sym (cond-true (opens_since n time id f) (Some n) (opening_from (n + 1) time id es) y) ∙ o))
  | inr k ↦ omega (arith, opening_before (n + 1) time id m es (sym (cond-false (opens_since n time id f) (Some n) (opening_from (n + 1) time id es) k) ∙ o))
]

-- no entry is later than the last
pub opening_none : {A : Type 0} (n time id : ℕ) (es : List (Entry A)) → n + length es ≤ time + 1 → opening_from n time id es ≡ None
opening_none n time id [] le = refl
opening_none n time id (f ∷ es) le =
    cond-false (opens_since n time id f) (Some n) (opening_from (n + 1) time id es) (and_right (opens id f) (ltb time n) (le-ltb time n (omega arith)))
    ∙ opening_none (n + 1) time id es (omega arith)

-- ---- times

pub numbered_push : {A : Type 0} (n : ℕ) (es : List (Entry A)) (e : Entry A) → AreNumberedFrom n es → HasTime (n + length es) e → AreNumberedFrom n (es ++ e ∷ [])
numbered_push n [] e a h = let at : n + 0 ≡ n = omega arith in (subst (λ k. HasTime k e) at h, tt)
numbered_push n (f ∷ es) e a h = let at : n + length (f ∷ es) ≡ n + 1 + length es = omega arith in (a.0, numbered_push (n + 1) es e a.1 (subst (λ k. HasTime k e) at h))

from_less : {A : Type 0} (n m : ℕ) → n ≤ m → (xs : List (Noted A)) → AllByRecursion (λ x. m ≤ x.time) xs → AllByRecursion (λ x. n ≤ x.time) xs
from_less {A} n m le xs a = all_weaker (λ (y : Noted A). m ≤ y.time) (λ (y : Noted A). n ≤ y.time) (λ y h. omega arith) xs a

pub noted_from : {A : Type 0} (n : ℕ) (es : List (Entry A)) → AreNumberedFrom n es → AllByRecursion (λ x. n ≤ x.time) (noted_in es)
noted_from n [] a = tt
noted_from n (Notes x ∷ es) a = (omega (arith, a.0), from_less n (n + 1) (omega arith) (noted_in es) (noted_from (n + 1) es a.1))
noted_from n (Opens id ∷ es) a = from_less n (n + 1) (omega arith) (noted_in es) (noted_from (n + 1) es a.1)
noted_from n (Passes ∷ es) a = from_less n (n + 1) (omega arith) (noted_in es) (noted_from (n + 1) es a.1)

before_more : {A : Type 0} (n m : ℕ) → n ≤ m → (xs : List (Noted A)) → AllByRecursion (λ x. x.time < n) xs → AllByRecursion (λ x. x.time < m) xs
before_more {A} n m le xs a = all_weaker (λ (y : Noted A). y.time < n) (λ (y : Noted A). y.time < m) (λ y h. omega arith) xs a

pub noted_before : {A : Type 0} (n : ℕ) (es : List (Entry A)) → AreNumberedFrom n es → AllByRecursion (λ x. x.time < n + length es) (noted_in es)
noted_before n [] a = tt
noted_before n (Notes x ∷ es) a = (omega (arith, a.0), before_more (n + 1 + length es) (n + length (Notes x ∷ es)) (omega arith) (noted_in es) (noted_before (n + 1) es a.1))
noted_before {A} n (Opens id ∷ es) a = let f : Entry A = Opens id in before_more (n + 1 + length es) (n + length (f ∷ es)) (omega arith) (noted_in es) (noted_before (n + 1) es a.1)
noted_before {A} n (Passes ∷ es) a = let f : Entry A = Passes in before_more (n + 1 + length es) (n + length (f ∷ es)) (omega arith) (noted_in es) (noted_before (n + 1) es a.1)

-- the time of an event
abbrev pub time_of : {A : Type 0} → Noted A → ℕ
time_of x = x.time

pub noted_in_order : {A : Type 0} (n : ℕ) (es : List (Entry A)) → AreNumberedFrom n es → IsInOrder time_of (noted_in es)
noted_in_order n [] a = tt
noted_in_order {A} n (Notes x ∷ es) a = (all_weaker (λ (y : Noted A). n + 1 ≤ y.time) (λ (y : Noted A). x.time < y.time) (λ y h. omega (arith, a.0)) (noted_in es) (noted_from (n + 1) es a.1), noted_in_order (n + 1) es a.1)
noted_in_order n (Opens id ∷ es) a = noted_in_order (n + 1) es a.1
noted_in_order n (Passes ∷ es) a = noted_in_order (n + 1) es a.1

-- ---- the items of a conversation

-- more items that pass
pub own_added : {A : Type 0} (mine : Noted A → Bool) (items more : List (Noted A)) → AllByRecursion (λ x. mine x ≡ true) more → filter mine (items ++ more) ≡ filter mine items ++ more
own_added mine items more own = filter-append mine items more ∙ ap (λ z. filter mine items ++ z) (each_item mine more own)

-- the conversation's item of this time or later
pub since_own : {A : Type 0} (time id : ℕ) (x : Noted A) → nat_eq id x.conversation ≡ true → time < x.time → is_since time id x ≡ true
since_own time id x same later = and_from (nat_eq id x.conversation) (ltb time x.time) same (lt-ltb time x.time later)

-- an item since then is the conversation's
pub own_since : {A : Type 0} (time id : ℕ) (xs : List (Noted A)) → AllByRecursion (λ x. is_since time id x ≡ true) xs → AllByRecursion (λ x. is_of id x ≡ true) xs
own_since {A} time id xs a =
    all_weaker (λ (x : Noted A). is_since time id x ≡ true) (λ (x : Noted A). is_of id x ≡ true) (λ x y. (and_parts (nat_eq id x.conversation) (ltb time x.time) y).0) xs a

apart : (i k n : ℕ) → nat_eq i k ≡ false → nat_eq i n ≡ true → nat_eq k n ≡ false
apart i k n differs same = elim (cases_Bool (nat_eq k n)) [
  | inl y ↦ absurd (true≢false (sym (eq-eqb i k (eqb-true i n same ∙ sym (eqb-true k n y))) ∙ differs))
  | inr z ↦ z
]

-- the items of a conversation are none of another
pub none_others : {A : Type 0} (time i k : ℕ) (more : List (Noted A)) → nat_eq i k ≡ false → AllByRecursion (λ x. is_of i x ≡ true) more → noted_since time k more ≡ []
none_others {A} time i k more differs own =
    no_item (is_since time k) more
    (all_weaker (λ (x : Noted A). is_of i x ≡ true) (λ (x : Noted A). is_since time k x ≡ false)
    (λ x same. and_left (nat_eq k x.conversation) (ltb time x.time) (apart i k x.conversation differs same)) more own)

-- more items of another
pub others_added : {A : Type 0} (time i k : ℕ) (items more : List (Noted A)) → nat_eq i k ≡ false → AllByRecursion (λ x. is_of i x ≡ true) more → noted_since time k (items ++ more) ≡ noted_since time k items
others_added {A} time i k items more differs own =
    filter-append (is_since time k) items more
    ∙ ap (λ z. noted_since time k items ++ z) (none_others time i k more differs own)
    ∙ append-nil (noted_since time k items)

-- none is later than the last
pub none_since : {A : Type 0} (time id : ℕ) (items : List (Noted A)) → AllByRecursion (λ x. x.time ≤ time) items → noted_since time id items ≡ []
none_since {A} time id items a =
    no_item (is_since time id) items
    (all_weaker (λ (x : Noted A). x.time ≤ time) (λ (x : Noted A). is_since time id x ≡ false) (λ x le. and_right (nat_eq id x.conversation) (ltb time x.time) (le-ltb time x.time le)) items a)
