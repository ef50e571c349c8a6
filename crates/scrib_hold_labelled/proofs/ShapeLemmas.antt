-- The lines of a script: all but the last have an end.
use Rattle.std.proofs.Common.{◌≡◌, ◌≢◌, ◌∙◌, ◌≤◌, ◌+◌, ℕ, List, [], ◌∷◌, ◌++◌, length, refl, sym, ap, subst, inl, inr, arith}
use Rattle.std.specs.List.{AllByRecursion}
use Rattle.std.proofs.lemmas.Bool.{cases_eq}
use Rattle.std.proofs.lemmas.List.{append-nil, append_assoc, length-append}
use Rattle.std.proofs.lemmas.List.Elements.{All-nil, All-push}
use Rattle.scrib_script_reader.specs.Scripts.{NoLf, lines}
use Rattle.scrib_script_reader.proofs.Bytes.{lines_last, lines_lf}
use Rattle.scrib_labelled.specs.Splits.{IsEnded}

-- lines that come before others have an end
abbrev pub AreEndedBefore : List (List ℕ) → Type 0
AreEndedBefore ls = (before : List (List ℕ)) (l : List ℕ) (later : List (List ℕ)) → ls ≡ before ++ l ∷ later → AllByRecursion IsEnded before

-- lines with an end, and then one at most
record Shape (ls : List (List ℕ)) : Type 0 where
  front : List (List ℕ)
  tail : List (List ℕ)
  is : ls ≡ front ++ tail
  whole : AllByRecursion IsEnded front
  short : length tail ≤ 1

shape : (k bs : List ℕ) → NoLf k → Shape (lines (k ++ bs))
shape [] [] no_lf = record { front = []; tail = []; is = refl; whole = tt; short = omega arith }
shape (b ∷ k) [] no_lf = record { front = []; tail = (b ∷ k) ∷ []; is = ap lines (append-nil (b ∷ k)) ∙ lines_last b k no_lf; whole = tt; short = omega arith }
shape k (b ∷ bs) no_lf = elim (cases_eq b 10) [
  | inl lf ↦
      let r = shape [] bs (All-nil (λ b. b ≢ 10)) in
      record {
        front = (k ++ 10 ∷ []) ∷ r.front;
        tail = r.tail;
        is = ap (λ (x : ℕ). lines (k ++ x ∷ bs)) lf ∙ lines_lf k bs no_lf ∙ ap (λ (ls : List (List ℕ)). (k ++ 10 ∷ []) ∷ ls) r.is;
        whole = ((k, no_lf, refl), r.whole);
        short = r.short;
      }
  | inr other ↦
      let r = shape (k ++ b ∷ []) bs (All-push (λ b. b ≢ 10) k b no_lf other) in
      record { front = r.front; tail = r.tail; is = ap lines (sym (append_assoc k (b ∷ []) bs)) ∙ r.is; whole = r.whole; short = r.short }
]

same-head : (x y : List ℕ) (xs ys : List (List ℕ)) → x ∷ xs ≡ y ∷ ys → x ≡ y
same-head x y xs ys e = cc

same-tail : (x y : List ℕ) (xs ys : List (List ℕ)) → x ∷ xs ≡ y ∷ ys → xs ≡ ys
same-tail x y xs ys e = cc

before-ended : (before : List (List ℕ)) (l : List ℕ) (later front tail : List (List ℕ)) → before ++ l ∷ later ≡ front ++ tail → AllByRecursion IsEnded front → length tail ≤ 1 → AllByRecursion IsEnded before
before-ended [] l later front tail e h short = tt
before-ended (m ∷ before) l later [] tail e h short = absurd (omega (arith, ap length e, short, length-append before (l ∷ later)))
before-ended (m ∷ before) l later (f ∷ front) tail e h short = (
  subst IsEnded (sym (same-head m f (before ++ l ∷ later) (front ++ tail) e)) h.0,
  before-ended before l later front tail (same-tail m f (before ++ l ∷ later) (front ++ tail) e) h.1 short,
)

pub lines_ended : (bytes : List ℕ) → AreEndedBefore (lines bytes)
lines_ended bytes before l later e = let s = shape [] bytes (All-nil (λ b. b ≢ 10)) in before-ended before l later s.front s.tail (sym e ∙ s.is) s.whole s.short

-- the same of some first lines
pub first_ended : (ls first later : List (List ℕ)) → ls ≡ first ++ later → AreEndedBefore ls → AreEndedBefore first
first_ended ls first later is h before l rest e = h before l (rest ++ later) (is ∙ ap (λ (x : List (List ℕ)). x ++ later) e ∙ append_assoc before (l ∷ rest) later)
