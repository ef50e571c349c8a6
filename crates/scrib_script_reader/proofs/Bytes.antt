-- Lines, their ends, and the kept part of them.
use Rattle.std.proofs.Common.{◌≡◌, ◌≢◌, ◌≤◌, ◌+◌, ◌-◌, ◌⊎◌, ◌&&◌, inl, inr, min, Result, Ok, Err, ℕ, zero, suc, Bool, true, false, cond, eqb, List, [], ◌∷◌, ◌++◌, ◌∙◌, take, length, get_or, refl, sym, ap, subst, arith}
use Rattle.std.specs.Prelude.{OnOk, is_ok, if◌then◌else◌}
use Rattle.std.proofs.lemmas.Bool.{cases_lt, ne_eqb}
use Rattle.std.proofs.lemmas.List.{append_assoc, take_all, length-take, length-append, get_or_at}
use Rattle.std.proofs.lemmas.List.Elements.{All-head, All-tail}
use Rattle.scrib_script_reader.specs.Scripts.{NoLf, with_byte, lines, is_end, bare, text_end}

-- bytes with no LF, and then an LF, are the first line
pub lines_lf : (k more : List ℕ) → NoLf k → lines (k ++ 10 ∷ more) ≡ (k ++ 10 ∷ []) ∷ lines more
lines_lf [] more h = refl
lines_lf (b ∷ k) more h =
    rw (ne_eqb b 10 (All-head (λ x. x ≢ 10) b k h), lines_lf k more (All-tail (λ x. x ≢ 10) b k h)) refl

-- bytes with no LF are one line
pub lines_last : (b : ℕ) (k : List ℕ) → NoLf (b ∷ k) → lines (b ∷ k) ≡ (b ∷ k) ∷ []
lines_last b [] h = rw (ne_eqb b 10 (All-head (λ x. x ≢ 10) b [] h)) refl
lines_last b (c ∷ k) h =
    rw (ne_eqb b 10 (All-head (λ x. x ≢ 10) b (c ∷ k) h)) (ap (with_byte b) (lines_last c k (All-tail (λ x. x ≢ 10) b (c ∷ k) h)))

-- three or more bytes are no line end
long_is_no_end : (b c d : ℕ) (xs ys : List ℕ) → is_end (b ∷ c ∷ (xs ++ d ∷ ys)) ≡ false
long_is_no_end b c d [] ys = refl
long_is_no_end b c d (x ∷ xs) ys = refl

pub bare_cr : (k : List ℕ) → bare (k ++ 13 ∷ 10 ∷ []) ≡ k
bare_cr [] = refl
bare_cr (b ∷ []) = refl
bare_cr (b ∷ c ∷ k) = rw (long_is_no_end b c 13 k (10 ∷ [])) (ap (λ (t : List ℕ). b ∷ t) (bare_cr (c ∷ k)))

-- a list whose last byte is another
abbrev pub EndsOther : ℕ → List ℕ → Type 0
EndsOther b k = (front : List ℕ) → k ≡ front ++ b ∷ [] → ⊥

ends_other_tail : (x b : ℕ) (k : List ℕ) → EndsOther b (x ∷ k) → EndsOther b k
ends_other_tail x b k h = λ front e. h (x ∷ front) (ap (λ (t : List ℕ). x ∷ t) e)

pub bare_lf : (k : List ℕ) → EndsOther 13 k → bare (k ++ 10 ∷ []) ≡ k
bare_lf [] h = refl
bare_lf (b ∷ []) h = rw (ne_eqb b 13 (λ e. h [] (ap (λ (x : ℕ). x ∷ []) e))) refl
bare_lf (b ∷ c ∷ k) h = rw (long_is_no_end b c 10 k []) (ap (λ (t : List ℕ). b ∷ t) (bare_lf (c ∷ k) (ends_other_tail b 13 (c ∷ k) h)))

and_false : (p : Bool) → p && false ≡ false
and_false true = refl
and_false false = refl

-- bytes with no LF have no end
pub bare_last : (k : List ℕ) → NoLf k → bare k ≡ k
bare_last [] h = refl
bare_last (b ∷ []) h = rw (ne_eqb b 10 (All-head (λ x. x ≢ 10) b [] h)) refl
bare_last (b ∷ c ∷ []) h =
    let rest = bare_last (c ∷ []) (All-tail (λ x. x ≢ 10) b (c ∷ []) h) in
    let not_lf = ne_eqb c 10 (All-head (λ x. x ≢ 10) c [] (All-tail (λ x. x ≢ 10) b (c ∷ []) h)) in
    rw (not_lf, and_false) refl
bare_last (b ∷ c ∷ d ∷ k) h = ap (λ (t : List ℕ). b ∷ t) (bare_last (c ∷ d ∷ k) (All-tail (λ x. x ≢ 10) b (c ∷ d ∷ k) h))

length_one : (q : Bool) (b : ℕ) → suc zero ≤ length (cond q [] (b ∷ [])) + 1
length_one true b = omega arith
length_one false b = omega arith

-- a line without its end is at most one byte shorter than the bytes before its LF
pub length-bare : (k : List ℕ) → length k ≤ length (bare (k ++ 10 ∷ [])) + 1
length-bare [] = omega arith
length-bare (b ∷ []) = length_one (eqb b 13 && true) b
length-bare (b ∷ c ∷ k) =
    let more = length-bare (c ∷ k) in
    rw (long_is_no_end b c 10 k []) (omega (arith, more))

-- the kept part is all of the bytes, or as many as may be kept
pub all_or_most : (m : ℕ) (k : List ℕ) → (take m k ≡ k) ⊎ ((length (take m k) ≡ m) × (m ≤ length k))
all_or_most m k = elim (cases_lt m (length k)) [
  | inl h ↦ inr (omega (arith, length-take m k), omega arith)
  | inr h ↦ inl (take_all m k h)
]

take_front : (m n : ℕ) (b c : List ℕ) → m ≤ n → take m (take n b ++ c) ≡ take m (b ++ c)
take_front zero n b c h = refl
take_front (suc m) zero b c h = absurd (omega arith)
take_front (suc m) (suc n) [] c h = refl
take_front (suc m) (suc n) (x ∷ b) c h = ap (λ (t : List ℕ). x ∷ t) (take_front m n b c (omega arith))

take_middle : (m n : ℕ) (a b c : List ℕ) → m ≤ n → take m (a ++ (take n b ++ c)) ≡ take m (a ++ (b ++ c))
take_middle m n [] b c h = take_front m n b c h
take_middle zero n (x ∷ a) b c h = refl
take_middle (suc m) n (x ∷ a) b c h = ap (λ (t : List ℕ). x ∷ t) (take_middle m n a b c (omega arith))

-- the kept part after more bytes
pub take_kept : (m : ℕ) (a b : List ℕ) → take m (take m a ++ b) ≡ take m (a ++ b)
take_kept m a b = take_front m m a b (omega arith)

pub take_kept_line : (m : ℕ) (a b c : List ℕ) → take m (take m a ++ (take m b ++ c)) ≡ take m (a ++ (b ++ c))
take_kept_line m a b c = take_kept m a (take m b ++ c) ∙ take_middle m m a b c (omega arith)

pub take_of_none : (m : ℕ) → take {A = ℕ} m [] ≡ []
take_of_none zero = refl
take_of_none (suc m) = refl

-- the kept part of a line ends a text exactly where the line does
pub end_of_kept : (m : ℕ) (k : List ℕ) → 4 ≤ m → bare (take m k ++ 10 ∷ []) ≡ text_end → bare (k ++ 10 ∷ []) ≡ text_end
end_of_kept m k h e = elim (all_or_most m k) [
  | inl all ↦ subst (λ (t : List ℕ). bare (t ++ 10 ∷ []) ≡ text_end) all e
  | inr long ↦ absurd (omega (arith, length-bare (take m k), ap length e, long.0))
]

pub end_is_kept : (m : ℕ) (k : List ℕ) → 4 ≤ m → bare (k ++ 10 ∷ []) ≡ text_end → bare (take m k ++ 10 ∷ []) ≡ text_end
end_is_kept m k h e = elim (all_or_most m k) [
  | inl all ↦ subst (λ (t : List ℕ). bare (t ++ 10 ∷ []) ≡ text_end) (sym all) e
  | inr long ↦ absurd (omega (arith, length-bare k, ap length e, long.1))
]

pub last_of_kept : (m : ℕ) (k : List ℕ) → 4 ≤ m → take m k ≡ text_end → k ≡ text_end
last_of_kept m k h e = elim (all_or_most m k) [
  | inl all ↦ sym all ∙ e
  | inr long ↦ absurd (omega (arith, ap length e, long.0))
]

pub last_is_kept : (m : ℕ) (k : List ℕ) → 4 ≤ m → k ≡ text_end → take m k ≡ text_end
last_is_kept m k h e = elim (all_or_most m k) [
  | inl all ↦ all ∙ e
  | inr long ↦ absurd (omega (arith, ap length e, long.1))
]

take_least : (n : ℕ) (b : List ℕ) → take (min (length b) n) b ≡ take n b
take_least n b = elim (cases_lt n (length b)) [
  | inl h ↦ let e : min (length b) n ≡ n = omega arith in ap (λ (i : ℕ). take i b) e
  | inr h ↦
      let e : min (length b) n ≡ length b = omega arith in
      ap (λ (i : ℕ). take i b) e ∙ take_all (length b) b (omega arith) ∙ sym (take_all n b h)
]

take_past : (m : ℕ) (a b : List ℕ) → length a ≤ m → take m (a ++ b) ≡ a ++ take (m - length a) b
take_past m [] b h = let e : m ≡ m - 0 = omega arith in ap (λ (i : ℕ). take i b) e
take_past zero (x ∷ a) b h = absurd (omega arith)
take_past (suc m) (x ∷ a) b h =
    let e : m - length a ≡ suc m - suc (length a) = omega arith in
    ap (λ (t : List ℕ). x ∷ t) (take_past m a b (omega arith) ∙ ap (λ (i : ℕ). a ++ take i b) e)

-- appending up to the capacity keeps a prefix
pub kept_more : {T E : Type 0} (r : Result T E) (m k : ℕ) (old new bytes : List ℕ)
    → new ≡ (if is_ok r then old ++ take k bytes else old) → k ≡ min (length bytes) (m - length old)
    → OnOk r (length old ≤ m → new ≡ take m (old ++ bytes))
kept_more (Ok x) m k old new bytes e room = λ h.
    e ∙ ap (λ (i : ℕ). old ++ take i bytes) room ∙ ap (λ (t : List ℕ). old ++ t) (take_least (m - length old) bytes) ∙ sym (take_past m old bytes h)
kept_more (Err x) m k old new bytes e room = tt

last_same : (a b : List ℕ) (x y : ℕ) → a ++ x ∷ [] ≡ b ++ y ∷ [] → x ≡ y
last_same a b x y e =
    let lengths : length b ≡ length a = omega (arith, ap length e, length-append a (x ∷ []), length-append b (y ∷ [])) in
    sym (get_or_at a x [] 0 (length a) refl) ∙ ap (λ (t : List ℕ). get_or t (length a) 0) e ∙ get_or_at b y [] 0 (length a) lengths

-- a line whose last byte is a CR
pub before_cr : (line front : List ℕ) (last : ℕ) → line ≡ front ++ last ∷ [] → last ≡ 13 → front ≡ bare (line ++ 10 ∷ [])
before_cr line front last e cr =
    let whole : line ≡ front ++ 13 ∷ [] = e ∙ ap (λ (b : ℕ). front ++ b ∷ []) cr in
    let with_end : line ++ 10 ∷ [] ≡ front ++ 13 ∷ 10 ∷ [] = ap (λ (t : List ℕ). t ++ 10 ∷ []) whole ∙ append_assoc front (13 ∷ []) (10 ∷ []) in
    sym (ap bare with_end ∙ bare_cr front)

-- a line whose last byte is another
pub before_other : (line front : List ℕ) (last : ℕ) → line ≡ front ++ last ∷ [] → (last ≡ 13 → ⊥) → line ≡ bare (line ++ 10 ∷ [])
before_other line front last e other = sym (bare_lf line (λ f h. other (last_same front f last 13 (sym e ∙ h))))
