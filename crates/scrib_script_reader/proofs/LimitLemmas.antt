-- The numbers of consumed lines and bytes, against the limits of a script.
use Rattle.std.proofs.Common.{Result, Ok, Err, ◌≡◌, ◌≢◌, ◌<◌, ◌≤◌, ◌+◌, inl, inr, ℕ, Bool, true, false, eqb, List, [], ◌∷◌, ◌++◌, ◌∙◌, length, refl, sym, ap, subst, arith}
use Rattle.std.specs.Prelude.{◌⊎◌, ◌==◌, if◌then◌else◌, IfErr}
use Rattle.std.proofs.lemmas.Bool.{ne_eqb, false≢true}
use Rattle.std.proofs.lemmas.List.{append_assoc, append-nil, length-append}
use Rattle.std.proofs.lemmas.List.Elements.{All-head, All-tail}
use Rattle.scrib_script_reader.specs.declared.fault.SpellFault.{SpellFault}
use Rattle.scrib_script_reader.specs.declared.fault.SpellFault.TheVariants as fault
use Rattle.scrib_script_reader.specs.declared.limits.Limits.{Limits}
use Rattle.scrib_script_reader.specs.declared.script.Script.{Script}
use Rattle.scrib_script_reader.specs.Scripts.{NoLf, with_byte, lines}
use Rattle.scrib_script_reader.specs.Limits.{IsWithinLimits, IsPast, line_feeds}
use Rattle.scrib_script_reader.specs.Positions.{CountsBytes, IsPastWith}
use Rattle.scrib_script_reader.proofs.Bytes.{lines_lf, lines_last}

-- bytes without an LF
no_feeds : (k : List ℕ) → NoLf k → line_feeds k ≡ 0
no_feeds [] h = refl
no_feeds (b ∷ k) h =
    rw (ne_eqb b 10 (All-head (λ x. x ≢ 10) b k h)) (no_feeds k (All-tail (λ x. x ≢ 10) b k h))

feeds_first : (q : Bool) (m n k : ℕ) → m ≡ n + k → (if q then m + 1 else m) ≡ (if q then n + 1 else n) + k
feeds_first true m n k e = omega (arith, e)
feeds_first false m n k e = e

pub feeds_both : (a b : List ℕ) → line_feeds (a ++ b) ≡ line_feeds a + line_feeds b
feeds_both [] b = omega arith
feeds_both (x ∷ a) b = feeds_first (x == 10) (line_feeds (a ++ b)) (line_feeds a) (line_feeds b) (feeds_both a b)

some_first : (q : Bool) (x : ℕ) (ls : List (List ℕ)) → 0 < length (if q then (x ∷ []) ∷ ls else with_byte x ls)
some_first true x ls = omega arith
some_first false x [] = omega arith
some_first false x (l ∷ ls) = omega arith

some_lines : (b : List ℕ) → 0 < length b → 0 < length (lines b)
some_lines [] h = absurd (omega arith)
some_lines (x ∷ b) h = some_first (x == 10) x (lines b)

length_first : (q : Bool) (x : ℕ) (ls : List (List ℕ)) (m n : ℕ) → 0 < length ls → length ls ≡ m + n
    → length (if q then (x ∷ []) ∷ ls else with_byte x ls) ≡ (if q then m + 1 else m) + n
length_first true x ls m n some e = omega (arith, e)
length_first false x [] m n some e = absurd (omega arith)
length_first false x (l ∷ ls) m n some e = e

-- bytes after others add one line for each LF of the others
pub lines_after : (a b : List ℕ) → 0 < length b → length (lines (a ++ b)) ≡ line_feeds a + length (lines b)
lines_after [] b some = omega arith
lines_after (x ∷ a) b some =
    length_first (x == 10) x (lines (a ++ b)) (line_feeds a) (length (lines b)) (some_lines (a ++ b) (omega (arith, length-append a b))) (lines_after a b some)

few_first : (q : Bool) (x : ℕ) (ls : List (List ℕ)) (n : ℕ) → length ls ≤ n + 1
    → length (if q then (x ∷ []) ∷ ls else with_byte x ls) ≤ (if q then n + 1 else n) + 1
few_first true x ls n h = omega (arith, h)
few_first false x [] n h = omega arith
few_first false x (l ∷ ls) n h = h

lines_few : (a : List ℕ) → length (lines a) ≤ line_feeds a + 1
lines_few [] = omega arith
lines_few (x ∷ a) = few_first (x == 10) x (lines a) (line_feeds a) (lines_few a)

-- more bytes have no fewer lines
lines_more : (a b : List ℕ) → length (lines a) ≤ length (lines (a ++ b))
lines_more a [] = omega (arith, ap (λ (t : List ℕ). length (lines t)) (append-nil a))
lines_more a (x ∷ b) = omega (arith, lines_few a, lines_after a (x ∷ b) (omega arith), some_lines (x ∷ b) (omega arith))

-- what is past the limits stays so
pub past_more : (m : Limits) (a b : List ℕ) → IsPast m a → IsPast m (a ++ b)
past_more m a b (inl h) = inl (omega (arith, h, lines_more a b))
past_more m a b (inr h) = inr (omega (arith, h, length-append a b))

-- no byte is consumed
pub counts_none : (s : Script) → CountsBytes s s []
counts_none s = record {
  limits = refl;
  bytes = omega arith;
  ended = omega arith;
  few_bytes = omega (arith, s.counted);
  few_lines = omega (arith, s.numbered);
}

few_then : (a b : Script) (x y : List ℕ) → CountsBytes a b x → b.lines + length (lines y) ≤ b.limits.lines → a.lines + length (lines (x ++ y)) ≤ a.limits.lines
few_then a b x [] f h = subst (λ (t : List ℕ). a.lines + length (lines t) ≤ a.limits.lines) (sym (append-nil x)) f.few_lines
few_then a b x (y ∷ ys) f h = omega (arith, lines_after x (y ∷ ys) (omega arith), f.ended, h, ap (λ (m : Limits). m.lines) f.limits)

-- two stretches of bytes, one after the other
pub counts_then : (a b c : Script) (x y : List ℕ) → CountsBytes a b x → CountsBytes b c y → CountsBytes a c (x ++ y)
counts_then a b c x y f g = record {
  limits = g.limits ∙ f.limits;
  bytes = omega (arith, f.bytes, g.bytes, length-append x y);
  ended = omega (arith, f.ended, g.ended, feeds_both x y);
  few_bytes = omega (arith, f.bytes, g.few_bytes, length-append x y, ap (λ (m : Limits). m.bytes) f.limits);
  few_lines = few_then a b x y f g.few_lines;
}

pub one_last : (k : List ℕ) → 0 < length k → NoLf k → lines k ≡ k ∷ []
one_last [] some no_lf = absurd (omega arith)
one_last (b ∷ k) some no_lf = lines_last b k no_lf

-- bytes of a line are consumed
pub counts_part : (old new : Script) (part : List ℕ) (n : ℕ) → n ≡ length part → 0 < length part → NoLf part → new.limits ≡ old.limits → new.bytes ≡ old.bytes + n → new.bytes ≤ old.limits.bytes
    → old.lines < old.limits.lines → new.lines ≡ old.lines → CountsBytes old new part
counts_part old new part n long some no_lf limits bytes few_bytes few_lines same = record {
  limits = limits;
  bytes = omega (arith, bytes, long);
  ended = omega (arith, same, no_feeds part no_lf);
  few_bytes = omega (arith, bytes, few_bytes, long);
  few_lines = omega (arith, few_lines, ap length (one_last part some no_lf));
}

-- the LF of a line is consumed
pub counts_line : (old new : Script) (k : List ℕ) (n : ℕ) → n ≡ length k + 1 → NoLf k → new.limits ≡ old.limits → new.bytes ≡ old.bytes + n → new.bytes ≤ old.limits.bytes
    → old.lines < old.limits.lines → new.lines ≡ old.lines + 1 → CountsBytes old new (k ++ 10 ∷ [])
counts_line old new k n long no_lf limits bytes few_bytes few_lines more = record {
  limits = limits;
  bytes = omega (arith, bytes, long, length-append k (10 ∷ []));
  ended = omega (arith, more, feeds_both k (10 ∷ []), no_feeds k no_lf);
  few_bytes = omega (arith, bytes, few_bytes, long, length-append k (10 ∷ []));
  few_lines = omega (arith, few_lines, ap length (lines_lf k [] no_lf));
}

-- the first line of some bytes
pub first_ended : (k more : List ℕ) → NoLf k → lines ((k ++ 10 ∷ []) ++ more) ≡ (k ++ 10 ∷ []) ∷ lines more
first_ended k more no_lf = ap lines (append_assoc k (10 ∷ []) more) ∙ lines_lf k more no_lf

pub first_last : (k : List ℕ) → lines k ≡ k ∷ [] → lines (k ++ []) ≡ k ∷ lines []
first_last k one = ap lines (append-nil k) ∙ one

-- refused memory is not a passed limit
pub memory_is_other : (e : SpellFault) → e ≡ fault.OutOfMemory → e ≡ fault.TooLong → ⊥
memory_is_other e is long = let same : fault.OutOfMemory ≡ fault.TooLong = sym is ∙ long in cc

-- a part that isn't empty
pub some_part : (part : List ℕ) → false ≡ eqb (length part) 0 → 0 < length part
some_part [] e = absurd (false≢true e)
some_part (b ∷ part) e = omega arith

-- with so many bytes of one line a script is past its limits
pub past_with : (s : Script) (part : List ℕ) (n : ℕ) → n ≡ length part → (s.limits.bytes < s.bytes + n) ⊎ (s.limits.lines ≤ s.lines) → IsPastWith s part
past_with s part n long (inl h) = inl (omega (arith, h, long))
past_with s part n long (inr h) = inr h

-- with more bytes of the line it is past them too
pub past_longer : (s : Script) (a b : List ℕ) → IsPastWith s a → IsPastWith s (a ++ b)
past_longer s a b (inl h) = inl (omega (arith, h, length-append a b))
past_longer s a b (inr h) = inr h

-- a script that is past its limits with the last part of a line is past them with the whole line
past_later : (a b : Script) (x y : List ℕ) → NoLf x → CountsBytes a b x → IsPastWith b y → IsPastWith a (x ++ y)
past_later a b x y no_lf f (inl h) = inl (omega (arith, h, f.bytes, length-append x y, ap (λ (m : Limits). m.bytes) f.limits))
past_later a b x y no_lf f (inr h) = inr (omega (arith, h, f.ended, no_feeds x no_lf, ap (λ (m : Limits). m.lines) f.limits))

pub limit_later : {T : Type 0} (r : Result T SpellFault) (a b : Script) (x y : List ℕ) → NoLf x → CountsBytes a b x
    → IfErr r (λ e. e ≡ fault.TooLong → IsPastWith b y) → IfErr r (λ e. e ≡ fault.TooLong → IsPastWith a (x ++ y))
limit_later (Ok v) a b x y no_lf f h = tt
limit_later (Err e) a b x y no_lf f h = λ is. past_later a b x y no_lf f (h is)

-- the first line of some bytes isn't empty
first_some : (line rest : List ℕ) → lines (line ++ rest) ≡ line ∷ lines rest → 0 < length line
first_some [] rest e = absurd (omega (arith, ap length e))
first_some (b ∷ line) rest e = omega arith

-- with the line the bytes so far are past the limits
pub past_line : (m : Limits) (s : Script) (seen line rest : List ℕ) → s.limits ≡ m → s.bytes ≡ length seen → s.lines ≡ line_feeds seen
    → lines (line ++ rest) ≡ line ∷ lines rest → IsPastWith s line → IsPast m (seen ++ line)
past_line m s seen line rest limits bytes ended first (inl h) = inr (omega (arith, h, bytes, length-append seen line, ap (λ (x : Limits). x.bytes) limits))
past_line m s seen line rest limits bytes ended first (inr h) =
    let some = first_some line rest first in
    inl (omega (arith, h, ended, lines_after seen line some, some_lines line some, ap (λ (x : Limits). x.lines) limits))

within_lines : (m : Limits) (a : Script) (seen part : List ℕ) → a.limits ≡ m → a.lines ≡ line_feeds seen → length (lines seen) ≤ m.lines → a.lines + length (lines part) ≤ a.limits.lines
    → length (lines (seen ++ part)) ≤ m.lines
within_lines m a seen [] limits ended within few = subst (λ (t : List ℕ). length (lines t) ≤ m.lines) (sym (append-nil seen)) within
within_lines m a seen (x ∷ part) limits ended within few = omega (arith, few, ended, lines_after seen (x ∷ part) (omega arith), ap (λ (y : Limits). y.lines) limits)

-- more bytes are consumed, and the script is within its limits
pub within_more : (m : Limits) (a b : Script) (seen part : List ℕ) → a.limits ≡ m → a.bytes ≡ length seen → a.lines ≡ line_feeds seen → IsWithinLimits m seen → CountsBytes a b part
    → (b.limits ≡ m) × (b.bytes ≡ length (seen ++ part)) × (b.lines ≡ line_feeds (seen ++ part)) × IsWithinLimits m (seen ++ part)
within_more m a b seen part limits bytes ended within f = (
  f.limits ∙ limits,
  omega (arith, f.bytes, bytes, length-append seen part),
  omega (arith, f.ended, ended, feeds_both seen part),
  (within_lines m a seen part limits ended within.0 f.few_lines, omega (arith, f.few_bytes, bytes, length-append seen part, ap (λ (x : Limits). x.bytes) limits)),
)
