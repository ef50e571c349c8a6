-- Comments and strings at the front of a text.
use Rattle.std.proofs.Common.{◌≡◌, ℕ, ◌+◌, ◌<◌, ◌≤◌, Bool, true, false, cond, List, [], ◌∷◌, ◌++◌, length, take, drop, get_or, refl, sym, ap, ◌∙◌, subst, arith, zero, suc, ◌&&◌, ◌||◌, ◌==◌, not, Option, Some, None}
use Rattle.std.proofs.lemmas.Bool.{and_parts, false≢true, not-true, eqb-true}
use Rattle.std.proofs.lemmas.List.{take_more, drop-drop, length-drop}
use native.Mathlib.Numerals.{unary_clauses}
use Rattle.scrib_lexer.specs.Words.{is_line_feed, in_line, ends_line, is_quote, is_quotable}
use Rattle.scrib_lexer.specs.Pieces.{begins_close, has_close}
use Rattle.scrib_lexer.specs.Steps.{one_on, close_in, quote_in}

or_parts : (a b : Bool) → (a || b) ≡ false → (a ≡ false) × (b ≡ false)
or_parts true b e = absurd (false≢true (sym e))
or_parts false b e = (refl, e)

-- ---- lines

pub in_line-push : (bytes : List ℕ) (b : ℕ) → in_line bytes ≡ true → is_line_feed b ≡ false → in_line (bytes ++ b ∷ []) ≡ true
in_line-push [] b w h = rw h refl
in_line-push (a ∷ bytes) b w h =
    let p = and_parts (not (is_line_feed a)) (in_line bytes) w in rw (p.0, in_line-push bytes b p.1 h) refl

pub in_line-take_more : (text : List ℕ) (i : ℕ) → i < length text → is_line_feed (get_or text i 0) ≡ false → in_line (take i text) ≡ true → in_line (take (i + 1) text) ≡ true
in_line-take_more text i l h w = rw (take_more text i 0 l) (in_line-push (take i text) (get_or text i 0) w h)

pub ends_line-drop : (text : List ℕ) (i : ℕ) → i < length text → ends_line (drop i text) ≡ is_line_feed (get_or text i 0)
ends_line-drop [] i l = absurd (omega (arith, l))
ends_line-drop (b ∷ text) zero l = refl
ends_line-drop (b ∷ text) (suc i) l = ends_line-drop text i (omega (arith, l))

-- the bytes of a line in front of a text
unfoldable pub line_front : List ℕ → List ℕ
line_front [] = []
line_front (b ∷ bytes) = cond (is_line_feed b) [] (b ∷ line_front bytes)

pub line_front-append : (bytes rest : List ℕ) → in_line bytes ≡ true → ends_line rest ≡ true → line_front (bytes ++ rest) ≡ bytes
unfolding line_front
line_front-append [] [] w e = refl
line_front-append [] (c ∷ rest) w e = rw e refl
line_front-append (b ∷ bytes) rest w e =
    let p = and_parts (not (is_line_feed b)) (in_line bytes) w in
    rw (not-true (is_line_feed b) p.0) (ap (λ x. b ∷ x) (line_front-append bytes rest p.1 e))

-- ---- the end of a comment

-- the bytes up to the first `*/` and with it
unfoldable pub block_front : List ℕ → List ℕ
block_front [] = []
block_front (b ∷ bytes) = cond (begins_close (b ∷ bytes)) (42 ∷ 47 ∷ []) (b ∷ block_front bytes)

slash_first : (b : ℕ) → ((b == 42) && false) ≡ false
slash_first b = by (b == 42)
  where
    by : (t : Bool) → (t && false) ≡ false
    by true = refl
    by false = refl

not_yet : (b : ℕ) (bytes rest : List ℕ) → begins_close (b ∷ bytes) ≡ false → begins_close (b ∷ (bytes ++ 42 ∷ 47 ∷ rest)) ≡ false
not_yet b [] rest h = slash_first b
not_yet b (c ∷ bytes) rest h = h

pub block_front-append : (bytes rest : List ℕ) → has_close bytes ≡ false → block_front (bytes ++ 42 ∷ 47 ∷ rest) ≡ bytes ++ 42 ∷ 47 ∷ []
unfolding block_front
block_front-append [] rest h = refl
block_front-append (b ∷ bytes) rest h =
    let p = or_parts (begins_close (b ∷ bytes)) (has_close bytes) h in
    rw (not_yet b bytes rest p.0) (ap (λ x. b ∷ x) (block_front-append bytes rest p.1))

or-true : (a : Bool) → (a || true) ≡ true
or-true true = refl
or-true false = refl

pub has_close-append : (bytes rest : List ℕ) → has_close (bytes ++ 42 ∷ 47 ∷ rest) ≡ true
has_close-append [] rest = refl
has_close-append (b ∷ bytes) rest =
    ap (λ t. begins_close (b ∷ (bytes ++ 42 ∷ 47 ∷ rest)) || t) (has_close-append bytes rest) ∙ or-true (begins_close (b ∷ (bytes ++ 42 ∷ 47 ∷ rest)))

-- the text before the first `*/`, and after it
pub record IsClosed (text : List ℕ) (n : ℕ) : Type 0 where
  pub within : n + 2 ≤ length text
  pub free : has_close (take n text) ≡ false
  pub close : text ≡ take n text ++ 42 ∷ 47 ∷ drop (n + 2) text

one_on_none : (o : Option ℕ) → one_on o ≡ None → o ≡ None
one_on_none None e = refl
one_on_none (Some n) e = absurd (cc e)

one_on_some : (o : Option ℕ) (n : ℕ) → one_on o ≡ Some n → (m : ℕ) × (o ≡ Some m) × (n ≡ m + 1)
one_on_some None n e = absurd (cc e)
one_on_some (Some m) n e = (m, refl, cc)

pub close_in-none : (text : List ℕ) → close_in text ≡ None → has_close text ≡ false
close_in-none [] h = refl
close_in-none (b ∷ text) h = by (begins_close (b ∷ text)) refl h (close_in-none text)
  where
    by : (t : Bool) → begins_close (b ∷ text) ≡ t → cond t (Some 0) (one_on (close_in text)) ≡ None → (close_in text ≡ None → has_close text ≡ false) → has_close (b ∷ text) ≡ false
    by true e k rest = absurd (cc k)
    by false e k rest = rw e (rest (one_on_none (close_in text) k))

close_first : (b c : ℕ) (bytes : List ℕ) → begins_close (b ∷ c ∷ bytes) ≡ true → (b ≡ 42) × (c ≡ 47)
close_first b c bytes h =
    let p = and_parts (b == 42) (c == 47) h in (eqb-true b 42 p.0, eqb-true c 47 p.1)

closed_here : (text : List ℕ) → begins_close text ≡ true → IsClosed text 0
closed_here [] h = absurd (false≢true h)
closed_here (b ∷ []) h = absurd (false≢true h)
closed_here (b ∷ c ∷ text) h =
    let p = close_first b c text h in
    record { within = omega arith; free = refl; close = λ i. p.0 i ∷ p.1 i ∷ text }

free_before : (b : ℕ) (text : List ℕ) (n : ℕ) → begins_close (b ∷ text) ≡ false → has_close (take n text) ≡ false → has_close (b ∷ take n text) ≡ false
free_before b text zero h f = refl
free_before b [] (suc n) h f = refl
free_before b (c ∷ text) (suc n) h f = rw (h, f) refl

closed_later : (b : ℕ) (text : List ℕ) (n : ℕ) → begins_close (b ∷ text) ≡ false → IsClosed text n → IsClosed (b ∷ text) (suc n)
closed_later b text n h k =
    record { within = omega (arith, k.within); free = free_before b text n h k.free; close = ap (λ x. b ∷ x) k.close ∙ simp unary_clauses }

pub close_in-some : (text : List ℕ) (n : ℕ) → close_in text ≡ Some n → IsClosed text n
close_in-some [] n h = absurd (cc h)
close_in-some (b ∷ text) n h = by (begins_close (b ∷ text)) refl h (close_in-some text)
  where
    by : (t : Bool) → begins_close (b ∷ text) ≡ t → cond t (Some 0) (one_on (close_in text)) ≡ Some n → ((m : ℕ) → close_in text ≡ Some m → IsClosed text m) → IsClosed (b ∷ text) n
    by true e k rest =
        let none : 0 ≡ n = cc in
        subst (λ m. IsClosed (b ∷ text) m) none (closed_here (b ∷ text) e)
    by false e k rest =
        let m = one_on_some (close_in text) n k in
        let more : suc m.0 ≡ n = omega (arith, m.2) in
        subst (λ x. IsClosed (b ∷ text) x) more (closed_later b text m.0 e (rest m.0 m.1))

-- ---- loops that look for something

-- n more, unless there is none
abbrev pub on_by : ℕ → Option ℕ → Option ℕ
on_by i None = None
on_by i (Some n) = Some (n + i)

on_by-one : (i : ℕ) (o : Option ℕ) → on_by i (one_on o) ≡ on_by (i + 1) o
on_by-one i None = refl
on_by-one i (Some n) = ap Some (omega arith)

close_on : (text : List ℕ) → 0 < length text → begins_close text ≡ false → close_in text ≡ one_on (close_in (drop 1 text))
close_on [] l h = absurd (omega (arith, l))
close_on (b ∷ text) l h = rw h refl

pub close_in-goes_on : (text : List ℕ) (i : ℕ) → i < length text → begins_close (drop i text) ≡ false → close_in text ≡ on_by i (close_in (drop i text)) → close_in text ≡ on_by (i + 1) (close_in (drop (i + 1) text))
close_in-goes_on text i l h so_far =
    let some : 0 < length (drop i text) = omega (arith, length-drop i text) in
    so_far ∙ ap (on_by i) (close_on (drop i text) some h) ∙ on_by-one i (close_in (drop 1 (drop i text))) ∙ ap (λ x. on_by (i + 1) (close_in x)) (drop-drop 1 i text)

-- ---- strings

-- the text before the first quote, and after it
pub record IsQuoted (text : List ℕ) (n : ℕ) : Type 0 where
  pub within : n < length text
  pub inner : is_quotable (take n text) ≡ true
  pub split : text ≡ take n text ++ 34 ∷ drop (n + 1) text

quoted_here : (b : ℕ) (text : List ℕ) → is_quote b ≡ true → IsQuoted (b ∷ text) 0
quoted_here b text e = record { within = omega arith; inner = refl; split = ap (λ x. x ∷ text) (eqb-true b 34 e) }

quoted_later : (b : ℕ) (text : List ℕ) (n : ℕ) → is_quote b ≡ false → is_line_feed b ≡ false → IsQuoted text n → IsQuoted (b ∷ text) (suc n)
quoted_later b text n q e k =
    record { within = omega (arith, k.within); inner = rw (q, e) k.inner; split = ap (λ x. b ∷ x) k.split ∙ simp unary_clauses }

pub quote_in-some : (text : List ℕ) (n : ℕ) → quote_in text ≡ Some n → IsQuoted text n
quote_in-some [] n h = absurd (cc h)
quote_in-some (b ∷ text) n h = by (is_quote b) (is_line_feed b) refl refl h (quote_in-some text)
  where
    by : (t u : Bool) → is_quote b ≡ t → is_line_feed b ≡ u → cond t (Some 0) (cond u None (one_on (quote_in text))) ≡ Some n → ((m : ℕ) → quote_in text ≡ Some m → IsQuoted text m) → IsQuoted (b ∷ text) n
    by true u q e k rest =
        let none : 0 ≡ n = cc in subst (λ x. IsQuoted (b ∷ text) x) none (quoted_here b text q)
    by false true q e k rest = absurd (cc k)
    by false false q e k rest =
        let m = one_on_some (quote_in text) n k in
        let more : suc m.0 ≡ n = omega (arith, m.2) in
        subst (λ x. IsQuoted (b ∷ text) x) more (quoted_later b text m.0 q e (rest m.0 m.1))

quotable_parts : (b : ℕ) (bytes : List ℕ) → is_quotable (b ∷ bytes) ≡ true → (is_quote b ≡ false) × (is_line_feed b ≡ false) × (is_quotable bytes ≡ true)
quotable_parts b bytes h =
    let p = and_parts (not (is_quote b) && not (is_line_feed b)) (is_quotable bytes) h in
    let q = and_parts (not (is_quote b)) (not (is_line_feed b)) p.0 in
    (not-true (is_quote b) q.0, not-true (is_line_feed b) q.1, p.1)

pub quotable-in_line : (bytes : List ℕ) → is_quotable bytes ≡ true → in_line bytes ≡ true
quotable-in_line [] h = refl
quotable-in_line (b ∷ bytes) h =
    let p = quotable_parts b bytes h in rw (p.1, quotable-in_line bytes p.2) refl

pub quotable-take : (bytes : List ℕ) (n : ℕ) → is_quotable bytes ≡ true → is_quotable (take n bytes) ≡ true
quotable-take bytes zero h = refl
quotable-take [] (suc n) h = refl
quotable-take (b ∷ bytes) (suc n) h =
    let p = quotable_parts b bytes h in rw (p.0, p.1, quotable-take bytes n p.2) refl

-- the search for the first quote, or for the line's end before it
pub quote_in-append : (bytes rest : List ℕ) → is_quotable bytes ≡ true → quote_in (bytes ++ 34 ∷ rest) ≡ Some (length bytes)
quote_in-append [] rest h = refl
quote_in-append (b ∷ bytes) rest h =
    let p = quotable_parts b bytes h in
    rw (p.0, p.1, quote_in-append bytes rest p.2) (ap Some (omega arith))

pub quote_in-open : (bytes rest : List ℕ) → is_quotable bytes ≡ true → ends_line rest ≡ true → quote_in (bytes ++ rest) ≡ None
quote_in-open [] [] h e = refl
quote_in-open [] (c ∷ rest) h e =
    let feed : c ≡ 10 = eqb-true c 10 e in rw feed refl
quote_in-open (b ∷ bytes) rest h e =
    let p = quotable_parts b bytes h in rw (p.0, p.1, quote_in-open bytes rest p.2 e) refl

-- the front of a line that has no quote
pub record IsUnquoted (text bytes rest : List ℕ) : Type 0 where
  pub split : text ≡ bytes ++ rest
  pub inner : is_quotable bytes ≡ true
  pub ends : ends_line rest ≡ true

pub quote_in-none : (text : List ℕ) → quote_in text ≡ None → (bytes : List ℕ) × (rest : List ℕ) × IsUnquoted text bytes rest
quote_in-none [] h = ([], [], record { split = refl; inner = refl; ends = refl })
quote_in-none (b ∷ text) h = by (is_quote b) (is_line_feed b) refl refl h (quote_in-none text)
  where
    by : (t u : Bool) → is_quote b ≡ t → is_line_feed b ≡ u → cond t (Some 0) (cond u None (one_on (quote_in text))) ≡ None → (quote_in text ≡ None → (bytes : List ℕ) × (rest : List ℕ) × IsUnquoted text bytes rest) → (bytes : List ℕ) × (rest : List ℕ) × IsUnquoted (b ∷ text) bytes rest
    by true u q e k rest = absurd (cc k)
    by false true q e k rest = ([], b ∷ text, record { split = refl; inner = refl; ends = e })
    by false false q e k rest =
        let f = rest (one_on_none (quote_in text) k) in
        (b ∷ f.0, f.1, record { split = ap (λ x. b ∷ x) f.2.split; inner = rw (q, e) f.2.inner; ends = f.2.ends })

-- the bytes up to the first quote and with it
unfoldable pub string_front : List ℕ → List ℕ
string_front [] = []
string_front (b ∷ bytes) = cond (is_quote b) (34 ∷ []) (b ∷ string_front bytes)

pub string_front-append : (bytes rest : List ℕ) → is_quotable bytes ≡ true → string_front (bytes ++ 34 ∷ rest) ≡ bytes ++ 34 ∷ []
unfolding string_front
string_front-append [] rest h = refl
string_front-append (b ∷ bytes) rest h =
    let p = quotable_parts b bytes h in rw p.0 (ap (λ x. b ∷ x) (string_front-append bytes rest p.2))
