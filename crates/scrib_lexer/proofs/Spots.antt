-- The place after more bytes.
use Rattle.std.proofs.Common.{◌≡◌, ℕ, ◌+◌, ◌-◌, ◌≤◌, Bool, true, false, cond, List, [], ◌∷◌, ◌++◌, length, refl, sym, ap, ◌∙◌, arith, reverse, count_by, not}
use Rattle.std.specs.List.{prefix_len}
use Rattle.std.proofs.lemmas.Bool.{and_parts, not-true}
use Rattle.std.proofs.lemmas.List.{append_assoc, append-nil, reverse-append, length-reverse}
use Rattle.std.proofs.lemmas.List.Sums.{count_by-le-length, prefix_len-le-length, sum_by-append}
use Rattle.scrib_types.specs.declared.spot.Spot.{Spot}
use Rattle.scrib_lexer.specs.declared.lex.Line.{Line}
use Rattle.scrib_lexer.specs.Words.{is_line_feed, in_line}
use Rattle.scrib_lexer.specs.Tokens.{spot_after}
use Rattle.scrib_lexer.specs.Steps.{spot_on, spot_in, spot_past, spot_past_all}

lines-push : (before : List ℕ) (b : ℕ) → count_by is_line_feed (before ++ b ∷ []) ≡ count_by is_line_feed before + cond (is_line_feed b) 1 0
lines-push before b = sum_by-append (λ x. cond (is_line_feed x) 1 0) before (b ∷ []) ∙ omega arith

columns-push : (before : List ℕ) (b : ℕ) → prefix_len (λ x. not (is_line_feed x)) (reverse (before ++ b ∷ [])) ≡ cond (not (is_line_feed b)) (1 + prefix_len (λ x. not (is_line_feed x)) (reverse before)) 0
columns-push before b = ap (λ l. prefix_len (λ x. not (is_line_feed x)) l) (reverse-append before (b ∷ []))

spot_at : ℕ → ℕ → Spot
spot_at l c = record { line = l; column = c }

same_spot : (l m c d : ℕ) → l ≡ m → c ≡ d → spot_at l c ≡ spot_at m d
same_spot l m c d p q = λ i. spot_at (p i) (q i)

by_feed : (t : Bool) (l m c d : ℕ) → m ≡ l + cond t 1 0 → d ≡ cond (not t) (1 + c) 0 → spot_at (m + 1) (d + 1) ≡ cond t (spot_at (l + 1 + 1) 1) (spot_at (l + 1) (c + 1 + 1))
by_feed true l m c d p q = same_spot _ _ _ _ (omega arith) (omega arith)
by_feed false l m c d p q = same_spot _ _ _ _ (omega arith) (omega arith)

pub spot_after-push : (before : List ℕ) (b : ℕ) → spot_after (before ++ b ∷ []) ≡ spot_past (spot_after before) b
unfolding spot_at
spot_after-push before b =
    by_feed (is_line_feed b) _ _ _ _ (lines-push before b) (columns-push before b)

pub spot_after-past_all : (before bytes : List ℕ) → spot_after (before ++ bytes) ≡ spot_past_all (spot_after before) bytes
spot_after-past_all before [] = ap spot_after (append-nil before)
spot_after-past_all before (b ∷ bytes) =
    ap spot_after (sym (append_assoc before (b ∷ []) bytes)) ∙ spot_after-past_all (before ++ b ∷ []) bytes ∙ ap (λ s. spot_past_all s bytes) (spot_after-push before b)

-- a byte that is no line feed
spot_past-in_line : (spot : Spot) (b : ℕ) → is_line_feed b ≡ false → spot_past spot b ≡ spot_on spot 1
spot_past-in_line spot b e = ap (λ t. cond t (spot_past spot 10) (spot_on spot 1)) e

spot_on-on : (spot : Spot) (n m k : ℕ) → n + m ≡ k → spot_on (spot_on spot n) m ≡ spot_on spot k
unfolding spot_at
spot_on-on spot n m k e = same_spot _ _ _ _ refl (omega arith)

pub spot_on-zero : (spot : Spot) → spot_on spot 0 ≡ spot
unfolding spot_at
spot_on-zero spot = same_spot _ _ _ _ refl (omega arith)

pub spot_after-in_line : (before bytes : List ℕ) → in_line bytes ≡ true → spot_after (before ++ bytes) ≡ spot_on (spot_after before) (length bytes)
unfolding spot_at
spot_after-in_line before [] h =
    ap spot_after (append-nil before) ∙ same_spot _ _ _ _ refl (omega arith)
spot_after-in_line before (b ∷ bytes) h =
    let p = and_parts (not (is_line_feed b)) (in_line bytes) h in
    let one = spot_after-push before b ∙ spot_past-in_line (spot_after before) b (not-true (is_line_feed b) p.0) in
    ap spot_after (sym (append_assoc before (b ∷ []) bytes)) ∙ spot_after-in_line (before ++ b ∷ []) bytes p.1 ∙ ap (λ s. spot_on s (length bytes)) one ∙ spot_on-on (spot_after before) 1 (length bytes) (length (b ∷ bytes)) (omega arith)

-- bytes without a line feed
pub past_line : (spot : Spot) (bytes : List ℕ) → in_line bytes ≡ true → spot_past_all spot bytes ≡ spot_on spot (length bytes)
past_line spot [] h = sym (spot_on-zero spot)
past_line spot (b ∷ bytes) h =
    let p = and_parts (not (is_line_feed b)) (in_line bytes) h in
    past_line (spot_past spot b) bytes p.1 ∙ ap (λ s. spot_on s (length bytes)) (spot_past-in_line spot b (not-true (is_line_feed b) p.0)) ∙ spot_on-on spot 1 (length bytes) (length (b ∷ bytes)) (omega arith)

-- ---- places computed from a line

-- n bytes further on the same line
pub goes_on : (line : Line) (i n k : ℕ) → line.start ≤ i → i + n ≡ k → spot_in line k ≡ spot_on (spot_in line i) n
unfolding spot_at
goes_on line i n k within e = same_spot _ _ _ _ refl (omega arith)

-- after a line feed the next line begins
pub next_line : (line : Line) (i k : ℕ) (b : ℕ) → b ≡ 10 → k ≡ i + 1 → spot_in (record { number = line.number + 1; start = k }) (i + 1) ≡ spot_past (spot_in line i) b
unfolding spot_at
next_line line i k b e s =
    same_spot (line.number + 1) (line.number + 1) (i + 1 - k + 1) 1 refl (omega arith) ∙ ap (spot_past (spot_in line i)) (sym e)

pub same_line : (line : Line) (i : ℕ) (b : ℕ) → line.start ≤ i → is_line_feed b ≡ false → spot_in line (i + 1) ≡ spot_past (spot_in line i) b
same_line line i b within e =
    goes_on line i 1 (i + 1) within refl ∙ sym (spot_past-in_line (spot_in line i) b e)

-- bytes without a line feed leave the line
pub past_in_line : (line : Line) (i : ℕ) (bytes : List ℕ) → line.start ≤ i → in_line bytes ≡ true → spot_in line (i + length bytes) ≡ spot_past_all (spot_in line i) bytes
past_in_line line i bytes within e =
    goes_on line i (length bytes) (i + length bytes) within refl ∙ sym (past_line (spot_in line i) bytes e)

pub line-le : (before : List ℕ) → (spot_after before).line ≤ length before + 1
line-le before = omega (arith, count_by-le-length is_line_feed before)

pub column-le : (before : List ℕ) → (spot_after before).column ≤ length before + 1
column-le before =
    omega (arith, prefix_len-le-length (λ b. not (is_line_feed b)) (reverse before), length-reverse before)
