-- The line of a permitted event with a name in the place of the conversation's number.
use Rattle.std.proofs.Common.{◌≡◌, ◌∙◌, ◌==◌, ◌≤◌, ◌<◌, ◌+◌, ◌-◌, ◌^◌, inl, inr, ℕ, suc, true, false, Bool, List, [], ◌∷◌, ◌++◌, Some, cond, codes, length, take, drop, set, refl, sym, ap, append_assoc, Result, Ok, Err, is_ok, if◌then◌else◌, arith}
use Rattle.std.specs.Char.{digit_value}
use Rattle.std.specs.Fmt.{decimal}
use Rattle.std.specs.Str.Parse.{AllDigits}
use Rattle.std.specs.Str.{bytes_eq}
use Rattle.std.proofs.Math.Seq.{drop-append_seam}
use Rattle.std.proofs.lemmas.Bool.{cases_Bool}
use Rattle.std.proofs.lemmas.Bool.Decides.{nat_tests}
use Rattle.std.proofs.lemmas.Fmt.{decimal_is_IsNumeral}
use Rattle.std.proofs.lemmas.Grind.{common_steps}
use Rattle.std.proofs.lemmas.List.{drop-set}
use Rattle.std.proofs.lemmas.List.Sums.{prefix_len-drop_no, prefix_len-drop_yes}
use Rattle.std.proofs.lemmas.Slice.Eq.{bytes_eq-Decides}
use Rattle.scrib_types.specs.Names.{is_digit}
use Rattle.scrib_report.specs.HeadedEvents.{permitted_text}
use Rattle.scrib_report.specs.Lines.{line_of, told_text, verdict_text}
use Rattle.scrib_report.specs.PutBack.{digits_len, named, with_name, word_len}

-- ---- the digits that a line begins with

digit-is : (b : ℕ) → digit_value b < 10 → (48 ≤ b) × (b ≤ 57)
digit-is b h = grind (arith, nat_tests)

is-digit : (b : ℕ) → 48 ≤ b → b ≤ 57 → is_digit b ≡ true
is-digit b l h = grind (arith, nat_tests)

digits-before : (bytes rest : List ℕ) → AllDigits 10 bytes → digits_len (bytes ++ 46 ∷ rest) ≡ length bytes
digits-before [] rest h = prefix_len-drop_no is_digit (46 ∷ rest) 0 0 (omega arith) refl
digits-before (b ∷ bs) rest h =
    let d = digit-is b h.0 in
    let one : 1 + length bs ≡ suc (length bs) = omega arith in
    prefix_len-drop_yes is_digit (b ∷ bs ++ 46 ∷ rest) 0 0 (omega arith) (is-digit b d.0 d.1) ∙ ap (λ (n : ℕ). 1 + n) (digits-before bs rest h.1) ∙ one

-- ---- a line that begins with a digit begins with no word

head-same : (x y : ℕ) (xs ys : List ℕ) → x ∷ xs ≡ y ∷ ys → x ≡ y
head-same x y xs ys e = cc

not-word : (b : ℕ) (bs : List ℕ) (w : ℕ) (ws : List ℕ) → b ≤ 57 → 57 < w → bytes_eq (b ∷ bs) (w ∷ ws) ≡ false
not-word b bs w ws h big = elim (cases_Bool (bytes_eq (b ∷ bs) (w ∷ ws))) [
  | inl same ↦ absurd (omega (arith, head-same b w bs ws ((bytes_eq-Decides (b ∷ bs) (w ∷ ws)).0 same), h, big))
  | inr other ↦ other
]

no-word : (b : ℕ) (bs : List ℕ) → b ≤ 57 → word_len (b ∷ bs) ≡ 0
no-word b bs h =
    ap (λ (t : Bool). cond t 5 (cond (bytes_eq (take 6 (b ∷ bs)) (codes "close ")) 6 0)) (not-word b (take 4 bs) 111 (codes "pen ") h (omega arith))
    ∙ ap (λ (t : Bool). cond t 6 0) (not-word b (take 5 bs) 99 (codes "lose ") h (omega arith))

some-no-zero : (n : ℕ) → (suc n == 0) ≡ false
some-no-zero n = grind (arith, nat_tests)

-- the name in the place of digits in front of a dot
named-digits : (name digits rest : List ℕ) → 0 < length digits → AllDigits 10 digits → with_name (Some name) (digits ++ 46 ∷ rest) ≡ name ++ 46 ∷ rest
named-digits name [] rest some h = absurd (omega (arith, some))
named-digits name (b ∷ bs) rest some h =
    let line : List ℕ = b ∷ bs ++ 46 ∷ rest in
    ap (λ (n : ℕ). take n line ++ named name (drop n line)) (no-word b (bs ++ 46 ∷ rest) (digit-is b h.0).1)
    ∙ ap (λ (n : ℕ). cond (n == 0) line (name ++ drop n line)) (digits-before (b ∷ bs) rest h)
    ∙ ap (λ (t : Bool). cond t line (name ++ drop (suc (length bs)) line)) (some-no-zero (length bs))
    ∙ ap (λ (t : List ℕ). name ++ t) (drop-append_seam (b ∷ bs) (46 ∷ rest))

-- ---- the line of a permitted event

apart : (id dot place blank word end : List ℕ) → (id ++ dot ++ place ++ blank ++ word) ++ end ≡ id ++ (dot ++ (place ++ (blank ++ word ++ end)))
apart id dot place blank word end = grind (arith, common_steps)

permitted-is : (id place : ℕ) → permitted_text id place ≡ decimal id ++ 46 ∷ (decimal place ++ codes " permitted\n")
unfolding line_of told_text verdict_text
permitted-is id place = apart (decimal id) (codes ".") (decimal place) (codes " ") (codes "permitted") (10 ∷ [])

pub named_permitted : (name : List ℕ) (id place : ℕ) → id < 2 ^ 64 → with_name (Some name) (permitted_text id place) ≡ name ++ 46 ∷ (decimal place ++ codes " permitted\n")
named_permitted name id place small =
    let is = decimal_is_IsNumeral id small in
    ap (with_name (Some name)) (permitted-is id place) ∙ named-digits name (decimal id) (decimal place ++ codes " permitted\n") is.0.0 is.0.1

five-apart : (old tag name dot place end : List ℕ) → old ++ tag ++ name ++ dot ++ place ++ end ≡ old ++ (tag ++ (name ++ (dot ++ (place ++ end))))
five-apart old tag name dot place end = grind (arith, common_steps)

-- the pieces of a line with a name
pub pieces_named : (old tag name : List ℕ) (id place : ℕ) → id < 2 ^ 64 → old ++ tag ++ name ++ codes "." ++ decimal place ++ codes " permitted\n" ≡ old ++ (tag ++ with_name (Some name) (permitted_text id place))
pieces_named old tag name id place small =
    five-apart old tag name (codes ".") (decimal place) (codes " permitted\n") ∙ ap (λ (t : List ℕ). old ++ (tag ++ t)) (sym (named_permitted name id place small))

-- the pieces of a line without one
pub pieces_numbered : (old tag line end : List ℕ) → old ++ tag ++ line ++ end ≡ old ++ (tag ++ (line ++ end))
pieces_numbered old tag line end = grind (arith, common_steps)

-- ---- a place behind a dot

-- a dot written in front of a place
pub dot_before : (n at : ℕ) (one end : List ℕ) → 1 ≤ at → at - 1 < length one → drop at one ≡ decimal n ++ end → drop (at - 1) (set one (at - 1) 46) ≡ 46 ∷ (decimal n ++ end)
dot_before n at one end some within e =
    let next : at - 1 + 1 ≡ at = omega (arith, some) in
    drop-set one (at - 1) 46 within ∙ ap (λ rest. 46 ∷ rest) (ap (λ i. drop i one) next ∙ e)

pub place_pieces : (old dot place end : List ℕ) → old ++ (dot ++ (place ++ end)) ≡ old ++ dot ++ place ++ end
place_pieces old dot place end = grind (arith, common_steps)

-- two pieces, of which the first is there and the second may be
pub kept_pieces : {E : Type 0} (r : Result (Unit {0}) E) (new mid old a b : List ℕ) → mid ≡ old ++ a → new ≡ (if is_ok r then mid ++ b else mid) → (x : List ℕ) × (new ≡ old ++ x)
kept_pieces (Ok u) new mid old a b m e = (a ++ b, e ∙ ap (λ (t : List ℕ). t ++ b) m ∙ append_assoc old a b)
kept_pieces (Err u) new mid old a b m e = (a, e ∙ m)
