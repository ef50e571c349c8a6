-- Tokens hold no line feed, nor do comments to the line's end.
use Rattle.std.proofs.Common.{◌≡◌, ℕ, ◌+◌, ◌≤◌, zero, suc, Bool, true, false, List, [], ◌∷◌, Option, Some, None, length, take, drop, get_or, refl, sym, ap, ◌∙◌, subst, arith}
use Rattle.std.specs.Option.{unwrap_or}
use Rattle.std.proofs.lemmas.Bool.{and_parts, false≢true, eqb-true}
use Rattle.std.proofs.lemmas.List.{drop_all}
use Rattle.memchr.specs.Find.{IsFirstByte, Nowhere, Passes, is_byte}
use Rattle.scrib_types.specs.Names.{is_letter, is_word_byte, all_word, is_name}
use Rattle.scrib_lexer.specs.declared.token.Element.TheVariants as element
use Rattle.scrib_lexer.specs.declared.token.TokenKind.TheVariants as kind
use Rattle.scrib_lexer.specs.declared.token.TokenKind.{TokenKind}
use Rattle.scrib_lexer.specs.Words.{is_line_feed, in_line, ends_line, IsLexeme}
use Rattle.scrib_lexer.specs.Pieces.{IsElement}
use Rattle.scrib_lexer.proofs.Words.{named, keyword-name}
use Rattle.scrib_lexer.proofs.Quotes.{in_line-push, in_line-take_more, ends_line-drop, quotable-in_line}

word_no_feed : (b : ℕ) (t : Bool) → is_line_feed b ≡ t → is_word_byte b ≡ true → t ≡ false
word_no_feed b false e w = refl
word_no_feed b true e w = absurd (false≢true (sym (ap is_word_byte (eqb-true b 10 e)) ∙ w))

word-in_line : (bytes : List ℕ) → all_word bytes ≡ true → in_line bytes ≡ true
word-in_line [] w = refl
word-in_line (b ∷ bytes) w =
    let p = and_parts (is_word_byte b) (all_word bytes) w in rw (word_no_feed b _ refl p.0, word-in_line bytes p.1) refl

letter_first : (b : ℕ) (bytes : List ℕ) → is_letter b ≡ true → all_word bytes ≡ true → all_word (b ∷ bytes) ≡ true
letter_first b bytes l w = rw (l, w) refl

name-in_line : (bytes : List ℕ) → is_name bytes ≡ true → in_line bytes ≡ true
name-in_line bytes n =
    let p = named bytes n in
    ap in_line p.2.split ∙ word-in_line (p.0 ∷ p.1) (letter_first p.0 p.1 p.2.letter p.2.tail)

pub token-in_line : (k : TokenKind) (bytes : List ℕ) → IsLexeme k bytes → in_line bytes ≡ true
token-in_line kind.Name bytes h = name-in_line bytes h.0
token-in_line (kind.Keyword k) bytes h = name-in_line bytes (keyword-name bytes k h)
token-in_line kind.StringLiteral bytes h =
    ap in_line h.1 ∙ in_line-push h.0 34 (quotable-in_line h.0 h.2) refl
token-in_line kind.Semicolon bytes h = ap in_line h
token-in_line kind.Comma bytes h = ap in_line h
token-in_line kind.Dot bytes h = ap in_line h
token-in_line kind.Colon bytes h = ap in_line h
token-in_line kind.OpenParen bytes h = ap in_line h
token-in_line kind.CloseParen bytes h = ap in_line h
token-in_line kind.OpenBrace bytes h = ap in_line h
token-in_line kind.CloseBrace bytes h = ap in_line h
token-in_line kind.OpenAngle bytes h = ap in_line h
token-in_line kind.CloseAngle bytes h = ap in_line h

pub comment-in_line : (bytes : List ℕ) → IsElement element.LineComment bytes → in_line bytes ≡ true
comment-in_line bytes h = ap in_line h.1 ∙ h.2

-- ---- the line feed that ends a line

not_so : (t : Bool) → (t ≡ true → ⊥) → t ≡ false
not_so true n = absurd (n refl)
not_so false n = refl

before-in_line : (text : List ℕ) (i : ℕ) → i ≤ length text → Nowhere (Passes (is_byte 10) text) 0 i → in_line (take i text) ≡ true
before-in_line text zero within none = refl
before-in_line text (suc i) within none =
    let here : is_line_feed (get_or text i 0) ≡ false = not_so (is_line_feed (get_or text i 0)) (none i (omega arith) (omega arith)) in
    let front : in_line (take i text) ≡ true = before-in_line text i (omega (arith, within)) (λ k low high. none k low (omega (arith, high))) in
    let next : i + 1 ≡ suc i = omega arith in
    subst (λ n. in_line (take n text) ≡ true) next (in_line-take_more text i (omega (arith, within)) here front)

-- the index at which the line ends
pub record IsLineEnd (text : List ℕ) (n : ℕ) : Type 0 where
  pub within : n ≤ length text
  pub line : in_line (take n text) ≡ true
  pub longest : ends_line (drop n text) ≡ true

pub line_end : (text : List ℕ) (r : Option ℕ) → IsFirstByte (is_byte 10) text r → IsLineEnd text (unwrap_or r (length text))
line_end text None h = record {
  within = omega arith;
  line = before-in_line text (length text) (omega arith) h;
  longest = ap ends_line (drop_all (length text) text (omega arith));
}
line_end text (Some n) h = record {
  within = omega (arith, h.0.high);
  line = before-in_line text n (omega (arith, h.0.high)) h.0.before;
  longest = ends_line-drop text n h.0.high ∙ h.1;
}
