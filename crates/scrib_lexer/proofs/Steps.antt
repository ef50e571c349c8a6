-- The element or the fault that each step of the lexer finds at the front of a text.
use Rattle.std.proofs.Common.{◌≡◌, ℕ, ◌+◌, ◌<◌, ◌≤◌, true, false, List, [], ◌∷◌, ◌++◌, length, take, drop, get_or, refl, sym, ap, ◌∙◌, subst, arith, zero, suc, Some, None, inl, inr}
use Rattle.std.specs.Str.{IsUtf8, IsValidUpTo}
use Rattle.std.proofs.lemmas.Bool.{and_parts, false≢true, ne_eqb}
use Rattle.std.proofs.lemmas.List.{append_assoc, append_cancel_right, take-append-drop, length-take-le}
use Rattle.scrib_types.specs.Names.{is_letter, is_word_byte, all_word, is_name}
use Rattle.scrib_types.specs.declared.spot.Spot.{Spot}
use Rattle.scrib_lexer.specs.declared.token.Element.TheVariants as element
use Rattle.scrib_lexer.specs.declared.token.TokenKind.TheVariants as kind
use Rattle.scrib_lexer.specs.declared.token.TokenKind.{TokenKind}
use Rattle.scrib_lexer.specs.Words.{is_space, is_quote, in_line, ends_line, quoted, IsLexeme, begins_in_word}
use Rattle.scrib_lexer.specs.Tokens.{begins_comment, BeginsNothing, BeginsOpenComment, BeginsOpenString, BeginsLongName, AtOnce, BeginsBad}
use Rattle.scrib_lexer.specs.Steps.{IsFrontElement, IsWrongAt, spot_on, punctuation_of, close_in, quote_in}
use Rattle.scrib_lexer.proofs.Words.{keyword-name, name-letter}
use Rattle.scrib_lexer.proofs.Spots.{spot_on-zero}
use Rattle.scrib_lexer.proofs.Quotes.{IsClosed, close_in-some, close_in-none, IsQuoted, quote_in-some, quote_in-none}

at_here : (Wrong : List ℕ → Type 0) (text : List ℕ) (here : Spot) → Wrong text → IsWrongAt (AtOnce Wrong) text here here
at_here Wrong text here w = (0, (w, refl), sym (spot_on-zero here))

-- ---- one byte

pub front-space : (text : List ℕ) → 0 < length text → is_space (get_or text 0 0) ≡ true → IsFrontElement text element.Space 1
front-space [] l s = absurd (omega (arith, l))
front-space (b ∷ text) l s = record { some = omega arith; within = omega arith; whole = (b, refl, s); longest = tt }

-- ---- words

pub long_word : (text : List ℕ) (n : ℕ) → is_letter (get_or text 0 0) ≡ true → n ≤ length text → all_word (take n text) ≡ true → begins_in_word (drop n text) ≡ false → 128 < n → BeginsLongName text
long_word [] n l within w e long = absurd (omega (arith, within, long))
long_word (b ∷ text) zero l within w e long = absurd (omega (arith, long))
long_word (b ∷ text) (suc n) l within w e long =
    let p = and_parts (is_word_byte b) (all_word (take n text)) w in
    let whole : length (take n text) ≡ n = length-take-le n text (omega (arith, within)) in
    (l, (take n text, drop n text, sym (take-append-drop n text), p.1, omega (arith, long, whole), e))

pub word_fault : (text : List ℕ) (n : ℕ) (here : Spot) → is_letter (get_or text 0 0) ≡ true → n ≤ length text → all_word (take n text) ≡ true → begins_in_word (drop n text) ≡ false → 128 < n → IsWrongAt (AtOnce BeginsLongName) text here here
word_fault text n here l within w e long = at_here BeginsLongName text here (long_word text n l within w e long)

-- ---- a byte with which nothing begins

no_mark : (b : ℕ) (bytes : List ℕ) (c : ℕ) (k : TokenKind) → punctuation_of c ≡ Some k → punctuation_of b ≡ None → b ∷ bytes ≡ c ∷ [] → ⊥
no_mark b bytes c k m n e =
    let same : b ≡ c = cc in
    let q : Some k ≡ None = sym m ∙ ap punctuation_of (sym same) ∙ n in absurd (cc q)

no_name : (b : ℕ) (bytes : List ℕ) → is_letter b ≡ false → is_name (b ∷ bytes) ≡ true → ⊥
no_name b bytes l n = false≢true (sym l ∙ name-letter b bytes n)

no_string : (b : ℕ) (bytes inner : List ℕ) → is_quote b ≡ false → b ∷ bytes ≡ quoted inner → ⊥
no_string b bytes inner q e =
    let same : b ≡ 34 = cc in false≢true (sym q ∙ ap is_quote same)

no_token : (b : ℕ) → is_letter b ≡ false → is_quote b ≡ false → punctuation_of b ≡ None → (k : TokenKind) (bytes : List ℕ) → IsLexeme k (b ∷ bytes) → ⊥
no_token b l q m kind.Name bytes h = no_name b bytes l h.0
no_token b l q m (kind.Keyword k) bytes h = no_name b bytes l (keyword-name (b ∷ bytes) k h)
no_token b l q m kind.StringLiteral bytes h = no_string b bytes h.0 q h.1
no_token b l q m kind.Semicolon bytes h = no_mark b bytes 59 kind.Semicolon refl m h
no_token b l q m kind.Comma bytes h = no_mark b bytes 44 kind.Comma refl m h
no_token b l q m kind.Dot bytes h = no_mark b bytes 46 kind.Dot refl m h
no_token b l q m kind.Colon bytes h = no_mark b bytes 58 kind.Colon refl m h
no_token b l q m kind.OpenParen bytes h = no_mark b bytes 40 kind.OpenParen refl m h
no_token b l q m kind.CloseParen bytes h = no_mark b bytes 41 kind.CloseParen refl m h
no_token b l q m kind.OpenBrace bytes h = no_mark b bytes 123 kind.OpenBrace refl m h
no_token b l q m kind.CloseBrace bytes h = no_mark b bytes 125 kind.CloseBrace refl m h
no_token b l q m kind.OpenAngle bytes h = no_mark b bytes 60 kind.OpenAngle refl m h
no_token b l q m kind.CloseAngle bytes h = no_mark b bytes 62 kind.CloseAngle refl m h

bad_here : (text : List ℕ) (here : Spot) → BeginsNothing text → IsWrongAt BeginsBad text here here
bad_here text here w = (0, inl (w, refl), sym (spot_on-zero here))

no_slash : (b : ℕ) (text : List ℕ) → (b ≡ 47 → ⊥) → begins_comment (b ∷ text) ≡ false
no_slash b [] n = refl
no_slash b (c ∷ text) n = rw (ne_eqb b 47 n) refl

pub byte_fault : (text : List ℕ) (here : Spot) → 0 < length text → is_space (get_or text 0 0) ≡ false → is_letter (get_or text 0 0) ≡ false → punctuation_of (get_or text 0 0) ≡ None → (get_or text 0 0 ≡ 34 → ⊥) → (get_or text 0 0 ≡ 47 → ⊥) → IsWrongAt BeginsBad text here here
byte_fault [] here some s l m q n = absurd (omega (arith, some))
byte_fault (b ∷ text) here some s l m q n =
    bad_here (b ∷ text) here (s, no_slash b text n, no_token b l (ne_eqb b 34 q) m)

-- ---- comments

-- a text that begins with these two bytes
pub begins_two : (text : List ℕ) (a b : ℕ) → 2 ≤ length text → get_or text 0 0 ≡ a → get_or text 1 0 ≡ b → text ≡ a ∷ b ∷ drop 2 text
begins_two [] a b l e f = absurd (omega (arith, l))
begins_two (x ∷ []) a b l e f = absurd (omega (arith, l))
begins_two (x ∷ y ∷ text) a b l e f = λ i. e i ∷ f i ∷ text

begins_one : (text : List ℕ) (a : ℕ) → 0 < length text → get_or text 0 0 ≡ a → text ≡ a ∷ drop 1 text
begins_one [] a l e = absurd (omega (arith, l))
begins_one (x ∷ text) a l e = λ i. e i ∷ text

slash-line : (rest : List ℕ) (n : ℕ) → n ≤ length (47 ∷ 47 ∷ rest) → in_line (take n (47 ∷ 47 ∷ rest)) ≡ true → ends_line (drop n (47 ∷ 47 ∷ rest)) ≡ true → IsFrontElement (47 ∷ 47 ∷ rest) element.LineComment n
slash-line rest zero l w e = absurd (false≢true e)
slash-line rest (suc zero) l w e = absurd (false≢true e)
slash-line rest (suc (suc n)) l w e =
    record { some = omega arith; within = l; whole = (take n rest, refl, w); longest = e }

pub front-line : (text : List ℕ) (n : ℕ) → 2 ≤ length text → get_or text 0 0 ≡ 47 → get_or text 1 0 ≡ 47 → n ≤ length text → in_line (take n text) ≡ true → ends_line (drop n text) ≡ true → IsFrontElement text element.LineComment n
front-line text n two e f l w g =
    let same = begins_two text 47 47 two e f in
    let here = slash-line (drop 2 text) n (subst (λ x. n ≤ length x) same l) (subst (λ x. in_line (take n x) ≡ true) same w) (subst (λ x. ends_line (drop n x) ≡ true) same g) in
    subst (λ x. IsFrontElement x element.LineComment n) (sym same) here

closed-take : (rest : List ℕ) (n : ℕ) → IsClosed rest n → take (n + 2) rest ≡ take n rest ++ 42 ∷ 47 ∷ []
closed-take rest n h =
    append_cancel_right (take (n + 2) rest) (take n rest ++ 42 ∷ 47 ∷ []) (drop (n + 2) rest)
    (take-append-drop (n + 2) rest ∙ h.close ∙ sym (append_assoc (take n rest) (42 ∷ 47 ∷ []) (drop (n + 2) rest)))

slash-block : (rest : List ℕ) (n m : ℕ) → suc (suc (n + 2)) ≡ m → IsClosed rest n → IsFrontElement (47 ∷ 42 ∷ rest) element.BlockComment m
slash-block rest n m s h =
    subst (λ x. IsFrontElement (47 ∷ 42 ∷ rest) element.BlockComment x) s
    (record {
      some = omega arith;
      within = omega (arith, h.within);
      whole = (take n rest, ap (λ x. 47 ∷ 42 ∷ x) (closed-take rest n h), h.free);
      longest = tt;
    })

pub block-within : (text : List ℕ) (n : ℕ) → close_in (drop 2 text) ≡ Some n → n + 2 ≤ length (drop 2 text)
block-within text n h = (close_in-some (drop 2 text) n h).within

pub front-block : (text : List ℕ) (n : ℕ) → 2 ≤ length text → get_or text 0 0 ≡ 47 → get_or text 1 0 ≡ 42 → close_in (drop 2 text) ≡ Some n → IsFrontElement text element.BlockComment (n + 4)
front-block text n two e f h =
    subst (λ x. IsFrontElement x element.BlockComment (n + 4)) (sym (begins_two text 47 42 two e f)) (slash-block (drop 2 text) n (n + 4) (omega arith) (close_in-some (drop 2 text) n h))

pub comment_fault : (text : List ℕ) (here : Spot) → 2 ≤ length text → get_or text 0 0 ≡ 47 → get_or text 1 0 ≡ 42 → close_in (drop 2 text) ≡ None → IsWrongAt (AtOnce BeginsOpenComment) text here here
comment_fault text here two e f h =
    at_here BeginsOpenComment text here (drop 2 text, begins_two text 47 42 two e f, close_in-none (drop 2 text) h)

lone-slash : (rest : List ℕ) → begins_comment (47 ∷ rest) ≡ false → BeginsNothing (47 ∷ rest)
lone-slash rest h = (refl, h, no_token 47 refl refl refl)

no_second : (rest : List ℕ) → (get_or rest 0 0 ≡ 47 → ⊥) → (get_or rest 0 0 ≡ 42 → ⊥) → begins_comment (47 ∷ rest) ≡ false
no_second [] n m = refl
no_second (c ∷ rest) n m = rw (ne_eqb c 47 n, ne_eqb c 42 m) refl

second_of : (text : List ℕ) → get_or (drop 1 text) 0 0 ≡ get_or text 1 0
second_of [] = refl
second_of (b ∷ text) = refl

pub slash_fault : (text : List ℕ) (here : Spot) → 0 < length text → get_or text 0 0 ≡ 47 → (get_or text 1 0 ≡ 47 → ⊥) → (get_or text 1 0 ≡ 42 → ⊥) → IsWrongAt BeginsBad text here here
slash_fault text here some e n m =
    let same = begins_one text 47 some e in
    let alone = no_second (drop 1 text) (λ x. n (sym (second_of text) ∙ x)) (λ x. m (sym (second_of text) ∙ x)) in
    bad_here text here (subst BeginsNothing (sym same) (lone-slash (drop 1 text) alone))

-- ---- strings

quoted-take : (rest : List ℕ) (n : ℕ) → IsQuoted rest n → take (n + 1) rest ≡ take n rest ++ 34 ∷ []
quoted-take rest n h =
    append_cancel_right (take (n + 1) rest) (take n rest ++ 34 ∷ []) (drop (n + 1) rest)
    (take-append-drop (n + 1) rest ∙ h.split ∙ sym (append_assoc (take n rest) (34 ∷ []) (drop (n + 1) rest)))

quote-string : (rest : List ℕ) (n m : ℕ) → suc (n + 1) ≡ m → IsQuoted rest n → IsUtf8 (take n rest) → IsFrontElement (34 ∷ rest) (element.Token kind.StringLiteral) m
quote-string rest n m s h u =
    subst (λ x. IsFrontElement (34 ∷ rest) (element.Token kind.StringLiteral) x) s
    (record {
      some = omega arith;
      within = omega (arith, h.within);
      whole = (take n rest, ap (λ x. 34 ∷ x) (quoted-take rest n h), h.inner, u);
      longest = tt;
    })

pub quote-within : (text : List ℕ) (n : ℕ) → quote_in (drop 1 text) ≡ Some n → n < length (drop 1 text)
quote-within text n h = (quote_in-some (drop 1 text) n h).within

pub front-string : (text : List ℕ) (n : ℕ) → 0 < length text → get_or text 0 0 ≡ 34 → quote_in (drop 1 text) ≡ Some n → IsUtf8 (take n (drop 1 text)) → IsFrontElement text (element.Token kind.StringLiteral) (n + 2)
front-string text n some e h u =
    subst (λ x. IsFrontElement x (element.Token kind.StringLiteral) (n + 2)) (sym (begins_one text 34 some e)) (quote-string (drop 1 text) n (n + 2) (omega arith) (quote_in-some (drop 1 text) n h) u)

pub string_fault : (text : List ℕ) (n good : ℕ) (here : Spot) → 0 < length text → get_or text 0 0 ≡ 34 → quote_in (drop 1 text) ≡ Some n → IsValidUpTo (take n (drop 1 text)) good → IsWrongAt BeginsBad text here (spot_on here (good + 1))
string_fault text n good here some e h v =
    let k = quote_in-some (drop 1 text) n h in
    let rest : List ℕ = drop (n + 1) (drop 1 text) in
    let split : text ≡ quoted (take n (drop 1 text)) ++ rest =
    begins_one text 34 some e ∙ ap (λ x. 34 ∷ x) (k.split ∙ sym (append_assoc (take n (drop 1 text)) (34 ∷ []) rest)) in
    (good + 1, inr (take n (drop 1 text), rest, good, split, k.inner, v, refl), refl)

pub open_fault : (text : List ℕ) (here : Spot) → 0 < length text → get_or text 0 0 ≡ 34 → quote_in (drop 1 text) ≡ None → IsWrongAt (AtOnce BeginsOpenString) text here here
open_fault text here some e h =
    let k = quote_in-none (drop 1 text) h in
    at_here BeginsOpenString text here (k.0, k.1, begins_one text 34 some e ∙ ap (λ x. 34 ∷ x) k.2.split, k.2.inner, k.2.ends)
