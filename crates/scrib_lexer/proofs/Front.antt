-- The text determines the piece that it begins with.
use Rattle.std.proofs.Common.{◌≡◌, ℕ, true, false, cond, List, [], ◌∷◌, ◌++◌, refl, sym, ap, ◌∙◌, subst, arith, ◌==◌, Option, Some, None}
use Rattle.std.proofs.lemmas.Bool.{false≢true}
use Rattle.std.proofs.lemmas.Bool.Decides.{nat_tests}
use Rattle.std.proofs.lemmas.List.{append_assoc, append_cancel_left}
use Rattle.scrib_types.specs.Names.{is_letter, all_word, is_name}
use Rattle.scrib_lexer.specs.declared.token.Keyword.{Keyword}
use Rattle.scrib_lexer.specs.declared.token.Element.TheVariants as element
use Rattle.scrib_lexer.specs.declared.token.Element.{Element}
use Rattle.scrib_lexer.specs.declared.token.TokenKind.TheVariants as kind
use Rattle.scrib_lexer.specs.declared.token.TokenKind.{TokenKind}
use Rattle.scrib_lexer.specs.Words.{is_space, in_line, ends_line, is_quote, is_quotable, quoted, keyword_of, begins_in_word}
use Rattle.scrib_lexer.specs.Pieces.{has_close, IsElement, IsLongest, Piece, IsFront}
use Rattle.scrib_lexer.specs.Steps.{punctuation_of}
use Rattle.scrib_lexer.proofs.Words.{keyword-name, named, name-letter, word_front, word_front-append}
use Rattle.scrib_lexer.proofs.Quotes.{line_front, line_front-append, block_front, block_front-append, string_front, string_front-append}

-- ---- the bytes of the first piece, read from the left

unfoldable pub comment_front : List ℕ → List ℕ
comment_front [] = []
comment_front (b ∷ bytes) = cond (b == 47) (b ∷ line_front bytes) (b ∷ block_front bytes)

unfoldable pub front : List ℕ → List ℕ
front [] = []
front (b ∷ bytes) =
    cond (is_letter b) (b ∷ word_front bytes) (cond (is_quote b) (b ∷ string_front bytes) (cond (b == 47) (b ∷ comment_front bytes) (b ∷ [])))

pub front-word : (b : ℕ) (bytes rest : List ℕ) → is_letter b ≡ true → all_word bytes ≡ true → begins_in_word rest ≡ false → front (b ∷ (bytes ++ rest)) ≡ b ∷ bytes
unfolding front
front-word b bytes rest l w e = rw l (ap (λ x. b ∷ x) (word_front-append bytes rest w e))

front-name : (word rest : List ℕ) → is_name word ≡ true → begins_in_word rest ≡ false → front (word ++ rest) ≡ word
front-name word rest n e =
    let p = named word n in
    let h = p.2 in
    subst (λ x. front (x ++ rest) ≡ x) (sym h.split) (front-word p.0 p.1 rest h.letter h.tail e)

-- a byte that is a piece alone
front-one : (b : ℕ) (bytes rest : List ℕ) → is_letter b ≡ false → is_quote b ≡ false → (b == 47) ≡ false → bytes ≡ b ∷ [] → front (bytes ++ rest) ≡ bytes
unfolding front
front-one b bytes rest l q s e =
    subst (λ x. front (x ++ rest) ≡ x) (sym e) (rw (l, q, s) refl)

space-no_letter : (b : ℕ) → is_space b ≡ true → is_letter b ≡ false
space-no_letter b h = grind (arith, nat_tests)

space-no_quote : (b : ℕ) → is_space b ≡ true → is_quote b ≡ false
space-no_quote b h = grind (arith, nat_tests)

space-no_slash : (b : ℕ) → is_space b ≡ true → (b == 47) ≡ false
space-no_slash b h = grind (arith, nat_tests)

pub front-string : (inner rest : List ℕ) → is_quotable inner ≡ true → front (quoted inner ++ rest) ≡ quoted inner
unfolding front
front-string inner rest h =
    ap (λ x. 34 ∷ string_front x) (append_assoc inner (34 ∷ []) rest) ∙ ap (λ x. 34 ∷ x) (string_front-append inner rest h)

pub front-line : (inner rest : List ℕ) → in_line inner ≡ true → ends_line rest ≡ true → front (47 ∷ 47 ∷ (inner ++ rest)) ≡ 47 ∷ 47 ∷ inner
unfolding front comment_front
front-line inner rest h e = ap (λ x. 47 ∷ 47 ∷ x) (line_front-append inner rest h e)

pub front-block : (inner rest : List ℕ) → has_close inner ≡ false → front (47 ∷ 42 ∷ ((inner ++ 42 ∷ 47 ∷ []) ++ rest)) ≡ 47 ∷ 42 ∷ (inner ++ 42 ∷ 47 ∷ [])
unfolding front comment_front
front-block inner rest h =
    ap (λ x. 47 ∷ 42 ∷ block_front x) (append_assoc inner (42 ∷ 47 ∷ []) rest) ∙ ap (λ x. 47 ∷ 42 ∷ x) (block_front-append inner rest h)

front-element : (e : Element) (bytes rest : List ℕ) → IsElement e bytes → IsLongest e rest → front (bytes ++ rest) ≡ bytes
front-element element.Space bytes rest h l =
    front-one h.0 bytes rest (space-no_letter h.0 h.2) (space-no_quote h.0 h.2) (space-no_slash h.0 h.2) h.1
front-element element.LineComment bytes rest h l =
    subst (λ x. front (x ++ rest) ≡ x) (sym h.1) (front-line h.0 rest h.2 l)
front-element element.BlockComment bytes rest h l =
    subst (λ x. front (x ++ rest) ≡ x) (sym h.1) (front-block h.0 rest h.2)
front-element (element.Token kind.Name) bytes rest h l = front-name bytes rest h.0 l
front-element (element.Token (kind.Keyword k)) bytes rest h l = front-name bytes rest (keyword-name bytes k h) l
front-element (element.Token kind.StringLiteral) bytes rest h l =
    subst (λ x. front (x ++ rest) ≡ x) (sym h.1) (front-string h.0 rest h.2)
front-element (element.Token kind.Semicolon) bytes rest h l = front-one 59 bytes rest refl refl refl h
front-element (element.Token kind.Comma) bytes rest h l = front-one 44 bytes rest refl refl refl h
front-element (element.Token kind.Dot) bytes rest h l = front-one 46 bytes rest refl refl refl h
front-element (element.Token kind.Colon) bytes rest h l = front-one 58 bytes rest refl refl refl h
front-element (element.Token kind.OpenParen) bytes rest h l = front-one 40 bytes rest refl refl refl h
front-element (element.Token kind.CloseParen) bytes rest h l = front-one 41 bytes rest refl refl refl h
front-element (element.Token kind.OpenBrace) bytes rest h l = front-one 123 bytes rest refl refl refl h
front-element (element.Token kind.CloseBrace) bytes rest h l = front-one 125 bytes rest refl refl refl h
front-element (element.Token kind.OpenAngle) bytes rest h l = front-one 60 bytes rest refl refl refl h
front-element (element.Token kind.CloseAngle) bytes rest h l = front-one 62 bytes rest refl refl refl h

-- ---- the element of a piece, by its bytes

abbrev pub kind_of_word : Option Keyword → TokenKind
kind_of_word None = kind.Name
kind_of_word (Some k) = kind.Keyword k

abbrev pub kind_of_mark : Option TokenKind → Element
kind_of_mark None = element.Space
kind_of_mark (Some k) = element.Token k

abbrev pub read_comment : List ℕ → Element
read_comment [] = element.LineComment
read_comment (b ∷ bytes) = cond (b == 47) element.LineComment element.BlockComment

unfoldable pub read_element : List ℕ → Element
read_element [] = element.Space
read_element (b ∷ bytes) =
    cond (is_letter b) (element.Token (kind_of_word (keyword_of (b ∷ bytes)))) (cond (is_quote b) (element.Token kind.StringLiteral) (cond (b == 47) (read_comment bytes) (kind_of_mark (punctuation_of b))))

read_element-name : (word : List ℕ) (o : Option Keyword) → is_name word ≡ true → keyword_of word ≡ o → read_element word ≡ element.Token (kind_of_word o)
unfolding read_element
read_element-name [] o n e = absurd (false≢true n)
read_element-name (b ∷ bytes) o n e =
    ap (λ t. cond t (element.Token (kind_of_word (keyword_of (b ∷ bytes)))) (cond (is_quote b) (element.Token kind.StringLiteral) (cond (b == 47) (read_comment bytes) (kind_of_mark (punctuation_of b))))) (name-letter b bytes n) ∙ ap (λ x. element.Token (kind_of_word x)) e

space-no_mark : (b : ℕ) → is_space b ≡ true → punctuation_of b ≡ None
space-no_mark b h = grind (arith, nat_tests)

read_element-space : (b : ℕ) → is_space b ≡ true → read_element (b ∷ []) ≡ element.Space
unfolding read_element
read_element-space b h =
    rw (space-no_letter b h, space-no_quote b h, space-no_slash b h) (ap kind_of_mark (space-no_mark b h))

read_element-of : (e : Element) (bytes : List ℕ) → IsElement e bytes → read_element bytes ≡ e
unfolding read_element
read_element-of element.Space bytes h = ap read_element h.1 ∙ read_element-space h.0 h.2
read_element-of element.LineComment bytes h = ap read_element h.1
read_element-of element.BlockComment bytes h = ap read_element h.1
read_element-of (element.Token kind.Name) bytes h = read_element-name bytes None h.0 h.1
read_element-of (element.Token (kind.Keyword k)) bytes h = read_element-name bytes (Some k) (keyword-name bytes k h) h
read_element-of (element.Token kind.StringLiteral) bytes h = ap read_element h.1
read_element-of (element.Token kind.Semicolon) bytes h = ap read_element h
read_element-of (element.Token kind.Comma) bytes h = ap read_element h
read_element-of (element.Token kind.Dot) bytes h = ap read_element h
read_element-of (element.Token kind.Colon) bytes h = ap read_element h
read_element-of (element.Token kind.OpenParen) bytes h = ap read_element h
read_element-of (element.Token kind.CloseParen) bytes h = ap read_element h
read_element-of (element.Token kind.OpenBrace) bytes h = ap read_element h
read_element-of (element.Token kind.CloseBrace) bytes h = ap read_element h
read_element-of (element.Token kind.OpenAngle) bytes h = ap read_element h
read_element-of (element.Token kind.CloseAngle) bytes h = ap read_element h

-- ---- one piece

pub front-is : (text : List ℕ) (p : Piece) (rest : List ℕ) → IsFront text p rest → front text ≡ p.bytes
front-is text p rest f = ap front f.split ∙ front-element p.element p.bytes rest f.whole f.longest

pub element-is : (text : List ℕ) (p : Piece) (rest : List ℕ) → IsFront text p rest → read_element (front text) ≡ p.element
element-is text p rest f = ap read_element (front-is text p rest f) ∙ read_element-of p.element p.bytes f.whole

same_piece : (p q : Piece) → p.element ≡ q.element → p.bytes ≡ q.bytes → p ≡ q
same_piece p q e b = λ i. record { element = e i; bytes = b i }

-- a text begins with one piece
pub one_front : (text : List ℕ) (p q : Piece) (rest after : List ℕ) → IsFront text p rest → IsFront text q after → (p ≡ q) × (rest ≡ after)
one_front text p q rest after f g =
    let bytes : p.bytes ≡ q.bytes = sym (front-is text p rest f) ∙ front-is text q after g in
    let element : p.element ≡ q.element = sym (element-is text p rest f) ∙ element-is text q after g in
    let both : q.bytes ++ rest ≡ q.bytes ++ after = ap (λ x. x ++ rest) (sym bytes) ∙ sym f.split ∙ g.split in
    (same_piece p q element bytes, append_cancel_left q.bytes rest after both)
