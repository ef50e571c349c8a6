-- The pieces of a module's text: white space, comments and tokens, one after the other, each as long as it can be.
-- Language references name them the input elements of a text. The definitions are this project's own.
use Rattle.std.specs.Prelude.{◌≡◌, ℕ, Bool, false, ◌||◌, ◌&&◌, ◌==◌, List, [], ◌∷◌, ◌++◌, codes, IsTrue}
use Rattle.scrib_lexer.specs.declared.token.Element.TheVariants as element
use Rattle.scrib_lexer.specs.declared.token.Element.{Element}
use Rattle.scrib_lexer.specs.declared.token.TokenKind.TheVariants as kind
use Rattle.scrib_lexer.specs.Words.{is_space, in_line, ends_line, IsLexeme, begins_in_word}

-- the bytes begin with `*/`
abbrev pub begins_close : List ℕ → Bool
begins_close [] = false
begins_close (b ∷ []) = false
begins_close (b ∷ c ∷ bs) = (b == 42) && (c == 47)

-- the bytes contain `*/`
abbrev pub has_close : List ℕ → Bool
has_close [] = false
has_close (b ∷ bs) = begins_close (b ∷ bs) || has_close bs

-- The bytes are a whole element: a byte of white space, a comment or a token. A comment is from `//` to the line's end,
-- or from `/*` to the first `*/` after it.
abbrev pub IsElement : Element → List ℕ → Type 0
IsElement element.Space bytes = (b : ℕ) × (bytes ≡ b ∷ []) × IsTrue (is_space b)
IsElement element.LineComment bytes = (inner : List ℕ) × (bytes ≡ codes "//" ++ inner) × IsTrue (in_line inner)
IsElement element.BlockComment bytes =
    (inner : List ℕ) × (bytes ≡ codes "/*" ++ (inner ++ codes "*/")) × (has_close inner ≡ false)
IsElement (element.Token k) bytes = IsLexeme k bytes

-- An element is as long as it can be. After a comment to the line's end the line ends. After a word no byte of a word
-- follows.
abbrev pub IsLongest : Element → (rest : List ℕ) → Type 0
IsLongest element.LineComment rest = IsTrue (ends_line rest)
IsLongest (element.Token kind.Name) rest = begins_in_word rest ≡ false
IsLongest (element.Token (kind.Keyword k)) rest = begins_in_word rest ≡ false
IsLongest _ rest = Unit {0}

-- a piece of a text: its element, and its bytes
pub record Piece : Type 0 where
  pub element : Element
  pub bytes : List ℕ

-- the text begins with the piece, and the rest follows it
pub record IsFront (text : List ℕ) (p : Piece) (rest : List ℕ) : Type 0 where
  pub split : text ≡ p.bytes ++ rest
  pub whole : IsElement p.element p.bytes
  pub longest : IsLongest p.element rest

-- the text is these pieces, one after the other, and then the rest
abbrev pub Pieces : (text : List ℕ) → List Piece → (rest : List ℕ) → Type 0
Pieces text [] rest = text ≡ rest
Pieces text (p ∷ ps) rest = (more : List ℕ) × IsFront text p more × Pieces more ps rest

-- the bytes of pieces
abbrev pub bytes_of : List Piece → List ℕ
bytes_of [] = []
bytes_of (p ∷ ps) = p.bytes ++ bytes_of ps
