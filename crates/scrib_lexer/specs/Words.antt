-- White space, words, punctuation marks and string literals of a module's text (names and marks after the Scribble
-- Language Reference 0.3; the reserved words and the string literals are this project's own).
use Rattle.std.specs.Prelude.{◌≡◌, ℕ, Bool, true, false, not, ◌||◌, ◌&&◌, ◌==◌, List, [], ◌∷◌, ◌++◌, Option, Some, None, if◌then◌else◌, codes, IsTrue}
use Rattle.std.specs.Str.{bytes_eq, IsUtf8}
use Rattle.scrib_types.specs.Names.{is_word_byte, is_name}
use Rattle.scrib_lexer.specs.declared.token.Keyword.TheVariants as keyword
use Rattle.scrib_lexer.specs.declared.token.Keyword.{Keyword}
use Rattle.scrib_lexer.specs.declared.token.TokenKind.TheVariants as kind
use Rattle.scrib_lexer.specs.declared.token.TokenKind.{TokenKind}

-- white space: space, tab, carriage return or line feed
abbrev pub is_space : ℕ → Bool
is_space b = (b == 32) || (b == 9) || (b == 13) || (b == 10)

-- a byte that ends a line
abbrev pub is_line_feed : ℕ → Bool
is_line_feed b = b == 10

-- the bytes end no line
abbrev pub in_line : List ℕ → Bool
in_line [] = true
in_line (b ∷ bs) = not (is_line_feed b) && in_line bs

-- the line ends here: by a line feed, or with the text
abbrev pub ends_line : List ℕ → Bool
ends_line [] = true
ends_line (b ∷ bs) = is_line_feed b

-- the reserved words
abbrev pub reserved : List (List ℕ × Keyword)
reserved =
    (codes "module", keyword.Module) ∷ (codes "import", keyword.Import) ∷ (codes "as", keyword.As)
    ∷ (codes "type", keyword.«Type») ∷ (codes "from", keyword.From) ∷ (codes "to", keyword.To)
    ∷ (codes "global", keyword.Global) ∷ (codes "protocol", keyword.Protocol) ∷ (codes "role", keyword.Role)
    ∷ (codes "choice", keyword.Choice) ∷ (codes "at", keyword.At) ∷ (codes "or", keyword.Or)
    ∷ (codes "rec", keyword.Rec) ∷ (codes "continue", keyword.Continue) ∷ (codes "do", keyword.Do) ∷ []

-- the keyword beside a word in a table
abbrev pub look_up : List ℕ → List (List ℕ × Keyword) → Option Keyword
look_up word [] = None
look_up word (row ∷ rows) = if bytes_eq word row.0 then Some row.1 else look_up word rows

-- the keyword that the bytes are
abbrev pub keyword_of : List ℕ → Option Keyword
keyword_of word = look_up word reserved

-- the double quote
abbrev pub is_quote : ℕ → Bool
is_quote b = b == 34

-- bytes that a string literal may have between its quotes: no quote and no line feed
abbrev pub is_quotable : List ℕ → Bool
is_quotable [] = true
is_quotable (b ∷ bs) = not (is_quote b) && not (is_line_feed b) && is_quotable bs

-- the bytes between two double quotes
abbrev pub quoted : List ℕ → List ℕ
quoted bytes = 34 ∷ (bytes ++ 34 ∷ [])

-- the bytes are a whole token of the kind. A string literal is UTF-8 between two double quotes on one line
abbrev pub IsLexeme : TokenKind → List ℕ → Type 0
IsLexeme kind.Name bytes = IsTrue (is_name bytes) × (keyword_of bytes ≡ None)
IsLexeme (kind.Keyword k) bytes = keyword_of bytes ≡ Some k
IsLexeme kind.StringLiteral bytes =
    (inner : List ℕ) × (bytes ≡ quoted inner) × IsTrue (is_quotable inner) × IsUtf8 inner
IsLexeme kind.Semicolon bytes = bytes ≡ codes ";"
IsLexeme kind.Comma bytes = bytes ≡ codes ","
IsLexeme kind.Dot bytes = bytes ≡ codes "."
IsLexeme kind.Colon bytes = bytes ≡ codes ":"
IsLexeme kind.OpenParen bytes = bytes ≡ codes "("
IsLexeme kind.CloseParen bytes = bytes ≡ codes ")"
IsLexeme kind.OpenBrace bytes = bytes ≡ codes "{"
IsLexeme kind.CloseBrace bytes = bytes ≡ codes "}"
IsLexeme kind.OpenAngle bytes = bytes ≡ codes "<"
IsLexeme kind.CloseAngle bytes = bytes ≡ codes ">"

-- the bytes begin with a byte of a word
abbrev pub begins_in_word : List ℕ → Bool
begins_in_word [] = false
begins_in_word (b ∷ bs) = is_word_byte b
