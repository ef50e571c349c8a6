-- The result of each step of the lexer, over the text that is left (this project's own). Only contracts of private
-- functions cite this file.
use Rattle.std.specs.Prelude.{◌≡◌, ℕ, ◌+◌, ◌-◌, ◌≤◌, ◌<◌, ◌==◌, List, [], ◌∷◌, length, take, drop, Option, Some, None, if◌then◌else◌}
use Rattle.scrib_types.specs.declared.spot.Spot.{Spot}
use Rattle.scrib_lexer.specs.declared.lex.Line.{Line}
use Rattle.scrib_lexer.specs.declared.token.Element.{Element}
use Rattle.scrib_lexer.specs.declared.token.TokenKind.TheVariants as kind
use Rattle.scrib_lexer.specs.declared.token.TokenKind.{TokenKind}
use Rattle.scrib_lexer.specs.declared.fault.LexFault.TheVariants as fault
use Rattle.scrib_lexer.specs.declared.fault.LexFault.{LexFault}
use Rattle.scrib_lexer.specs.Words.{is_quote, is_line_feed}
use Rattle.scrib_lexer.specs.Pieces.{IsElement, IsLongest, begins_close}
use Rattle.scrib_lexer.specs.Tokens.{AtOnce, BeginsBad, BeginsOpenComment, BeginsOpenString, BeginsLongName}

-- the text begins with a whole element of this length, as long as it can be
pub record IsFrontElement (text : List ℕ) (element : Element) (len : ℕ) : Type 0 where
  pub some : 0 < len
  pub within : len ≤ length text
  pub whole : IsElement element (take len text)
  pub longest : IsLongest element (drop len text)

-- the place n bytes further on the same line
abbrev pub spot_on : Spot → ℕ → Spot
spot_on spot n = record { line = spot.line; column = spot.column + n }

-- the text begins with a fault, whose first wrong byte is at the place
abbrev pub IsWrongAt : (List ℕ → ℕ → Type 0) → List ℕ → (here at : Spot) → Type 0
IsWrongAt Wrong text here at = (n : ℕ) × Wrong text n × (at ≡ spot_on here n)

-- the text begins with this fault
abbrev pub IsFrontFault : List ℕ → Spot → LexFault → Type 0
IsFrontFault text here (fault.BadByte at) = IsWrongAt BeginsBad text here at
IsFrontFault text here (fault.OpenComment at) = IsWrongAt (AtOnce BeginsOpenComment) text here at
IsFrontFault text here (fault.OpenString at) = IsWrongAt (AtOnce BeginsOpenString) text here at
IsFrontFault text here (fault.LongName at) = IsWrongAt (AtOnce BeginsLongName) text here at
IsFrontFault text here _ = ⊥

-- the punctuation mark that a byte is
abbrev pub punctuation_of : ℕ → Option TokenKind
punctuation_of b =
    if b == 59 then Some kind.Semicolon
    else (if b == 44 then Some kind.Comma
    else (if b == 46 then Some kind.Dot
    else (if b == 58 then Some kind.Colon
    else (if b == 40 then Some kind.OpenParen
    else (if b == 41 then Some kind.CloseParen
    else (if b == 123 then Some kind.OpenBrace
    else (if b == 125 then Some kind.CloseBrace
    else (if b == 60 then Some kind.OpenAngle else (if b == 62 then Some kind.CloseAngle else None)))))))))

-- one more, unless there is none
abbrev pub one_on : Option ℕ → Option ℕ
one_on None = None
one_on (Some n) = Some (n + 1)

-- the number of bytes before the first `*/`
abbrev pub close_in : List ℕ → Option ℕ
close_in [] = None
close_in (b ∷ bs) = if begins_close (b ∷ bs) then Some 0 else one_on (close_in bs)

-- the number of bytes before the first double quote of the line
abbrev pub quote_in : List ℕ → Option ℕ
quote_in [] = None
quote_in (b ∷ bs) = if is_quote b then Some 0 else (if is_line_feed b then None else one_on (quote_in bs))

-- the place of a byte of a line
abbrev pub spot_in : Line → ℕ → Spot
spot_in line index = record { line = line.number; column = index - line.start + 1 }

-- the place after one more byte
abbrev pub spot_past : Spot → ℕ → Spot
spot_past spot b =
    if b == 10 then (record { line = spot.line + 1; column = 1 })
    else (record { line = spot.line; column = spot.column + 1 })

-- the place after more bytes
abbrev pub spot_past_all : Spot → List ℕ → Spot
spot_past_all spot [] = spot
spot_past_all spot (b ∷ bs) = spot_past_all (spot_past spot b) bs
