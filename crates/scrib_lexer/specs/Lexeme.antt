-- Tokens by their value, without the address of their bytes (this project's own).
use Rattle.std.specs.Prelude.{ℕ, List, map}
use Rattle.scrib_types.specs.declared.spot.Spot.{Spot}
use Rattle.scrib_lexer.specs.declared.token.TokenKind.{TokenKind}
use Rattle.scrib_lexer.specs.declared.token.Token.{Token}

-- a token: its kind, its bytes and the place of the first of them
pub record Lexeme : Type 0 where
  pub kind : TokenKind
  pub bytes : List ℕ
  pub spot : Spot

-- the value of a token
abbrev pub lexeme_of : Token → Lexeme
lexeme_of t = record { kind = t.kind; bytes = t.bytes.now; spot = t.spot }

-- the values of tokens, in order
abbrev pub lexemes_of : List Token → List Lexeme
lexemes_of ts = map lexeme_of ts
