-- The tokens of a text, and the fault of a text that has none (this project's own).
use Rattle.std.specs.Prelude.{◌≡◌, ℕ, ◌+◌, ◌≤◌, ◌<◌, Bool, false, not, ◌&&◌, ◌||◌, ◌==◌, List, [], ◌∷◌, ◌++◌, length, take, reverse, count_by, Result, Ok, Err, IsTrue, codes, ◌⊎◌}
use Rattle.std.specs.List.{prefix_len}
use Rattle.std.specs.Str.{IsValidUpTo}
use Rattle.std.specs.declared.vec.Vec.{Vec}
use Rattle.std.specs.declared.alloc.Global.{Global}
use Rattle.scrib_types.specs.Names.{is_letter, all_word}
use Rattle.scrib_types.specs.declared.spot.Spot.{Spot}
use Rattle.scrib_lexer.specs.declared.token.Element.TheVariants as element
use Rattle.scrib_lexer.specs.declared.token.Element.{Element}
use Rattle.scrib_lexer.specs.declared.token.Token.{Token}
use Rattle.scrib_lexer.specs.declared.token.TokenKind.{TokenKind}
use Rattle.scrib_lexer.specs.declared.fault.LexFault.TheVariants as fault
use Rattle.scrib_lexer.specs.declared.fault.LexFault.{LexFault}
use Rattle.scrib_lexer.specs.Lexeme.{Lexeme, lexemes_of}
use Rattle.scrib_lexer.specs.Words.{is_space, is_line_feed, ends_line, is_quotable, quoted, IsLexeme, begins_in_word}
use Rattle.scrib_lexer.specs.Pieces.{has_close, Piece, Pieces, bytes_of}

-- The place after the bytes. The line is one more than the number of their line feeds, and the column one more than
-- the number of bytes after the last of these.
abbrev pub spot_after : List ℕ → Spot
spot_after before =
    record {
      line = count_by is_line_feed before + 1;
      column = prefix_len (λ b. not (is_line_feed b)) (reverse before) + 1;
    }

-- the token of a piece after `before`, if it has one
abbrev pub token_at : (before : List ℕ) → Element → (bytes : List ℕ) → List Lexeme
token_at before (element.Token k) bytes = record { kind = k; bytes = bytes; spot = spot_after before } ∷ []
token_at before _ bytes = []

-- the tokens among the pieces after `before`, in order
abbrev pub tokens_of : (before : List ℕ) → List Piece → List Lexeme
tokens_of before [] = []
tokens_of before (p ∷ ps) = token_at before p.element p.bytes ++ tokens_of (before ++ p.bytes) ps

-- the most bytes of a module's text
abbrev pub max_text_bytes : ℕ
max_text_bytes = 1048576

-- a whole module text and its tokens
abbrev pub IsTokens : List ℕ → List Lexeme → Type 0
IsTokens text ts = (length text ≤ max_text_bytes) × ((ps : List Piece) × Pieces text ps [] × (ts ≡ tokens_of [] ps))

-- the bytes begin with `//` or `/*`
abbrev pub begins_comment : List ℕ → Bool
begins_comment [] = false
begins_comment (b ∷ []) = false
begins_comment (b ∷ c ∷ text) = (b == 47) && ((c == 47) || (c == 42))

-- the first byte is no white space and begins no comment, and no token begins with it
abbrev pub BeginsNothing : List ℕ → Type 0
BeginsNothing [] = ⊥
BeginsNothing (b ∷ rest) =
    (is_space b ≡ false) × (begins_comment (b ∷ rest) ≡ false)
    × ((kind : TokenKind) (bytes : List ℕ) → IsLexeme kind (b ∷ bytes) → ⊥)

-- The text begins with a closed string whose bytes aren't UTF-8. The first invalid sequence begins after this number
-- of bytes of the text.
abbrev pub BeginsBadString : List ℕ → ℕ → Type 0
BeginsBadString text n =
    (inner : List ℕ) × (rest : List ℕ) × (good : ℕ) × (text ≡ quoted inner ++ rest) × IsTrue (is_quotable inner)
    × IsValidUpTo inner good × (n ≡ good + 1)

-- the text begins with a comment that is never closed
abbrev pub BeginsOpenComment : List ℕ → Type 0
BeginsOpenComment text = (inner : List ℕ) × (text ≡ codes "/*" ++ inner) × (has_close inner ≡ false)

-- the text begins with a string that its line doesn't close
abbrev pub BeginsOpenString : List ℕ → Type 0
BeginsOpenString text =
    (inner : List ℕ) × (rest : List ℕ) × (text ≡ 34 ∷ (inner ++ rest)) × IsTrue (is_quotable inner)
    × IsTrue (ends_line rest)

-- the text begins with a whole word of more than 128 bytes
abbrev pub BeginsLongName : List ℕ → Type 0
BeginsLongName [] = ⊥
BeginsLongName (b ∷ text) =
    IsTrue (is_letter b) × ((bytes : List ℕ) × (rest : List ℕ) × (text ≡ bytes ++ rest) × IsTrue (all_word bytes)
    × (128 ≤ length bytes) × (begins_in_word rest ≡ false))

-- the fault is at the first byte
abbrev pub AtOnce : (List ℕ → Type 0) → List ℕ → ℕ → Type 0
AtOnce Wrong text n = Wrong text × (n ≡ 0)

-- after this number of bytes a byte follows that no text may have there
abbrev pub BeginsBad : List ℕ → ℕ → Type 0
BeginsBad text n = AtOnce BeginsNothing text n ⊎ BeginsBadString text n

-- the text is pieces and a rest with the fault, and the place is that of the rest's first wrong byte
abbrev pub FailsWith : (List ℕ → ℕ → Type 0) → List ℕ → Spot → Type 0
FailsWith Wrong text at =
    (ps : List Piece) × (rest : List ℕ) × (n : ℕ) × Pieces text ps rest × Wrong rest n
    × (at ≡ spot_after (bytes_of ps ++ take n rest))

-- The fault of the text, and its place. Memory may be refused for any text that is not too long.
abbrev pub LexFailsAt : List ℕ → LexFault → Type 0
LexFailsAt text fault.TextTooLong = max_text_bytes < length text
LexFailsAt text (fault.BadByte at) = (length text ≤ max_text_bytes) × FailsWith BeginsBad text at
LexFailsAt text (fault.OpenComment at) = (length text ≤ max_text_bytes) × FailsWith (AtOnce BeginsOpenComment) text at
LexFailsAt text (fault.OpenString at) = (length text ≤ max_text_bytes) × FailsWith (AtOnce BeginsOpenString) text at
LexFailsAt text (fault.LongName at) = (length text ≤ max_text_bytes) × FailsWith (AtOnce BeginsLongName) text at
LexFailsAt text fault.OutOfMemory = length text ≤ max_text_bytes

-- the result is these tokens, unless memory was refused
abbrev pub LexGives : Result (Vec Token Global) LexFault → List Lexeme → Type 0
LexGives (Ok v) ts = lexemes_of v.items ≡ ts
LexGives (Err fault.OutOfMemory) ts = Unit {0}
LexGives (Err _) ts = ⊥

-- the result is this fault, unless memory was refused
abbrev pub LexFails : Result (Vec Token Global) LexFault → LexFault → Type 0
LexFails (Ok v) e = ⊥
LexFails (Err fault.OutOfMemory) e = Unit {0}
LexFails (Err f) e = e ≡ f
