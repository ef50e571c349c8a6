-- The words of Scribble whose forms this grammar leaves out (Scribble Language Reference 0.3; which of them are
-- reported by name is this project's own).
use Rattle.std.specs.Prelude.{ℕ, List, [], ◌∷◌, Option, Some, None, if◌then◌else◌, codes}
use Rattle.std.specs.Str.{bytes_eq}
use Rattle.scrib_lexer.specs.declared.token.Keyword.TheVariants as words
use Rattle.scrib_lexer.specs.declared.token.TokenKind.{TokenKind}
use Rattle.scrib_lexer.specs.declared.token.TokenKind.TheVariants as kind
use Rattle.scrib_lexer.specs.Lexeme.{Lexeme}
use Rattle.scrib_parser.specs.declared.fault.LeftOutWord.{LeftOutWord}
use Rattle.scrib_parser.specs.declared.fault.LeftOutWord.TheVariants.{Local, Sig, Aux, Explicit, From, Par, Interruptible, Connect, Disconnect}

-- the text of a word
abbrev pub spelling : LeftOutWord → List ℕ
spelling Local = codes "local"
spelling Sig = codes "sig"
spelling Aux = codes "aux"
spelling Explicit = codes "explicit"
spelling From = codes "from"
spelling Par = codes "par"
spelling Interruptible = codes "interruptible"
spelling Connect = codes "connect"
spelling Disconnect = codes "disconnect"

-- the word among some that the bytes are
abbrev pub word_among : List LeftOutWord → List ℕ → Option LeftOutWord
word_among [] bytes = None
word_among (w ∷ ws) bytes = if bytes_eq bytes (spelling w) then Some w else word_among ws bytes

-- the word of a left-out declaration that a name is
abbrev pub declaration_word : List ℕ → Option LeftOutWord
declaration_word bytes = word_among (Local ∷ Sig ∷ Aux ∷ Explicit ∷ []) bytes

-- the word of a left-out statement that a name is
abbrev pub statement_word : List ℕ → Option LeftOutWord
statement_word bytes = word_among (Par ∷ Interruptible ∷ Connect ∷ Disconnect ∷ []) bytes

-- the left-out word of a token at the start of a declaration
abbrev pub declaration_word_of : TokenKind → List ℕ → Option LeftOutWord
declaration_word_of kind.Name bytes = declaration_word bytes
declaration_word_of (kind.Keyword words.From) bytes = Some From
declaration_word_of _ bytes = None

-- the left-out word of a token at the start of a statement
abbrev pub statement_word_of : TokenKind → List ℕ → Option LeftOutWord
statement_word_of kind.Name bytes = statement_word bytes
statement_word_of _ bytes = None

-- the word of a left-out declaration that a token is: a name, or the keyword `from`
abbrev pub left_out_declaration : Lexeme → Option LeftOutWord
left_out_declaration t = declaration_word_of t.kind t.bytes

-- the word of a left-out statement that a token is
abbrev pub left_out_statement : Lexeme → Option LeftOutWord
left_out_statement t = statement_word_of t.kind t.bytes
