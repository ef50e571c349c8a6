-- Reading tokens from left to right, one token ahead, with the first fault that is met (this project's own;
-- contracts of private functions alone cite this file).
use Rattle.std.specs.Prelude.{◌≡◌, ℕ, zero, suc, Bool, true, false, ◌||◌, ◌&&◌, if◌then◌else◌, List, [], ◌∷◌, length, Option, Some, None, Result, Ok, Err}
use Rattle.scrib_types.specs.Names.{is_name}
use Rattle.scrib_types.specs.declared.message.Message.{Message}
use Rattle.scrib_types.specs.declared.spot.Spot.{Spot}
use Rattle.scrib_lexer.specs.declared.token.Keyword as keyword
use Rattle.scrib_lexer.specs.declared.token.Keyword.TheVariants as words
use Rattle.scrib_lexer.specs.declared.token.TokenKind.{TokenKind}
use Rattle.scrib_lexer.specs.declared.token.TokenKind.TheVariants.{Name, Keyword, StringLiteral, Semicolon, Comma, Dot, Colon, OpenParen, CloseParen, OpenBrace, CloseBrace, OpenAngle, CloseAngle}
use Rattle.scrib_lexer.specs.Lexeme.{Lexeme, lexemes_of}
use Rattle.scrib_parser.specs.declared.cursor.Cursor.{Cursor}
use Rattle.scrib_parser.specs.declared.fault.LeftOutWord.{LeftOutWord}
use Rattle.scrib_parser.specs.declared.fault.ParseFault.{ParseFault}
use Rattle.scrib_parser.specs.declared.fault.ParseFault.TheVariants.{Unexpected, EndOfText, LeftOut, TooDeep, OutOfMemory}
use Rattle.scrib_tree.specs.declared.tree.ModuleTree.{ModuleTree}
use Rattle.scrib_tree.specs.declared.tree.Import.{Import}
use Rattle.scrib_tree.specs.declared.tree.ProtocolDeclaration.{ProtocolDeclaration}
use Rattle.scrib_tree.specs.declared.tree.RoleDeclaration.{RoleDeclaration}
use Rattle.scrib_tree.specs.declared.tree.Block.{Block}
use Rattle.scrib_tree.specs.declared.tree.Statement.{Statement}
use Rattle.scrib_tree.specs.declared.tree.Statement as tree
use Rattle.scrib_parser.specs.LeftOut.{statement_word, left_out_declaration}
use Rattle.scrib_parser.specs.Grammar.{kept}

-- what is left to read
abbrev pub left : Cursor → List Lexeme
left tokens = lexemes_of tokens.rest.now

-- a value and the tokens after it, or a fault
abbrev pub ReadResult : Type 0 → Type 0
ReadResult A = Result (A × List Lexeme) ParseFault

-- reads a value from the front of the tokens
abbrev pub Reader : Type 0 → Type 0
Reader A = List Lexeme → ReadResult A

-- the second step, on the value of the first, or the fault of the first
infixl 10 ◌>>=◌
abbrev pub ◌>>=◌ : {A B : Type 0} → Result A ParseFault → (A → Result B ParseFault) → Result B ParseFault
(Ok x) >>= f = f x
(Err e) >>= f = Err e

-- reading stops with this fault, unless memory was refused
abbrev pub Stops : {A : Type 0} → ParseFault → Result A ParseFault → Type 0
Stops OutOfMemory read = Unit {0}
Stops fault read = read ≡ Err fault

-- a function's result, with the tokens that it left, is the result of reading, unless memory was refused
abbrev pub Gives : {A : Type 0} → Result A ParseFault → List Lexeme → ReadResult A → Type 0
Gives (Ok x) rest read = read ≡ Ok (x, rest)
Gives (Err e) rest read = Stops e read

-- whether two words are the same
abbrev pub same_word : keyword.Keyword → keyword.Keyword → Bool
same_word words.Module words.Module = true
same_word words.Import words.Import = true
same_word words.As words.As = true
same_word words.Type words.Type = true
same_word words.From words.From = true
same_word words.To words.To = true
same_word words.Global words.Global = true
same_word words.Protocol words.Protocol = true
same_word words.Role words.Role = true
same_word words.Choice words.Choice = true
same_word words.At words.At = true
same_word words.Or words.Or = true
same_word words.Rec words.Rec = true
same_word words.Continue words.Continue = true
same_word words.Do words.Do = true
same_word _ _ = false

-- whether two kinds are the same
abbrev pub same_kind : TokenKind → TokenKind → Bool
same_kind Name Name = true
same_kind (Keyword a) (Keyword b) = same_word a b
same_kind StringLiteral StringLiteral = true
same_kind Semicolon Semicolon = true
same_kind Comma Comma = true
same_kind Dot Dot = true
same_kind Colon Colon = true
same_kind OpenParen OpenParen = true
same_kind CloseParen CloseParen = true
same_kind OpenBrace OpenBrace = true
same_kind CloseBrace CloseBrace = true
same_kind OpenAngle OpenAngle = true
same_kind CloseAngle CloseAngle = true
same_kind _ _ = false

-- whether the next token is of such a kind
abbrev pub begins : (TokenKind → Bool) → List Lexeme → Bool
begins test [] = false
begins test (t ∷ ts) = test t.kind

-- the next token's value, or the fault at that token
abbrev pub given : {A : Type 0} → Option A → Lexeme → List Lexeme → ReadResult A
given (Some x) t ts = Ok (x, ts)
given None t ts = Err (Unexpected t.spot)

-- reads one token, whose value the test finds
abbrev pub lexeme_at : {A : Type 0} → (Lexeme → Option A) → Reader A
lexeme_at test [] = Err EndOfText
lexeme_at test (t ∷ ts) = given (test t) t ts

-- the second after the first, on whose value the second depends
abbrev pub chain : {A B : Type 0} → Reader A → (A → Reader B) → Reader B
chain first second ts = first ts >>= λ x. second x.0 x.1

-- reads a value and maps it by the function
abbrev pub mapped : {A B : Type 0} → (A → B) → Reader A → Reader B
mapped f reader ts = reader ts >>= λ x. Ok (f x.0, x.1)

-- read_both values · the second's value · the first's value
abbrev pub read_both : {A B : Type 0} → Reader A → Reader B → Reader (A × B)
read_both first second = chain first (λ x. mapped (λ y. (x, y)) second)

-- reads read_both, and returns the second's value
abbrev pub after : {A B : Type 0} → Reader A → Reader B → Reader B
after first second = chain first (λ x. second)

-- reads read_both, and returns the first's value
abbrev pub read_before : {A B : Type 0} → Reader A → Reader B → Reader A
read_before first second = chain first (λ x. mapped (λ y. x) second)

-- one or the other, by the next token's kind
abbrev pub branch : {A : Type 0} → (TokenKind → Bool) → Reader A → Reader A → Reader A
branch test here elsewhere ts = if begins test ts then here ts else elsewhere ts

-- no token
abbrev pub none : {A : Type 0} → A → Reader A
none x ts = Ok (x, ts)

-- repeats while the next token's kind passes the test, at most this number of times
unfoldable pub repeat : {A : Type 0} → (TokenKind → Bool) → Reader A → ℕ → Reader (List A)
repeat test item zero ts = Ok ([], ts)
repeat test item (suc n) ts =
    if begins test ts then (item ts >>= λ x. repeat test item n x.1 >>= λ xs. Ok (x.0 ∷ xs.0, xs.1)) else Ok ([], ts)

-- repeats while the next token's kind passes the test
unfoldable pub repeated : {A : Type 0} → (TokenKind → Bool) → Reader A → Reader (List A)
repeated test item ts = repeat test item (length ts) ts

-- reads a token of the kind, and returns its place
unfoldable pub token_of : TokenKind → Reader Spot
token_of kind = lexeme_at (λ t. if same_kind kind t.kind then Some t.spot else None)

-- a name, and its token's place
unfoldable pub placed_name_of : Reader (List ℕ × Spot)
placed_name_of = lexeme_at (λ t. if same_kind Name t.kind && is_name t.bytes then Some (t.bytes, t.spot) else None)

-- reads a name
unfoldable pub read_name : Reader (List ℕ)
read_name = mapped (λ p. p.0) placed_name_of

-- the names after dots
abbrev pub dots_of : Reader (List (List ℕ))
dots_of = repeated (same_kind Dot) (after (token_of Dot) read_name)

-- reads the names after dots, following this first name
unfoldable pub dotted_from : List ℕ → Reader (List (List ℕ))
dotted_from first = mapped (λ names. first ∷ names) dots_of

-- reads a dotted name
unfoldable pub dotted_of : Reader (List (List ℕ))
dotted_of = chain read_name dotted_from

-- reads an element of a payload
unfoldable pub element_of : Reader (List (List ℕ))
element_of = chain read_name (λ first. branch (same_kind Colon) (after (token_of Colon) dotted_of) (dotted_from first))

-- the elements after commas
abbrev pub more_elements_of : Reader (List (List (List ℕ)))
more_elements_of = repeated (same_kind Comma) (after (token_of Comma) element_of)

-- reads the elements of a payload that has some
unfoldable pub elements_of : Reader (List (List (List ℕ)))
elements_of = chain element_of (λ first. mapped (λ more. first ∷ more) more_elements_of)

-- reads a payload
unfoldable pub payload_of : Reader (List (List (List ℕ)))
payload_of = branch (same_kind Name) elements_of (none [])

-- the fault at the token after a name that begins a statement
abbrev pub refusal_behind : Option LeftOutWord → Spot → Lexeme → ParseFault
refusal_behind None spot t = Unexpected t.spot
refusal_behind (Some word) spot t = LeftOut word spot

-- a parenthesis after the name of a message
unfoldable pub paren_behind : List ℕ × Spot → Reader Spot
paren_behind op [] = Err EndOfText
paren_behind op (t ∷ ts) =
    if same_kind OpenParen t.kind then Ok (t.spot, ts) else Err (refusal_behind (statement_word op.0) op.1 t)

-- reads the name and the parenthesis that begin a message, with the place of the name
unfoldable pub named_opening_of : Reader (Option (List ℕ) × Spot)
named_opening_of = chain placed_name_of (λ op. mapped (λ paren. (Some op.0, op.1)) (paren_behind op))

-- reads the opening of a message, with the place of its first token
unfoldable pub opening_of : Reader (Option (List ℕ) × Spot)
opening_of = branch (same_kind Name) named_opening_of (mapped (λ spot. (None, spot)) (token_of OpenParen))

-- the names after commas
abbrev pub more_names_of : Reader (List (List ℕ))
more_names_of = repeated (same_kind Comma) (after (token_of Comma) read_name)

-- reads names with commas between them
unfoldable pub read_names : Reader (List (List ℕ))
read_names = chain read_name (λ first. mapped (λ more. first ∷ more) more_names_of)

-- the message of an operator and the types of a payload
abbrev pub message_from : Option (List ℕ) → List (List (List ℕ)) → Message
message_from op sorts = record { op = op; payload = sorts }

-- reads a message
unfoldable pub read_message : Reader Statement
read_message =
    mapped (λ x. tree.Message (record { op = x.0.0; payload = x.1.0 }) x.1.1.0 x.1.1.1 x.0.1)
    (read_both opening_of (read_both payload_of (after (token_of CloseParen) (after (token_of (Keyword words.From))
    (read_both read_name (after (token_of (Keyword words.To)) (read_before read_names (token_of Semicolon))))))))

-- blocks with the word `or` between two
abbrev pub more_blocks_of : Reader Block → Reader (List Block)
more_blocks_of block = repeated (same_kind (Keyword words.Or)) (after (token_of (Keyword words.Or)) block)

-- reads the blocks of a choice
unfoldable pub read_blocks : Reader Block → Reader (List Block)
read_blocks block = chain block (λ first. mapped (λ more. first ∷ more) (more_blocks_of block))

-- reads a choice
unfoldable pub read_choice : Reader Block → Reader Statement
read_choice block =
    mapped (λ x. tree.Choice x.1.0 x.1.1 x.0)
    (read_both (token_of (Keyword words.Choice)) (after (token_of (Keyword words.At)) (read_both read_name (read_blocks block))))

-- reads a recursion
unfoldable pub recursion_of : Reader Block → Reader Statement
recursion_of block =
    mapped (λ x. tree.Rec x.1.0 x.1.1.body x.0) (read_both (token_of (Keyword words.Rec)) (read_both read_name block))

-- reads a `continue`
unfoldable pub jump_of : Reader Statement
jump_of =
    mapped (λ x. tree.Continue x.1 x.0) (read_both (token_of (Keyword words.Continue)) (read_before read_name (token_of Semicolon)))

-- reads a `do`
unfoldable pub call_of : Reader Statement
call_of =
    mapped (λ x. tree.Do x.1.0 x.1.1 x.0)
    (read_both (token_of (Keyword words.Do))
    (read_both dotted_of (after (token_of OpenParen) (read_before read_names (after (token_of CloseParen) (token_of Semicolon))))))

-- a message begins with its operator, or with its parenthesis
abbrev pub begins_message : TokenKind → Bool
begins_message kind = same_kind Name kind || same_kind OpenParen kind

-- reads a statement
unfoldable pub statement_of : Reader Block → Reader Statement
statement_of block =
    branch (same_kind (Keyword words.Choice)) (read_choice block)
    (branch (same_kind (Keyword words.Rec)) (recursion_of block)
    (branch (same_kind (Keyword words.Continue)) jump_of
    (branch (same_kind (Keyword words.Do)) call_of read_message)))

-- a token of the kind begins a statement
abbrev pub begins_statement : TokenKind → Bool
begins_statement Name = true
begins_statement OpenParen = true
begins_statement (Keyword words.Choice) = true
begins_statement (Keyword words.Rec) = true
begins_statement (Keyword words.Continue) = true
begins_statement (Keyword words.Do) = true
begins_statement _ = false

-- reads the statements of a block
unfoldable pub statements_of : Reader Block → Reader (List Statement)
statements_of block = repeated begins_statement (statement_of block)

-- the fault where no more level may be opened
abbrev pub deep_fault : List Lexeme → ParseFault
deep_fault [] = EndOfText
deep_fault (t ∷ ts) = if same_kind OpenBrace t.kind then TooDeep t.spot else Unexpected t.spot

-- reads a block, with this reader of inner blocks
unfoldable pub opened_block_of : Reader Block → Reader Block
opened_block_of inner =
    mapped (λ x. record { body = x.1; spot = x.0 })
    (read_both (token_of OpenBrace) (read_before (statements_of inner) (token_of CloseBrace)))

-- a block of at most this number of levels
unfoldable pub block_of : ℕ → Reader Block
block_of zero ts = Err (deep_fault ts)
block_of (suc levels) ts = opened_block_of (block_of levels) ts

-- reads the declaration of a role
unfoldable pub role_of : Reader RoleDeclaration
role_of = mapped (λ x. record { name = x.1; spot = x.0 }) (read_both (token_of (Keyword words.Role)) read_name)

-- reads the declarations of roles after commas
abbrev pub more_roles_of : Reader (List RoleDeclaration)
more_roles_of = repeated (same_kind Comma) (after (token_of Comma) role_of)

-- reads the declarations of roles with commas between them
unfoldable pub read_roles : Reader (List RoleDeclaration)
read_roles = chain role_of (λ first. mapped (λ more. first ∷ more) more_roles_of)

-- reads the declaration of a protocol
unfoldable pub protocol_of : ℕ → Reader ProtocolDeclaration
protocol_of levels =
    mapped (λ x. record { name = x.1.0; roles = x.1.1.0; body = x.1.1.1.body; spot = x.0 })
    (read_both (token_of (Keyword words.Global))
    (after (token_of (Keyword words.Protocol)) (read_both read_name (after (token_of OpenParen)
    (read_both read_roles (after (token_of CloseParen) (block_of levels)))))))

-- the end of a type declaration, after its second text
abbrev pub type_name_of : Reader Spot
type_name_of = after (token_of (Keyword words.As)) (after read_name (token_of Semicolon))

-- the end of a type declaration, after its brackets
abbrev pub type_source_of : Reader Spot
type_source_of =
    after (token_of StringLiteral) (after (token_of (Keyword words.From)) (after (token_of StringLiteral) type_name_of))

-- reads the declaration of a type
unfoldable pub type_declaration_of : Reader Spot
type_declaration_of =
    after (token_of (Keyword words.«Type»))
    (after (token_of OpenAngle) (after read_name (after (token_of CloseAngle) type_source_of)))

-- reads a declaration
unfoldable pub read_declaration : ℕ → Reader (Option ProtocolDeclaration)
read_declaration levels =
    branch (same_kind (Keyword words.«Type»)) (mapped (λ spot. None) type_declaration_of)
    (mapped Some (protocol_of levels))

-- a token of the kind begins a declaration
abbrev pub begins_declaration : TokenKind → Bool
begins_declaration (Keyword words.«Type») = true
begins_declaration (Keyword words.Global) = true
begins_declaration _ = false

-- reads declarations, and keeps the protocols
unfoldable pub declarations_of : ℕ → Reader (List ProtocolDeclaration)
declarations_of levels = mapped kept (repeated begins_declaration (read_declaration levels))

-- reads the name that an import has after `as`, if any
unfoldable pub known_as_of : Reader (Option (List ℕ))
known_as_of =
    branch (same_kind (Keyword words.As)) (mapped Some (after (token_of (Keyword words.As)) read_name)) (none None)

-- reads an import
unfoldable pub import_of : Reader Import
import_of =
    mapped (λ x. record { «module» = x.1.0; known_as = x.1.1; spot = x.0 })
    (read_both (token_of (Keyword words.Import)) (read_both dotted_of (read_before known_as_of (token_of Semicolon))))

-- reads imports
unfoldable pub imports_of : Reader (List Import)
imports_of = repeated (same_kind (Keyword words.Import)) import_of

-- reads a module
unfoldable pub module_of : ℕ → Reader ModuleTree
module_of levels =
    mapped (λ x. record { name = x.0; imports = x.1.0; protocols = x.1.1 })
    (after (token_of (Keyword words.Module))
    (read_both dotted_of (after (token_of Semicolon) (read_both imports_of (declarations_of levels)))))

-- the fault at a token after the declarations
abbrev pub refusal : Option LeftOutWord → Lexeme → ParseFault
refusal None t = Unexpected t.spot
refusal (Some word) t = LeftOut word t.spot

-- the module, where no tokens are left
abbrev pub at_end : ModuleTree × List Lexeme → Result ModuleTree ParseFault
at_end (m, []) = Ok m
at_end (m, t ∷ ts) = Err (refusal (left_out_declaration t) t)

-- reads a module that all of the tokens spell
unfoldable pub whole_of : ℕ → List Lexeme → Result ModuleTree ParseFault
whole_of levels ts = module_of levels ts >>= at_end

-- a function's result is the result of reading all tokens, unless memory was refused
abbrev pub GivesAll : {A : Type 0} → Result A ParseFault → Result A ParseFault → Type 0
GivesAll (Ok x) read = read ≡ Ok x
GivesAll (Err e) read = Stops e read
