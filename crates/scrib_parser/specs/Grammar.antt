-- The grammar of module texts, over their tokens (the forms of the Scribble Language Reference 0.3 that this
-- project takes). A nonterminal at a value is the set of the token lists that spell the value. In terms of EBNF,
-- p · q is p followed by q, maybe p is [ p ], and many p is { p }.
use Rattle.std.specs.Prelude.{◌≡◌, ℕ, zero, suc, ◌⊎◌, IsTrue, List, [], ◌∷◌, ◌++◌, Option, Some, None, Result, Ok, Err}
use Rattle.scrib_types.specs.Names.{is_name}
use Rattle.scrib_types.specs.declared.message.Message.{Message}
use Rattle.scrib_types.specs.declared.spot.Spot.{Spot}
use Rattle.scrib_lexer.specs.declared.token.Keyword.TheVariants as words
use Rattle.scrib_lexer.specs.declared.token.TokenKind.{TokenKind}
use Rattle.scrib_lexer.specs.declared.token.TokenKind.TheVariants.{Name, Keyword, StringLiteral, Semicolon, Comma, Dot, Colon, OpenParen, CloseParen, OpenBrace, CloseBrace, OpenAngle, CloseAngle}
use Rattle.scrib_lexer.specs.Lexeme.{Lexeme}
use Rattle.scrib_parser.specs.declared.fault.LeftOutWord.{LeftOutWord}
use Rattle.scrib_parser.specs.declared.fault.ParseFault.{ParseFault}
use Rattle.scrib_parser.specs.declared.fault.ParseFault.TheVariants.{Unexpected, EndOfText, LeftOut, TooDeep, OutOfMemory}
use Rattle.scrib_tree.specs.declared.tree.ModuleTree.{ModuleTree}
use Rattle.scrib_tree.specs.declared.tree.Import.{Import}
use Rattle.scrib_tree.specs.declared.tree.ProtocolDeclaration.{ProtocolDeclaration}
use Rattle.scrib_tree.specs.declared.tree.RoleDeclaration.{RoleDeclaration}
use Rattle.scrib_tree.specs.declared.tree.Block.{Block}
use Rattle.scrib_tree.specs.declared.tree.Statement.{Statement}
use Rattle.scrib_tree.specs.declared.tree.Statement as tree
use Rattle.scrib_parser.specs.LeftOut.{left_out_declaration, left_out_statement}

-- a set of token lists
abbrev pub Language : Type 1
Language = List Lexeme → Type 0

-- a list of the first, and then one of the second
infixr 10 ◌·◌
abbrev pub ◌·◌ : Language → Language → Language
(p · q) ts = (front rest : List Lexeme) × (ts ≡ front ++ rest) × p front × q rest

-- no token
abbrev pub nothing : Language
nothing ts = ts ≡ []

-- what spells some value
abbrev pub any : {A : Type 0} → (A → Language) → Language
any {A} item ts = (x : A) × item x ts

-- such a list, or no token
abbrev pub maybe : Language → Language
maybe p ts = p ts ⊎ nothing ts

-- each value of the list, one after the other
abbrev pub many : {A : Type 0} → (A → Language) → List A → Language
many item [] = nothing
many item (x ∷ xs) = item x · many item xs

-- each value of the list, of which there is one at least, with the mark between two
abbrev pub joined : {A : Type 0} → (A → Language) → Language → List A → Language
joined item mark [] ts = ⊥
joined item mark (x ∷ xs) ts = (item x · many (λ y. mark · item y) xs) ts

-- the same, or no value and no token
abbrev pub listed : {A : Type 0} → (A → Language) → Language → List A → Language
listed item mark [] = nothing
listed item mark (x ∷ xs) = joined item mark (x ∷ xs)

-- one token of which this holds
abbrev pub lexeme : (Lexeme → Type 0) → Language
lexeme P ts = (t : Lexeme) × (ts ≡ t ∷ []) × P t

-- a token of this kind at this place
abbrev pub spotted_token : TokenKind → Spot → Language
spotted_token kind spot = lexeme (λ t. (t.kind ≡ kind) × (t.spot ≡ spot))

-- a token of this kind
abbrev pub token : TokenKind → Language
token kind = any (spotted_token kind)

-- a token at this place that is this name: its kind is a name's, and its bytes are a name
abbrev pub name_at : List ℕ → Spot → Language
name_at bytes spot = lexeme (λ t. (t.kind ≡ Name) × (t.bytes ≡ bytes) × IsTrue (is_name bytes) × (t.spot ≡ spot))

-- a token that is this name
abbrev pub name : List ℕ → Language
name bytes = any (name_at bytes)

-- dotted = name { "." name }
abbrev pub dotted : List (List ℕ) → Language
dotted names = joined name (token Dot) names

-- element = [ name ":" ] dotted
abbrev pub element : List (List ℕ) → Language
element sort = maybe (any name · token Colon) · dotted sort

-- opening = [ name ] "(", whose first token is at this place
abbrev pub opening : Option (List ℕ) → Spot → Language
opening (Some op) spot = name_at op spot · token OpenParen
opening None spot = spotted_token OpenParen spot

-- message = opening [ element { "," element } ] ")" "from" name "to" name { "," name } ";"
abbrev pub message : Statement → Language
message s ts =
    (m : Message) × (from : List ℕ) × (to : List (List ℕ)) × (spot : Spot) × (s ≡ tree.Message m from to spot)
    × (opening m.op spot · listed element (token Comma) m.payload · token CloseParen · token (Keyword words.From)
    · name from · token (Keyword words.To) · joined name (token Comma) to · token Semicolon) ts

-- choice = "choice" "at" name block { "or" block }, where its word is at the choice's place
abbrev pub choice : (Block → Language) → Statement → Language
choice block s ts =
    (at : List ℕ) × (branches : List Block) × (spot : Spot) × (s ≡ tree.Choice at branches spot)
    × (spotted_token (Keyword words.Choice) spot · token (Keyword words.At) · name at
    · joined block (token (Keyword words.Or)) branches) ts

-- rec = "rec" name block
abbrev pub recursion : (Block → Language) → Statement → Language
recursion block s ts =
    (label : List ℕ) × (body : Block) × (spot : Spot) × (s ≡ tree.Rec label body.body spot)
    × (spotted_token (Keyword words.Rec) spot · name label · block body) ts

-- continue = "continue" name ";"
abbrev pub jump : Statement → Language
jump s ts =
    (label : List ℕ) × (spot : Spot) × (s ≡ tree.Continue label spot)
    × (spotted_token (Keyword words.Continue) spot · name label · token Semicolon) ts

-- do = "do" dotted "(" name { "," name } ")" ";"
abbrev pub call : Statement → Language
call s ts =
    (protocol : List (List ℕ)) × (roles : List (List ℕ)) × (spot : Spot) × (s ≡ tree.Do protocol roles spot)
    × (spotted_token (Keyword words.Do) spot · dotted protocol · token OpenParen · joined name (token Comma) roles
    · token CloseParen · token Semicolon) ts

-- statement = message | choice | rec | continue | do
abbrev pub statement : (Block → Language) → Statement → Language
statement block s ts = message s ts ⊎ (choice block s ts ⊎ (recursion block s ts ⊎ (jump s ts ⊎ call s ts)))

-- block = "{" { statement } "}", where its brace is at the block's place. It has at most this number of levels of
-- blocks, its own the first.
unfoldable pub block : ℕ → Block → Language
block zero b ts = ⊥
block (suc levels) b ts = (spotted_token OpenBrace b.spot · many (statement (block levels)) b.body · token CloseBrace) ts

-- role = "role" name, where its word is at the role's place
abbrev pub role : RoleDeclaration → Language
role r = spotted_token (Keyword words.Role) r.spot · name r.name

-- protocol = "global" "protocol" name "(" role { "," role } ")" block, where its first word is at the protocol's
-- place
abbrev pub protocol : ℕ → ProtocolDeclaration → Language
protocol levels p ts =
    (spot : Spot) × (spotted_token (Keyword words.Global) p.spot · token (Keyword words.Protocol) · name p.name
    · token OpenParen · joined role (token Comma) p.roles · token CloseParen
    · block levels (record { body = p.body; spot = spot })) ts

-- typedecl = "type" "<" name ">" string "from" string "as" name ";"
abbrev pub type_declaration : Language
type_declaration =
    token (Keyword words.«Type») · token OpenAngle · any name · token CloseAngle · token StringLiteral
    · token (Keyword words.From) · token StringLiteral · token (Keyword words.As) · any name · token Semicolon

-- decl = typedecl | protocol, where a type declaration leaves nothing in the tree
abbrev pub declaration : ℕ → Option ProtocolDeclaration → Language
declaration levels (Some p) = protocol levels p
declaration levels None = type_declaration

-- the protocols among declarations
abbrev pub kept : {A : Type 0} → List (Option A) → List A
kept [] = []
kept (None ∷ ds) = kept ds
kept (Some p ∷ ds) = p ∷ kept ds

-- [ "as" name ]
abbrev pub known_as : Option (List ℕ) → Language
known_as None = nothing
known_as (Some known) = token (Keyword words.As) · name known

-- import = "import" dotted [ "as" name ] ";", where its word is at the import's place
abbrev pub «import» : Import → Language
«import» i = spotted_token (Keyword words.Import) i.spot · dotted i.«module» · known_as i.known_as · token Semicolon

-- module = "module" dotted ";" { import } { decl }
abbrev pub module_text : ℕ → ModuleTree → Language
module_text levels m ts =
    (ds : List (Option ProtocolDeclaration)) × (m.protocols ≡ kept ds)
    × (token (Keyword words.Module) · dotted m.name · token Semicolon · many «import» m.imports
    · many (declaration levels) ds) ts

-- the most levels of nested blocks, a protocol's own the first
abbrev pub max_levels : ℕ
max_levels = 64

-- the tokens spell the module, which has no more levels of blocks than a module may
abbrev pub IsModule : List Lexeme → ModuleTree → Type 0
IsModule ts m = module_text max_levels m ts

-- the result is this module, unless memory was refused
abbrev pub ParseGives : Result ModuleTree ParseFault → ModuleTree → Type 0
ParseGives (Ok n) m = n ≡ m
ParseGives (Err OutOfMemory) m = Unit {0}
ParseGives (Err _) m = ⊥

-- the tokens are a beginning of a module's, of any number of levels of blocks
abbrev pub IsBeginning : List Lexeme → Type 0
IsBeginning ts = (levels : ℕ) × (more : List Lexeme) × (m : ModuleTree) × module_text levels m (ts ++ more)

-- the tokens before t begin a module, and with t they begin none
abbrev pub IsUnexpected : List Lexeme → Lexeme → Type 0
IsUnexpected front t = IsBeginning front × (IsBeginning (front ++ t ∷ []) → ⊥)

-- a token of the kind may follow these tokens
abbrev pub TokenMayFollow : TokenKind → List Lexeme → Type 0
TokenMayFollow kind front = (t : Lexeme) × (t.kind ≡ kind) × IsBeginning (front ++ t ∷ [])

-- The offending token is a left-out word at the start of a declaration, where `global` may be. Or it follows such a
-- word at the start of a statement, where `continue` may be.
abbrev pub IsLeftOut : List Lexeme → Lexeme → LeftOutWord → Spot → Type 0
IsLeftOut front t word spot =
    ((left_out_declaration t ≡ Some word) × (t.spot ≡ spot) × TokenMayFollow (Keyword words.Global) front)
    ⊎ ((before : List Lexeme) × (w : Lexeme) × (front ≡ before ++ w ∷ []) × (left_out_statement w ≡ Some word)
    × (w.spot ≡ spot) × TokenMayFollow (Keyword words.Continue) before)

-- the fault of the tokens
abbrev pub IsParseFault : List Lexeme → ParseFault → Type 0
-- the first token that no module can have, where no form of the language that is left out begins
IsParseFault ts (Unexpected spot) =
    (front : List Lexeme) × (t : Lexeme) × (rest : List Lexeme) × (ts ≡ front ++ t ∷ rest) × IsUnexpected front t
    × ((word : LeftOutWord) (at : Spot) → IsLeftOut front t word at → ⊥) × (t.spot ≡ spot)
-- the first token that no module can have, where a form of the language that is left out begins
IsParseFault ts (LeftOut word spot) =
    (front : List Lexeme) × (t : Lexeme) × (rest : List Lexeme) × (ts ≡ front ++ t ∷ rest) × IsUnexpected front t
    × IsLeftOut front t word spot
-- the tokens up to a brace begin a module, but none of the number of levels that a module may have
IsParseFault ts (TooDeep spot) =
    (front : List Lexeme) × (t : Lexeme) × (rest : List Lexeme) × (ts ≡ front ++ t ∷ rest) × (t.kind ≡ OpenBrace)
    × IsBeginning (front ++ t ∷ [])
    × ((more : List Lexeme) (m : ModuleTree) → IsModule (front ++ t ∷ more) m → ⊥) × (t.spot ≡ spot)
-- the tokens begin a module, and are none
IsParseFault ts EndOfText = IsBeginning ts × ((levels : ℕ) (m : ModuleTree) → module_text levels m ts → ⊥)
IsParseFault ts OutOfMemory = Unit {0}
