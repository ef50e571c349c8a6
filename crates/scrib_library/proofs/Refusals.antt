-- The reasons why a put is refused.
use Rattle.std.proofs.Common.{◌≡◌, ℕ, List, Err, sym, subst}
use Rattle.scrib_types.specs.declared.profile.Profile.{Profile}
use Rattle.scrib_lexer.specs.declared.fault.LexFault.{LexFault}
use Rattle.scrib_lexer.specs.declared.fault.LexFault.TheVariants as lex
use Rattle.scrib_lexer.specs.Lexeme.{Lexeme}
use Rattle.scrib_lexer.specs.Tokens as tokens
use Rattle.scrib_lexer.specs.Tokens.{IsTokens, LexGives}
use Rattle.scrib_parser.specs.declared.fault.ParseFault.{ParseFault}
use Rattle.scrib_parser.specs.declared.fault.ParseFault.TheVariants as parse
use Rattle.scrib_tree.specs.declared.tree.ModuleTree.{ModuleTree}
use Rattle.scrib_parser.specs.Grammar.{IsModule, IsParseFault, ParseGives}
use Rattle.scrib_static_checks.specs.Names.{with_module}
use Rattle.scrib_library.specs.declared.fault.EditFault.{EditFault}
use Rattle.scrib_library.specs.declared.fault.EditFault.TheVariants as edit
use Rattle.scrib_library.specs.FaultConversions.{edit_fault_of_lex, edit_fault_of_parse}
use Rattle.scrib_library.specs.Edits.{Reads, IsUnread, ModuleFails, PutFails}

-- the reason why the text has no token sequence is one why it is refused
pub lex_refused : (text : List ℕ) (f : LexFault) → ((ts : List Lexeme) → IsTokens text ts → LexGives (Err f) ts) → tokens.LexFailsAt text f
    → (profile : Profile) → (before : List ModuleTree) → (used : ℕ) → PutFails profile before used text (edit_fault_of_lex f)
lex_refused text lex.OutOfMemory only h profile before used = h
lex_refused text lex.TextTooLong only h profile before used = (λ m r. only r.0 r.1, h)
lex_refused text (lex.BadByte at) only h profile before used = (λ m r. only r.0 r.1, h)
lex_refused text (lex.OpenComment at) only h profile before used = (λ m r. only r.0 r.1, h)
lex_refused text (lex.OpenString at) only h profile before used = (λ m r. only r.0 r.1, h)
lex_refused text (lex.LongName at) only h profile before used = (λ m r. only r.0 r.1, h)

-- and so is the reason why its only token sequence forms no module
module _ (text : List ℕ) (ts : List Lexeme) (t : IsTokens text ts) (one : (us : List Lexeme) → IsTokens text us → ts ≡ us) where
  unread : ((m : ModuleTree) → IsModule ts m → ⊥) → IsUnread text
  unread none m r = none m (subst (λ (l : List Lexeme). IsModule l m) (sym (one r.0 r.1)) r.2)

  pub parse_refused : (f : ParseFault) → ((m : ModuleTree) → IsModule ts m → ParseGives (Err f) m) → IsParseFault ts f
      → (profile : Profile) → (before : List ModuleTree) → (used : ℕ) → PutFails profile before used text (edit_fault_of_parse f)
  parse_refused parse.OutOfMemory only h profile before used = t.0
  parse_refused parse.EndOfText only h profile before used = (unread only, (ts, t, h))
  parse_refused (parse.Unexpected at) only h profile before used = (unread only, (ts, t, h))
  parse_refused (parse.LeftOut word at) only h profile before used = (unread only, (ts, t, h))
  parse_refused (parse.TooDeep at) only h profile before used = (unread only, (ts, t, h))

-- the reason why the module fails is one why the put does
pub put_refused : (profile : Profile) (before : List ModuleTree) (used : ℕ) (text : List ℕ) (m : ModuleTree) (after : List ModuleTree) (f : EditFault) → Reads text m → after ≡ with_module m before → ModuleFails profile before used m after f → PutFails profile before used text f
put_refused profile before used text m after f read same h = told f (subst (λ l. ModuleFails profile before used m l f) same h)
  where
    told : (g : EditFault) → ModuleFails profile before used m (with_module m before) g → PutFails profile before used text g
    told edit.TooManyModules k = (m, read, k)
    told (edit.ImportMissing name) k = (m, read, k)
    told edit.TooManyProtocols k = (m, read, k)
    told (edit.Elaborate g) k = (m, read, k)
    told (edit.Project u) k = (m, read, k)
    told edit.VersionsFull k = (m, read, k)
    told edit.OutOfMemory k = read.1.0
    told edit.UnknownModule k = absurd k
    told (edit.StillImported name) k = absurd k
    told (edit.Lex g) k = absurd k
    told (edit.Parse g) k = absurd k
    told (edit.NeedsReception name) k = absurd k
