-- Why a text is no module, but for want of memory.
use Rattle.std.proofs.Common.{◌≡◌, ℕ, List, refl}
use Rattle.scrib_lexer.specs.declared.fault.LexFault.{LexFault}
use Rattle.scrib_lexer.specs.declared.fault.LexFault.TheVariants as lex
use Rattle.scrib_lexer.specs.Lexeme.{Lexeme}
use Rattle.scrib_lexer.specs.Tokens as tokens
use Rattle.scrib_lexer.specs.Tokens.{IsTokens}
use Rattle.scrib_parser.specs.declared.fault.ParseFault.{ParseFault}
use Rattle.scrib_parser.specs.declared.fault.ParseFault.TheVariants as parse
use Rattle.scrib_parser.specs.Grammar.{IsParseFault}
use Rattle.scrib_library.specs.Edits.{ReportsLex, ReportsParse}
use Rattle.scrib_library.specs.declared.fault.EditFault.TheVariants as edit
use Rattle.scrib_list.specs.Readings.{IsNoModule}

pub has_no_tokens : (text : List ℕ) (f : LexFault) → tokens.LexFailsAt text f → (f ≡ lex.OutOfMemory → ⊥) → IsNoModule text (edit.Lex f)
has_no_tokens text lex.OutOfMemory h ne = absurd (ne refl)
has_no_tokens text lex.TextTooLong h ne = h
has_no_tokens text (lex.BadByte at) h ne = h
has_no_tokens text (lex.OpenComment at) h ne = h
has_no_tokens text (lex.OpenString at) h ne = h
has_no_tokens text (lex.LongName at) h ne = h

pub has_no_tree : (text : List ℕ) (ts : List Lexeme) (f : ParseFault) → IsTokens text ts → IsParseFault ts f → (f ≡ parse.OutOfMemory → ⊥) → IsNoModule text (edit.Parse f)
has_no_tree text ts parse.OutOfMemory t h ne = absurd (ne refl)
has_no_tree text ts parse.EndOfText t h ne = (ts, t, h)
has_no_tree text ts (parse.Unexpected at) t h ne = (ts, t, h)
has_no_tree text ts (parse.LeftOut word at) t h ne = (ts, t, h)
has_no_tree text ts (parse.TooDeep at) t h ne = (ts, t, h)
