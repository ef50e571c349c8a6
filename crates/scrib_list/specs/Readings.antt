-- A text that was read as a module (this project's own).
use Rattle.std.specs.Prelude.{ℕ, List}
use Rattle.scrib_lexer.specs.Lexeme.{Lexeme}
use Rattle.scrib_lexer.specs.Tokens.{IsTokens}
use Rattle.scrib_library.specs.declared.fault.EditFault.{EditFault}
use Rattle.scrib_library.specs.declared.fault.EditFault.TheVariants as edit
use Rattle.scrib_library.specs.Edits.{Reads, ReportsLex, ReportsParse}
use Rattle.scrib_list.specs.declared.read.Reading.{Reading}
use Rattle.scrib_list.specs.declared.read.Reading.TheVariants.{Module, Refused}

-- the text is no module: it has no tokens, or its tokens form none, for this reason
abbrev pub IsNoModule : List ℕ → EditFault → Type 0
IsNoModule text (edit.Lex f) = ReportsLex text f
IsNoModule text (edit.Parse f) = (ts : List Lexeme) × IsTokens text ts × ReportsParse ts f
IsNoModule text _ = ⊥

-- the text is this module, or no module for this reason
abbrev pub IsReading : List ℕ → Reading → Type 0
IsReading text (Module m) = Reads text m
IsReading text (Refused fault) = IsNoModule text fault
