-- The fault of an edit that a fault of a lower layer becomes.
use Rattle.scrib_lexer.specs.declared.fault.LexFault.{LexFault}
use Rattle.scrib_lexer.specs.declared.fault.LexFault.TheVariants as lex
use Rattle.scrib_parser.specs.declared.fault.ParseFault.{ParseFault}
use Rattle.scrib_parser.specs.declared.fault.ParseFault.TheVariants as parse
use Rattle.scrib_static_checks.specs.declared.fault.ElaborateFault.{ElaborateFault}
use Rattle.scrib_static_checks.specs.declared.fault.ElaborateFault.TheVariants as elaborate
use Rattle.scrib_project.specs.declared.fault.ProjectFault.{ProjectFault}
use Rattle.scrib_project.specs.declared.fault.ProjectFault.TheVariants as project
use Rattle.scrib_library.specs.declared.fault.EditFault.{EditFault}
use Rattle.scrib_library.specs.declared.fault.EditFault.TheVariants as edit

-- the edit's fault for a fault of lexing
abbrev pub edit_fault_of_lex : LexFault → EditFault
edit_fault_of_lex lex.OutOfMemory = edit.OutOfMemory
edit_fault_of_lex lex.TextTooLong = edit.Lex lex.TextTooLong
edit_fault_of_lex (lex.BadByte at) = edit.Lex (lex.BadByte at)
edit_fault_of_lex (lex.OpenComment at) = edit.Lex (lex.OpenComment at)
edit_fault_of_lex (lex.OpenString at) = edit.Lex (lex.OpenString at)
edit_fault_of_lex (lex.LongName at) = edit.Lex (lex.LongName at)

-- the edit's fault for a fault of parsing
abbrev pub edit_fault_of_parse : ParseFault → EditFault
edit_fault_of_parse parse.OutOfMemory = edit.OutOfMemory
edit_fault_of_parse parse.EndOfText = edit.Parse parse.EndOfText
edit_fault_of_parse (parse.Unexpected at) = edit.Parse (parse.Unexpected at)
edit_fault_of_parse (parse.LeftOut word at) = edit.Parse (parse.LeftOut word at)
edit_fault_of_parse (parse.TooDeep at) = edit.Parse (parse.TooDeep at)

-- the edit's fault for a fault of elaboration
abbrev pub edit_fault_of_elaborate : ElaborateFault → EditFault
edit_fault_of_elaborate elaborate.OutOfMemory = edit.OutOfMemory
edit_fault_of_elaborate (elaborate.Broken f) = edit.Elaborate f

-- the edit's fault for a fault of projection
abbrev pub edit_fault_of_project : ProjectFault → EditFault
edit_fault_of_project project.OutOfMemory = edit.OutOfMemory
edit_fault_of_project (project.Unmergeable u) = edit.Project u
