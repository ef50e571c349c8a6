-- The printed text of replies, without a line's end: verdicts, changes and refusals. Also that of a message in flight
-- (this project's own).
use Rattle.std.specs.Prelude.{ℕ, Bool, true, false, List, [], ◌∷◌, ◌++◌, codes}
use Rattle.std.specs.Fmt.{decimal}
use Rattle.scrib_types.specs.declared.event.Verdict.{Verdict}
use Rattle.scrib_types.specs.declared.event.Verdict.TheVariants.{Permitted, Offence, Withdrawn}
use Rattle.scrib_types.specs.declared.event.Told.{Told}
use Rattle.scrib_types.specs.declared.event.Told.TheVariants.{Stale, Judged}
use Rattle.scrib_types.specs.declared.spot.Spot.{Spot}
use Rattle.scrib_types.specs.Texts.{dotted_text, message_text, allowed_text, profile_word}
use Rattle.scrib_global.specs.declared.explain.Flight.{Flight}
use Rattle.scrib_lexer.specs.declared.fault.LexFault.{LexFault}
use Rattle.scrib_lexer.specs.declared.fault.LexFault.TheVariants as lex
use Rattle.scrib_parser.specs.LeftOut.{spelling}
use Rattle.scrib_parser.specs.declared.fault.ParseFault.{ParseFault}
use Rattle.scrib_parser.specs.declared.fault.ParseFault.TheVariants as parse
use Rattle.scrib_static_checks.specs.declared.fault.FaultKind.{FaultKind}
use Rattle.scrib_static_checks.specs.declared.fault.FaultKind.TheVariants as kind
use Rattle.scrib_static_checks.specs.declared.fault.Fault.{Fault}
use Rattle.scrib_project.specs.declared.fault.Unmergeable.{Unmergeable}
use Rattle.scrib_library.specs.declared.changes.ChangeKind.{ChangeKind}
use Rattle.scrib_library.specs.declared.changes.ChangeKind.TheVariants as change
use Rattle.scrib_library.specs.declared.changes.Change.{Change}
use Rattle.scrib_library.specs.declared.fault.EditFault.{EditFault}
use Rattle.scrib_library.specs.declared.fault.EditFault.TheVariants as edit
use Rattle.scrib_core.specs.declared.reply.Edit.{Edit}
use Rattle.scrib_core.specs.declared.reply.Edit.TheVariants as which
use Rattle.scrib_core.specs.declared.reply.Refusal.{Refusal}
use Rattle.scrib_core.specs.declared.reply.Refusal.TheVariants as refusal
use Rattle.scrib_core.specs.declared.reply.Reply.{Reply}
use Rattle.scrib_core.specs.declared.reply.Reply.TheVariants as reply

-- a place in a module text, as ` 3:14`: the line and the column
unfoldable pub spot_text : Spot → List ℕ
spot_text s = codes " " ++ decimal s.line ++ codes ":" ++ decimal s.column

-- an offence's place in the log and its role, as `offence at 3 by A`
unfoldable pub offence_text : ℕ → List ℕ → List ℕ
offence_text place role = codes "offence at " ++ decimal place ++ codes " by " ++ role

-- a verdict: `permitted`, `withdrawn`, or `offence at 3 by A, allowed: B!hello(), B!x()`
unfoldable pub verdict_text : Verdict → List ℕ
verdict_text Permitted = codes "permitted"
verdict_text Withdrawn = codes "withdrawn"
verdict_text (Offence place role allowed) = offence_text place role ++ codes ", allowed: " ++ allowed_text allowed

-- `stale`, or the verdict
unfoldable pub told_text : Told → List ℕ
told_text Stale = codes "stale"
told_text (Judged v) = verdict_text v

-- the verdict in one word: `permitted`, `offence`, `withdrawn` or `stale`
abbrev pub verdict_word : Told → List ℕ
verdict_word Stale = codes "stale"
verdict_word (Judged Permitted) = codes "permitted"
verdict_word (Judged Withdrawn) = codes "withdrawn"
verdict_word (Judged (Offence place role allowed)) = codes "offence"

-- `+` for added, `-` for withdrawn, `~` for replaced
abbrev pub sign_of : ChangeKind → List ℕ
sign_of change.Added = codes "+"
sign_of change.Withdrawn = codes "-"
sign_of change.Replaced = codes "~"

-- a change: its sign and the protocol's full name, as `+demo.A`
abbrev pub change_text : Change → List ℕ
change_text c = sign_of c.kind ++ dotted_text c.name

-- each change after a blank
abbrev pub change_texts : List Change → List ℕ
change_texts [] = []
change_texts (c ∷ cs) = codes " " ++ change_text c ++ change_texts cs

-- the changes of an edit, or ` no change`
abbrev pub changes_text : List Change → List ℕ
changes_text [] = codes " no change"
changes_text (c ∷ cs) = change_texts (c ∷ cs)

-- a fault of lexing: its name, and where it has one its place
unfoldable pub lex_fault_text : LexFault → List ℕ
lex_fault_text lex.TextTooLong = codes "TextTooLong"
lex_fault_text (lex.BadByte at) = codes "BadByte" ++ spot_text at
lex_fault_text (lex.OpenComment at) = codes "OpenComment" ++ spot_text at
lex_fault_text (lex.OpenString at) = codes "OpenString" ++ spot_text at
lex_fault_text (lex.LongName at) = codes "LongName" ++ spot_text at
lex_fault_text lex.OutOfMemory = codes "OutOfMemory"

-- a fault of parsing: its name, and where it has one its place
unfoldable pub parse_fault_text : ParseFault → List ℕ
parse_fault_text (parse.Unexpected at) = codes "Unexpected" ++ spot_text at
parse_fault_text parse.EndOfText = codes "EndOfText"
parse_fault_text (parse.LeftOut word at) = codes "LeftOut " ++ spelling word ++ spot_text at
parse_fault_text (parse.TooDeep at) = codes "TooDeep" ++ spot_text at
parse_fault_text parse.OutOfMemory = codes "OutOfMemory"

-- the name of a kind of fault of elaboration
abbrev pub kind_text : FaultKind → List ℕ
kind_text kind.NoModule = codes "NoModule"
kind_text kind.NoProtocol = codes "NoProtocol"
kind_text kind.TwiceDeclared = codes "TwiceDeclared"
kind_text kind.NoRole = codes "NoRole"
kind_text kind.RepeatedRole = codes "RepeatedRole"
kind_text kind.WrongCount = codes "WrongCount"
kind_text kind.SelfMessage = codes "SelfMessage"
kind_text kind.DoCycle = codes "DoCycle"
kind_text kind.NoRec = codes "NoRec"
kind_text kind.Unguarded = codes "Unguarded"
kind_text kind.Unreachable = codes "Unreachable"
kind_text kind.EmptyBranch = codes "EmptyBranch"
kind_text kind.ContinueHead = codes "ContinueHead"
kind_text kind.RecHead = codes "RecHead"
kind_text kind.NotChooser = codes "NotChooser"
kind_text kind.TwoReceivers = codes "TwoReceivers"
kind_text kind.SameOperator = codes "SameOperator"
kind_text kind.TooManyRoles = codes "TooManyRoles"
kind_text kind.TooLarge = codes "TooLarge"

-- a fault of elaboration, as `NoRole demo 3:14`: its kind, the module and the place
unfoldable pub fault_text : Fault → List ℕ
fault_text f = kind_text f.kind ++ codes " " ++ dotted_text f.module ++ spot_text f.spot

-- a missing projection, as `Unmergeable C demo 3:14`: the role, the module and the place
unfoldable pub unmergeable_text : Unmergeable → List ℕ
unmergeable_text u = codes "Unmergeable " ++ u.role ++ codes " " ++ dotted_text u.module ++ spot_text u.spot

-- why an edit was refused
unfoldable pub edit_fault_text : EditFault → List ℕ
edit_fault_text (edit.Lex f) = lex_fault_text f
edit_fault_text (edit.Parse f) = parse_fault_text f
edit_fault_text edit.UnknownModule = codes "UnknownModule"
edit_fault_text edit.TooManyModules = codes "TooManyModules"
edit_fault_text (edit.StillImported m) = codes "StillImported " ++ dotted_text m
edit_fault_text (edit.ImportMissing m) = codes "ImportMissing " ++ dotted_text m
edit_fault_text edit.TooManyProtocols = codes "TooManyProtocols"
edit_fault_text (edit.Elaborate f) = fault_text f
edit_fault_text (edit.Project u) = unmergeable_text u
edit_fault_text edit.VersionsFull = codes "VersionsFull"
edit_fault_text (edit.NeedsReception name) = codes "NeedsReception " ++ dotted_text name
edit_fault_text edit.OutOfMemory = codes "OutOfMemory"

-- why a step was refused
unfoldable pub refusal_text : Refusal → List ℕ
refusal_text refusal.AlreadyOpen = codes "AlreadyOpen"
refusal_text refusal.UnknownProtocol = codes "UnknownProtocol"
refusal_text refusal.TooManyConversations = codes "TooManyConversations"
refusal_text refusal.NoConversation = codes "NoConversation"
refusal_text (refusal.Edit f) = edit_fault_text f
refusal_text refusal.LogFull = codes "LogFull"
refusal_text refusal.OutOfMemory = codes "OutOfMemory"

-- `put` or `withdraw`
abbrev pub edit_word : Edit → List ℕ
edit_word which.Put = codes "put"
edit_word which.Withdraw = codes "withdraw"

-- the end of the line of a close: `complete`, or the verdict
abbrev pub closed_text : Verdict → (complete : Bool) → List ℕ
closed_text verdict true = codes "complete"
closed_text verdict false = verdict_text verdict

-- the line of a reply: `put demo: +demo.Hello`, `profile plain`, `open 1: demo.Hello`, `1.3 permitted`, `1 permitted`,
-- `close 1: complete` or `refused NoConversation`
unfoldable pub line_of : Reply → List ℕ
line_of (reply.Edited e changes) =
    edit_word e ++ codes " " ++ dotted_text changes.module ++ codes ":" ++ changes_text changes.list
line_of (reply.Profiled p) = codes "profile " ++ profile_word p
line_of (reply.Opened id name) = codes "open " ++ decimal id ++ codes ": " ++ dotted_text name
line_of (reply.Noted id place verdict) = decimal id ++ codes "." ++ decimal place ++ codes " " ++ told_text verdict
line_of (reply.Judged id name events verdict) = decimal id ++ codes " " ++ told_text verdict
line_of (reply.Closed id name events verdict complete) =
    codes "close " ++ decimal id ++ codes ": " ++ closed_text verdict complete
line_of (reply.Refused f) = codes "refused " ++ refusal_text f

-- a message in flight, as `A B hello()`: the sender, the receiver and the message
unfoldable pub flight_text : Flight → List ℕ
flight_text f = f.from ++ codes " " ++ f.to ++ codes " " ++ message_text f.message
