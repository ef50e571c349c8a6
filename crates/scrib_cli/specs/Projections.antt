-- The output of `project` and `machine` (this project's own).
use Rattle.std.specs.Prelude.{◌≡◌, ⊤, ℕ, ◌<◌, Bool, true, false, List, [], ◌∷◌, ◌++◌, length, Option, Some, None, codes}
use Rattle.scrib_types.specs.Agreement.{Agreement}
use Rattle.scrib_types.specs.LocalView.{local_of}
use Rattle.scrib_types.specs.declared.profile.Profile.{Profile}
use Rattle.scrib_types.specs.Projection.{projection}
use Rattle.scrib_types.specs.WellFormed.{has_role}
use Rattle.scrib_types.specs.Trees.{LocalTree}
use Rattle.scrib_types.specs.declared.local.Local.{Local}
use Rattle.scrib_lexer.specs.declared.fault.LexFault.{LexFault}
use Rattle.scrib_lexer.specs.Lexeme.{Lexeme}
use Rattle.scrib_lexer.specs.Tokens.{IsTokens}
use Rattle.scrib_parser.specs.declared.fault.ParseFault.{ParseFault}
use Rattle.scrib_tree.specs.declared.tree.ModuleTree.{ModuleTree}
use Rattle.scrib_static_checks.specs.declared.fault.Fault.{Fault}
use Rattle.scrib_static_checks.specs.Names.{with_module}
use Rattle.scrib_static_checks.specs.Elaboration.{Elaborates}
use Rattle.scrib_static_checks.specs.Faults.{IsBroken}
use Rattle.scrib_project.specs.declared.fault.Unmergeable.{Unmergeable}
use Rattle.scrib_project.specs.Faults.{IsUnmergeable, IsPlaced}
use Rattle.scrib_projection.specs.Text.{local_text}
use Rattle.scrib_machine.specs.declared.machine.Edge.{Edge}
use Rattle.scrib_machine.specs.Machines.{IsMachine, IsSystemOf, HasTracesOf}
use Rattle.scrib_machine.specs.Graph.{graph_text}
use Rattle.scrib_library.specs.declared.fault.EditFault.{EditFault}
use Rattle.scrib_library.specs.declared.fault.EditFault.TheVariants as edit
use Rattle.scrib_library.specs.Edits.{Reads, ReportsLex, ReportsParse}
use Rattle.scrib_core.specs.declared.reply.Reply.TheVariants as reply
use Rattle.scrib_core.specs.declared.reply.Refusal.TheVariants as refusal
use Rattle.scrib_script_reader.specs.Fields.{IsDottedText}
use Rattle.scrib_report.specs.LineOutput.{reply_line}
use Rattle.scrib_cli.specs.Explanations.{refusal_line}
use Rattle.scrib_script_io.specs.declared.fault.ScriptFault.{ScriptFault}
use Rattle.scrib_script_io.specs.declared.fault.ScriptFault.TheVariants as fault
use Rattle.scrib_cli.specs.declared.form.Form.{Form}
use Rattle.scrib_cli.specs.declared.form.Form.TheVariants.{Text, Graph}
use Rattle.scrib_cli.specs.declared.full_name.FullName.{FullName}
use Rattle.scrib_cli.specs.declared.projection.Projection.{Projection}
use Rattle.scrib_cli.specs.declared.projection.Projection.TheVariants.{Projects, NoProtocol, NoRole, Refused}
use Rattle.scrib_cli.specs.declared.role_query.RoleQuery.{RoleQuery}

-- the bytes are two or more names joined by dots, and the last is the protocol's
abbrev pub IsFullName : List ℕ → FullName → Type 0
IsFullName bytes name = IsDottedText bytes (name.home ++ name.protocol ∷ []) × (0 < length name.home)

-- The texts are modules, and each replaces the one of its name or is added last. An unreadable text is no module.
pub data AreAdded : (before : List ModuleTree) → List (Option (List ℕ)) → (after : List ModuleTree) → Type 0 where
  adds_none : (ms : List ModuleTree) → AreAdded ms [] ms
  adds_next : (before after : List ModuleTree) (t : List ℕ) (ts : List (Option (List ℕ))) (m : ModuleTree)
      → Reads t m → AreAdded (with_module m before) ts after → AreAdded before (Some t ∷ ts) after

-- the text is no module, for this reason
pub data IsNoModule (t : List ℕ) : EditFault → Type 0 where
  has_no_tokens : (f : LexFault) → ReportsLex t f → IsNoModule t (edit.Lex f)
  has_no_tree : (ts : List Lexeme) (f : ParseFault) → IsTokens t ts → ReportsParse ts f → IsNoModule t (edit.Parse f)

-- the first text that is no module has this fault, and the texts before it are modules
pub data FailsAmong : List (Option (List ℕ)) → EditFault → Type 0 where
  fails_first : (t : List ℕ) (ts : List (Option (List ℕ))) (f : EditFault) → IsNoModule t f → FailsAmong (Some t ∷ ts) f
  fails_later : (t : List ℕ) (ts : List (Option (List ℕ))) (f : EditFault) (m : ModuleTree)
      → Reads t m → FailsAmong ts f → FailsAmong (Some t ∷ ts) f

-- the first text that is no module can't be read, and the texts before it are modules
pub data StopsUnread : List (Option (List ℕ)) → Type 0 where
  stops_first : (ts : List (Option (List ℕ))) → StopsUnread (None ∷ ts)
  stops_later : (t : List ℕ) (ts : List (Option (List ℕ))) (m : ModuleTree)
      → Reads t m → StopsUnread ts → StopsUnread (Some t ∷ ts)

-- The projection of a protocol of module texts on a role under a profile, or the first refusal. The refusals: the name
-- is no full name; a text is no module; the protocol has no meaning; it does not declare the role; it has no projection
-- on the role. The place of the last is that of a choice whose branches do not merge for the role.
pub data IsProjection (profile : Profile) (texts : List (Option (List ℕ))) (protocol role : List ℕ)
    : Projection → Type 0 where
  unnamed : ((name : FullName) → IsFullName protocol name → ⊥) → IsProjection profile texts protocol role NoProtocol
  unread : (name : FullName) (f : EditFault) → IsFullName protocol name → FailsAmong texts f
      → IsProjection profile texts protocol role (Refused f)
  meaningless : (name : FullName) (modules : List ModuleTree) (f : Fault)
      → IsFullName protocol name → AreAdded [] texts modules
      → IsBroken modules name.home name.protocol f
      → IsProjection profile texts protocol role (Refused (edit.Elaborate f))
  undeclared : (name : FullName) (modules : List ModuleTree) (a : Agreement)
      → IsFullName protocol name → AreAdded [] texts modules
      → Elaborates modules name.home name.protocol a → has_role role a.roles ≡ false
      → IsProjection profile texts protocol role NoRole
  unmerged : (name : FullName) (modules : List ModuleTree) (a : Agreement) (u : Unmergeable)
      → IsFullName protocol name → AreAdded [] texts modules
      → Elaborates modules name.home name.protocol a → has_role role a.roles ≡ true
      → IsUnmergeable profile a.global role u → IsPlaced profile modules name.home name.protocol a.global u
      → IsProjection profile texts protocol role (Refused (edit.Project u))
  does : (name : FullName) (modules : List ModuleTree) (a : Agreement) (l : Local)
      → IsFullName protocol name → AreAdded [] texts modules
      → Elaborates modules name.home name.protocol a → has_role role a.roles ≡ true
      → projection profile role a.global ≡ Some (local_of l)
      → IsProjection profile texts protocol role (Projects l)

-- whether the result is a projection
abbrev pub is_projection : Projection → Bool
is_projection (Projects l) = true
is_projection NoProtocol = false
is_projection NoRole = false
is_projection (Refused f) = false

-- The text is the graph of a machine. The machine is the transition system of the local type, and its paths from the
-- start are the type's traces.
pub record IsGraphOf (l : LocalTree) (text : List ℕ) : Type 0 where
  pub rows : List (List Edge)
  pub machine : IsMachine rows
  pub system : IsSystemOf l rows
  pub follows : HasTracesOf l rows
  pub written : text ≡ graph_text rows

-- the text of a local type in this form: the type in a line, or the graph of its machine
abbrev pub IsPrinted : Form → Local → List ℕ → Type 0
IsPrinted Text l text = text ≡ local_text 0 (local_of l) ++ 10 ∷ []
IsPrinted Graph l text = IsGraphOf (local_of l) text

-- the text of the result: the projection in this form, or a refusal line, which is the same in both forms
abbrev pub IsTextOf : Form → Projection → List ℕ → Type 0
IsTextOf form (Projects l) text = IsPrinted form l text
IsTextOf form NoProtocol text = text ≡ refusal_line (codes "NoProtocol")
IsTextOf form NoRole text = text ≡ refusal_line (codes "NoRole")
IsTextOf form (Refused f) text = text ≡ reply_line (reply.Refused (refusal.Edit f))

-- the output for the query is this text, and the flag says whether it is a projection
abbrev pub IsQueryOutput : RoleQuery → (texts : List (Option (List ℕ))) → Bool → List ℕ → Type 0
IsQueryOutput q texts has_projection text =
    (p : Projection) × IsProjection q.profile texts q.protocol.now q.role.now p
    × (has_projection ≡ is_projection p) × IsTextOf q.form p text

-- What a fault implies for the input. After a read fault the protocol has a full name, and the first text that is no
-- module can't be read. After a write fault there is a text to write. Memory may be refused at any input.
abbrev pub FaultImplies : RoleQuery → (texts : List (Option (List ℕ))) → ScriptFault → Type 0
FaultImplies q texts fault.Read = ((name : FullName) × IsFullName q.protocol.now name) × StopsUnread texts
FaultImplies q texts fault.Write = (has_projection : Bool) × (text : List ℕ) × IsQueryOutput q texts has_projection text
FaultImplies q texts fault.Settle = ⊥
FaultImplies q texts fault.OutOfMemory = ⊤
