-- What an edit does to the modules, when it is refused, and what it changes (this project's own).
use Rattle.std.specs.Prelude.{◌≡◌, ◌≢◌, ℕ, ◌+◌, ◌<◌, ◌≤◌, Bool, true, false, List, length, Some, None, Contains, AllPairs, ◌↔◌}
use Rattle.std.specs.List.{count_by}
use Rattle.std.specs.Ordering.{nat_cmp}
use Rattle.std.specs.declared.cmp.Ordering.TheVariants.{Less, Greater}
use Rattle.std.specs.Cmp.Lexicographic.{slice_cmp}
use Rattle.scrib_types.specs.declared.profile.Profile.{Profile}
use Rattle.scrib_types.specs.Agreement.{Agreement}
use Rattle.scrib_types.specs.WellFormed.{projects}
use Rattle.scrib_types.specs.Texts.{dotted_text}
use Rattle.scrib_lexer.specs.declared.fault.LexFault.{LexFault}
use Rattle.scrib_lexer.specs.declared.fault.LexFault.TheVariants as lex
use Rattle.scrib_lexer.specs.Lexeme.{Lexeme}
use Rattle.scrib_lexer.specs.Tokens as tokens
use Rattle.scrib_lexer.specs.Tokens.{max_text_bytes, IsTokens}
use Rattle.scrib_parser.specs.declared.fault.ParseFault.{ParseFault}
use Rattle.scrib_parser.specs.declared.fault.ParseFault.TheVariants as parse
use Rattle.scrib_tree.specs.declared.tree.ModuleTree.{ModuleTree}
use Rattle.scrib_tree.specs.declared.tree.Import.{Import}
use Rattle.scrib_parser.specs.Grammar.{IsModule, IsParseFault}
use Rattle.scrib_static_checks.specs.declared.fault.Fault.{Fault}
use Rattle.scrib_static_checks.specs.Names.{Declaration, declarations, has_name, module_names, with_module}
use Rattle.scrib_elaborate.specs.Locality.{without_module}
use Rattle.scrib_static_checks.specs.Faults.{IsBroken}
use Rattle.scrib_project.specs.declared.fault.Unmergeable.{Unmergeable}
use Rattle.scrib_project.specs.Faults.{first_without, IsPlaced}
use Rattle.scrib_library.specs.declared.changes.ChangeKind.{ChangeKind}
use Rattle.scrib_library.specs.declared.changes.ChangeKind.TheVariants.{Added, Replaced, Withdrawn}
use Rattle.scrib_library.specs.declared.changes.Change.{Change}
use Rattle.scrib_library.specs.declared.fault.EditFault.{EditFault}
use Rattle.scrib_library.specs.declared.fault.EditFault.TheVariants as edit
use Rattle.scrib_library.specs.Modules.{Means, DeclaredMeans, AreMeant, AreWellFormed, missing_import, protocol_count}
use Rattle.scrib_library.specs.Holdings.{Holdings, IsStamped}

-- the text's tokens form the module
abbrev pub Reads : List ℕ → ModuleTree → Type 0
Reads text m = (ts : List Lexeme) × IsTokens text ts × IsModule ts m

-- the text does not form a module
abbrev pub IsUnread : List ℕ → Type 0
IsUnread text = (m : ModuleTree) → Reads text m → ⊥

-- the meaning of the name changed, and the change is of this kind
abbrev pub Changes : (before after : List ModuleTree) → ChangeKind → List (List ℕ) → Type 0
Changes before after Added name = ((a : Agreement) → Means before name a → ⊥) × ((a : Agreement) × Means after name a)
Changes before after Withdrawn name =
    ((a : Agreement) × Means before name a) × ((a : Agreement) → Means after name a → ⊥)
Changes before after Replaced name = (a b : Agreement) × Means before name a × Means after name b × (a ≢ b)

-- the text of the first change's name is less than that of the second's
abbrev pub NamedBefore : Change → Change → Type 0
NamedBefore x y = slice_cmp nat_cmp (dotted_text x.name) (dotted_text y.name) ≡ Less

-- the changes of exactly the names whose meaning differs, ordered by their texts, each once
pub record IsChanges (before after : List ModuleTree) (list : List Change) : Type 0 where
  pub sorted : AllPairs NamedBefore list
  pub exact : (x : Change) → Contains list x ↔ Changes before after x.kind x.name

-- changes of different names whose meaning differs, ordered by their texts
pub record AreChanges (before after : List ModuleTree) (list : List Change) : Type 0 where
  pub sorted : AllPairs NamedBefore list
  pub sound : (x : Change) → Contains list x → Changes before after x.kind x.name

-- an added or replaced name receives a new version
abbrev pub has_new_version : ChangeKind → Bool
has_new_version Added = true
has_new_version Replaced = true
has_new_version Withdrawn = false

-- how many new versions these changes need
abbrev pub new_versions : List Change → ℕ
new_versions list = count_by (λ (x : Change). has_new_version x.kind) list

-- The count of used versions rises by the versions that these changes need, and is at most 65,536. An unchanged name
-- keeps its version. Each new version has a number that was never used.
pub record AreVersionsUsed (before after : Holdings) (list : List Change) : Type 0 where
  pub count : after.used ≡ before.used + new_versions list
  pub few : after.used ≤ 65536
  pub stamped : IsStamped before after

-- With the versions of the added and replaced names, more than 65,536 would be used. This holds already with some of
-- the changes.
abbrev pub RunsOut : (before after : List ModuleTree) (used : ℕ) → Type 0
RunsOut before after used =
    ((list : List Change) × AreChanges before after list × (65536 < used + new_versions list))
    × ((list : List Change) → IsChanges before after list → 65536 < used + new_versions list)

-- at most 256 modules and 1,024 protocols, and each module that `m` imports exists
pub record HasRoom (m : ModuleTree) (after : List ModuleTree) : Type 0 where
  pub modules : length after ≤ 256
  pub imports : missing_import after m.imports ≡ None
  pub protocols : protocol_count after ≤ 1024

-- The put is accepted: the text forms a module, which replaces the one with its name. It has room, and the modules are
-- then well formed under the profile.
pub record IsPut (profile : Profile) (before : List ModuleTree) (text : List ℕ) (m : ModuleTree)
    (after : List ModuleTree) : Type 0 where
  pub read : Reads text m
  pub placed : after ≡ with_module m before
  pub room : HasRoom m after
  pub meant : AreWellFormed profile after

-- a module of another name that imports this name
pub record IsImporter (modules : List ModuleTree) (name : List (List ℕ)) (m : ModuleTree) : Type 0 where
  pub there : Contains modules m
  pub other : m.name ≢ name
  pub by : Import
  pub imports : Contains m.imports by
  pub of : by.module ≡ name

-- `by` is the name of a module that imports `name`, and is the least such name
pub record IsLeastImporter (modules : List ModuleTree) (name by : List (List ℕ)) : Type 0 where
  pub importer : ModuleTree
  pub imports : IsImporter modules name importer
  pub named : importer.name ≡ by
  pub least : (m : ModuleTree) → IsImporter modules name m
      → slice_cmp nat_cmp (dotted_text by) (dotted_text m.name) ≢ Greater

-- The withdrawal is accepted: a module has the name, and no other module imports it. The module is removed.
pub record IsWithdrawal (profile : Profile) (before : List ModuleTree) (name : List (List ℕ))
    (after : List ModuleTree) : Type 0 where
  pub there : has_name name (module_names before) ≡ true
  pub free : (m : ModuleTree) → IsImporter before name m → ⊥
  pub removed : after ≡ without_module name before
  pub meant : AreWellFormed profile after

-- each change is a withdrawal
abbrev pub AreWithdrawn : List Change → Type 0
AreWithdrawn list = (x : Change) → Contains list x → x.kind ≡ Withdrawn

-- the withdrawal is refused for this fault, and for none before it in this list
abbrev pub WithdrawFails : List ModuleTree → List (List ℕ) → EditFault → Type 0
WithdrawFails before name edit.UnknownModule = has_name name (module_names before) ≡ false
WithdrawFails before name (edit.StillImported by) =
    (has_name name (module_names before) ≡ true) × IsLeastImporter before name by
WithdrawFails before name edit.OutOfMemory = has_name name (module_names before) ≡ true
WithdrawFails before name _ = ⊥

-- the text has no token sequence for this reason; `OutOfMemory` is the edit's own fault instead
abbrev pub ReportsLex : List ℕ → LexFault → Type 0
ReportsLex text lex.TextTooLong = tokens.LexFailsAt text lex.TextTooLong
ReportsLex text (lex.BadByte at) = tokens.LexFailsAt text (lex.BadByte at)
ReportsLex text (lex.OpenComment at) = tokens.LexFailsAt text (lex.OpenComment at)
ReportsLex text (lex.OpenString at) = tokens.LexFailsAt text (lex.OpenString at)
ReportsLex text (lex.LongName at) = tokens.LexFailsAt text (lex.LongName at)
ReportsLex text lex.OutOfMemory = ⊥

-- the tokens form no module for this reason; `OutOfMemory` is the edit's own fault instead
abbrev pub ReportsParse : List Lexeme → ParseFault → Type 0
ReportsParse ts (parse.Unexpected at) = IsParseFault ts (parse.Unexpected at)
ReportsParse ts parse.EndOfText = IsParseFault ts parse.EndOfText
ReportsParse ts (parse.LeftOut word at) = IsParseFault ts (parse.LeftOut word at)
ReportsParse ts (parse.TooDeep at) = IsParseFault ts (parse.TooDeep at)
ReportsParse ts parse.OutOfMemory = ⊥

-- a declared protocol has no meaning, and breaks this rule at this place
abbrev pub IsBrokenIn : List ModuleTree → Fault → Type 0
IsBrokenIn modules f =
    (d : Declaration) × Contains (declarations modules) d × ((a : Agreement) → DeclaredMeans modules d a → ⊥)
    × IsBroken modules d.home.name d.protocol.name f

-- The type of a declared protocol does not project on the role, which is its first such role. The place is that of a
-- choice of this type whose branches do not merge for the role.
abbrev pub IsUnmergeableIn : Profile → List ModuleTree → Unmergeable → Type 0
IsUnmergeableIn profile modules u =
    (d : Declaration) × (a : Agreement) × Contains (declarations modules) d × DeclaredMeans modules d a
    × (projects profile a.global a.roles ≡ false) × (first_without profile a.global a.roles ≡ Some u.role)
    × IsPlaced profile modules d.home.name d.protocol.name a.global u

-- With the module this fault applies, and none before it. Either room is missing, the modules are ill formed under the
-- profile, or the version numbers run out.
abbrev pub ModuleFails : Profile → (before : List ModuleTree) (used : ℕ) → ModuleTree → (after : List ModuleTree)
    → EditFault → Type 0
ModuleFails profile before used m after edit.TooManyModules = 256 < length after
ModuleFails profile before used m after (edit.ImportMissing name) =
    (length after ≤ 256) × ((i : Import) × (missing_import after m.imports ≡ Some i) × (name ≡ i.module))
ModuleFails profile before used m after edit.TooManyProtocols =
    (length after ≤ 256) × (missing_import after m.imports ≡ None) × (1024 < protocol_count after)
ModuleFails profile before used m after (edit.Elaborate f) = HasRoom m after × IsBrokenIn after f
ModuleFails profile before used m after (edit.Project u) =
    HasRoom m after × AreMeant after × IsUnmergeableIn profile after u
ModuleFails profile before used m after edit.VersionsFull =
    HasRoom m after × AreWellFormed profile after × RunsOut before after used
ModuleFails profile before used m after edit.OutOfMemory = Unit {0}
ModuleFails profile before used m after _ = ⊥

-- the text forms a module, whose put fails with this fault
abbrev pub TextFails : Profile → (before : List ModuleTree) (used : ℕ) → List ℕ → EditFault → Type 0
TextFails profile before used text f =
    (m : ModuleTree) × Reads text m × ModuleFails profile before used m (with_module m before) f

-- The put is refused for this fault, and for none before it in this list. `profile` and `used` are those of the
-- library. Memory may be refused for any text that is not too long.
abbrev pub PutFails : Profile → (before : List ModuleTree) (used : ℕ) → List ℕ → EditFault → Type 0
PutFails profile before used text (edit.Lex f) = IsUnread text × ReportsLex text f
PutFails profile before used text (edit.Parse f) =
    IsUnread text × ((ts : List Lexeme) × IsTokens text ts × ReportsParse ts f)
PutFails profile before used text edit.TooManyModules = TextFails profile before used text edit.TooManyModules
PutFails profile before used text (edit.ImportMissing name) =
    TextFails profile before used text (edit.ImportMissing name)
PutFails profile before used text edit.TooManyProtocols = TextFails profile before used text edit.TooManyProtocols
PutFails profile before used text (edit.Elaborate f) = TextFails profile before used text (edit.Elaborate f)
PutFails profile before used text (edit.Project u) = TextFails profile before used text (edit.Project u)
PutFails profile before used text edit.VersionsFull = TextFails profile before used text edit.VersionsFull
PutFails profile before used text edit.OutOfMemory = length text ≤ max_text_bytes
PutFails profile before used text _ = ⊥
