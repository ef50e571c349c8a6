-- What the functions behind `project` and `machine` promise one another (this project's own).
-- Only contracts of private functions cite this file.
use Rattle.std.specs.Prelude.{◌≡◌, ◌⊎◌, ⊤, ℕ, true, false, List, Option, Some, None}
use Rattle.scrib_types.specs.Agreement.{Agreement}
use Rattle.scrib_types.specs.LocalView.{local_of}
use Rattle.scrib_types.specs.declared.local.Local.{Local}
use Rattle.scrib_types.specs.Trees.{GlobalTree}
use Rattle.scrib_types.specs.declared.profile.Profile.{Profile}
use Rattle.scrib_types.specs.Projection.{projection}
use Rattle.scrib_types.specs.WellFormed.{has_role}
use Rattle.scrib_machine.specs.Compilable.{IsCompilable}
use Rattle.scrib_tree.specs.declared.tree.ModuleTree.{ModuleTree}
use Rattle.scrib_project.specs.declared.fault.Unmergeable.{Unmergeable}
use Rattle.scrib_project.specs.Faults.{IsUnmergeable, IsPlaced}
use Rattle.scrib_library.specs.declared.fault.EditFault.{EditFault}
use Rattle.scrib_library.specs.declared.fault.EditFault.TheVariants as edit
use Rattle.scrib_script_reader.specs.Fields.{IsDottedText}
use Rattle.scrib_script_io.specs.declared.fault.ScriptFault.{ScriptFault}
use Rattle.scrib_script_io.specs.declared.fault.ScriptFault.TheVariants as fault
use Rattle.scrib_cli.specs.declared.full_name.FullName.{FullName}
use Rattle.scrib_cli.specs.declared.projection.Projection.{Projection}
use Rattle.scrib_cli.specs.declared.projection.Projection.TheVariants.{Projects, NoProtocol, NoRole, Refused}
use Rattle.scrib_cli.specs.Projections.{IsFullName, IsNoModule, AreAdded, FailsAmong, StopsUnread}

-- the names that the bytes join by dots, if they do
abbrev pub AreNamesOf : List ℕ → Option (List (List ℕ)) → Type 0
AreNamesOf bytes None = (names : List (List ℕ)) → IsDottedText bytes names → ⊥
AreNamesOf bytes (Some names) = IsDottedText bytes names

-- the text is no module, for this reason, or memory was refused
abbrev pub IsUnreadOrRefused : List ℕ → EditFault → Type 0
IsUnreadOrRefused t f = (f ≡ edit.OutOfMemory) ⊎ IsNoModule t f

-- all texts were added, or one of them is no module for this reason
abbrev pub AreAddedOrFail : (before : List ModuleTree) → List (Option (List ℕ)) → (after : List ModuleTree)
    → Option EditFault → Type 0
AreAddedOrFail before texts after None = AreAdded before texts after
AreAddedOrFail before texts after (Some f) = FailsAmong texts f

-- the first text that is no module can't be read, or memory was refused
abbrev pub StopsAmong : List (Option (List ℕ)) → ScriptFault → Type 0
StopsAmong texts fault.Read = StopsUnread texts
StopsAmong texts fault.OutOfMemory = ⊤
StopsAmong texts _ = ⊥

-- the protocol has a full name and the first text that is no module can't be read, or memory was refused
abbrev pub StopsReading : (texts : List (Option (List ℕ))) (protocol : List ℕ) → ScriptFault → Type 0
StopsReading texts protocol fault.Read = ((name : FullName) × IsFullName protocol name) × StopsUnread texts
StopsReading texts protocol fault.OutOfMemory = ⊤
StopsReading texts protocol _ = ⊥

-- the name is one of the roles
abbrev pub IsDeclared : List (List ℕ) → (name role : List ℕ) → Type 0
IsDeclared roles name role = (role ≡ name) × (has_role name roles ≡ true)

-- the projection on the role of a protocol with this meaning, under the profile
pub data IsRoleProjection (profile : Profile) (a : Agreement) (role : List ℕ) : Projection → Type 0 where
  role_projects : (l : Local) → has_role role a.roles ≡ true → projection profile role a.global ≡ Some (local_of l)
      → IsRoleProjection profile a role (Projects l)
  role_undeclared : has_role role a.roles ≡ false → IsRoleProjection profile a role NoRole
  role_unmerged : (u : Unmergeable) → has_role role a.roles ≡ true → IsUnmergeable profile a.global role u
      → IsRoleProjection profile a role (Refused (edit.Project u))

-- where the protocol, in the module `home`, has no projection, the refusal's place is that of a choice without one
abbrev pub IsRefusalPlaced : Profile → List ModuleTree → (home : List (List ℕ)) (name : List ℕ) → GlobalTree
    → Projection → Type 0
IsRefusalPlaced profile modules home name g (Refused (edit.Project u)) = IsPlaced profile modules home name g u
IsRefusalPlaced profile modules home name g other = Unit {0}

-- the projection, if there is one, can be compiled to a machine
abbrev pub HasMachine : Projection → Type 0
HasMachine (Projects l) = IsCompilable (local_of l)
HasMachine NoProtocol = ⊤
HasMachine NoRole = ⊤
HasMachine (Refused f) = ⊤
