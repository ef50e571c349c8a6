-- What the accepted modules mean (this project's own).
use Rattle.std.specs.Prelude.{◌≡◌, ℕ, ◌≤◌, Bool, true, not, List, [], ◌∷◌, ◌++◌, length, Option, Some, None, Contains}
use Rattle.std.specs.List.{sum_by}
use Rattle.scrib_types.specs.Agreement.{Agreement}
use Rattle.scrib_types.specs.declared.profile.Profile.{Profile}
use Rattle.scrib_types.specs.WellFormed.{projects, is_protocol}
use Rattle.scrib_tree.specs.declared.tree.ModuleTree.{ModuleTree}
use Rattle.scrib_tree.specs.declared.tree.Import.{Import}
use Rattle.scrib_static_checks.specs.Names.{Declaration, has_name, first_where, module_names, declarations}
use Rattle.scrib_static_checks.specs.Elaboration.{Elaborates}

-- the protocol's name appended to that of its module
abbrev pub full_name : (home : List (List ℕ)) (name : List ℕ) → List (List ℕ)
full_name home name = home ++ name ∷ []

-- the full name of the declared protocol
abbrev pub name_of : Declaration → List (List ℕ)
name_of d = full_name d.home.name d.protocol.name

-- the name is that of a module and of a protocol of it, whose meaning is this type
pub record Means (modules : List ModuleTree) (name : List (List ℕ)) (a : Agreement) : Type 0 where
  pub home : List (List ℕ)
  pub protocol : List ℕ
  pub named : name ≡ full_name home protocol
  pub elaborated : Elaborates modules home protocol a

-- the meaning of the name in the modules, if it has one
abbrev pub IsMeaning : List ModuleTree → List (List ℕ) → Option Agreement → Type 0
IsMeaning modules name None = (a : Agreement) → Means modules name a → ⊥
IsMeaning modules name (Some a) = Means modules name a

-- the meaning of the declared protocol
abbrev pub DeclaredMeans : List ModuleTree → Declaration → Agreement → Type 0
DeclaredMeans modules d a = Elaborates modules d.home.name d.protocol.name a

-- the imported module does not exist
abbrev pub is_missing : List ModuleTree → Import → Bool
is_missing modules i = not (has_name i.module (module_names modules))

-- the first import whose module does not exist
abbrev pub missing_import : List ModuleTree → List Import → Option Import
missing_import modules is = first_where (is_missing modules) is

-- each imported module exists
abbrev pub AreImportsThere : List ModuleTree → Type 0
AreImportsThere modules = (m : ModuleTree) → Contains modules m → missing_import modules m.imports ≡ None

-- each declared protocol has a meaning
abbrev pub AreMeant : List ModuleTree → Type 0
AreMeant modules = (d : Declaration) → Contains (declarations modules) d → (a : Agreement) × DeclaredMeans modules d a

-- under the profile: each imported module exists, and each declared protocol has a meaning that projects on each of its
-- roles
pub record AreWellFormed (profile : Profile) (modules : List ModuleTree) : Type 0 where
  pub imports : AreImportsThere modules
  pub meant : AreMeant modules
  pub projected : (d : Declaration) (a : Agreement) → Contains (declarations modules) d → DeclaredMeans modules d a
      → projects profile a.global a.roles ≡ true

-- the meaning of each name projects on each of its roles under the profile
abbrev pub AllProject : Profile → List ModuleTree → Type 0
AllProject profile modules =
    (name : List (List ℕ)) (a : Agreement) → Means modules name a → projects profile a.global a.roles ≡ true

-- the meaning of each name is a protocol
abbrev pub MeansProtocols : List ModuleTree → Type 0
MeansProtocols modules =
    (name : List (List ℕ)) (a : Agreement) → Means modules name a → is_protocol a.roles a.global ≡ true

-- each name has at most one meaning
abbrev pub MeansOnce : List ModuleTree → Type 0
MeansOnce modules = (name : List (List ℕ)) (a b : Agreement) → Means modules name a → Means modules name b → a ≡ b

-- how many protocols the modules declare
abbrev pub protocol_count : List ModuleTree → ℕ
protocol_count modules = sum_by (λ (m : ModuleTree). length m.protocols) modules

-- at most 256 modules, which declare at most 1,024 protocols
pub record AreFew (modules : List ModuleTree) : Type 0 where
  pub count : length modules ≤ 256
  pub protocols : protocol_count modules ≤ 1024
