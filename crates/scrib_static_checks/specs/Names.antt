-- The protocol that a call names (this project's own, after the Scribble Language Reference 0.3).
use Rattle.std.specs.Prelude.{◌≡◌, ℕ, ◌≤◌, Bool, true, ◌&&◌, not, nat_le, List, [], ◌∷◌, ◌++◌, length, map, Option, Some, None, option_and_then, if◌then◌else◌, refl}
use Rattle.std.specs.Bool.{Decides}
use Rattle.std.specs.List.{list_any}
use Rattle.std.specs.Cmp.Lexicographic.{pointwise}
use Rattle.std.specs.Str.{bytes_eq}
use Rattle.std.proofs.lemmas.Slice.Eq.{bytes_eq-Decides, slice_eq-Decides}
use Rattle.scrib_types.specs.WellFormed.{distinct_roles}
use Rattle.scrib_tree.specs.declared.tree.ModuleTree.{ModuleTree}
use Rattle.scrib_tree.specs.declared.tree.Import.{Import}
use Rattle.scrib_tree.specs.declared.tree.ProtocolDeclaration.{ProtocolDeclaration}
use Rattle.scrib_tree.specs.declared.tree.RoleDeclaration.{RoleDeclaration}

-- a declared protocol and its module
pub record Declaration : Type 0 where
  pub home : ModuleTree
  pub protocol : ProtocolDeclaration

-- whether the two dotted names are equal
abbrev pub dotted_eq : List (List ℕ) → List (List ℕ) → Bool
dotted_eq = pointwise bytes_eq

-- the test decides whether two dotted names are the same
pub dotted_eq-Decides : (a b : List (List ℕ)) → Decides (dotted_eq a b) (a ≡ b)
dotted_eq-Decides a b = slice_eq-Decides bytes_eq-Decides a b (dotted_eq a b) refl

-- whether the name is one of these
abbrev pub has_name : List (List ℕ) → List (List (List ℕ)) → Bool
has_name n names = list_any (dotted_eq n) names

-- whether all names are different
abbrev pub distinct_names : List (List (List ℕ)) → Bool
distinct_names [] = true
distinct_names (n ∷ ns) = not (has_name n ns) && distinct_names ns

-- the first that passes the test
abbrev pub first_where : {X : Type 0} → (X → Bool) → List X → Option X
first_where test [] = None
first_where test (x ∷ xs) = if test x then Some x else first_where test xs

-- the name by which a module knows an import: the one after `as`, and otherwise the name of the other module
abbrev pub known_name : List (List ℕ) → Option (List ℕ) → List (List ℕ)
known_name other None = other
known_name other (Some n) = n ∷ []

-- the name by which a module knows this import
abbrev pub known_by : Import → List (List ℕ)
known_by i = known_name i.module i.known_as

abbrev pub import_names : List Import → List (List (List ℕ))
import_names is = map known_by is

-- the names of the modules, in order
abbrev pub module_names : List ModuleTree → List (List (List ℕ))
module_names modules = map (λ (m : ModuleTree). m.name) modules

-- the modules with this one in place of the module of its name, or at the end
abbrev pub with_module : ModuleTree → List ModuleTree → List ModuleTree
with_module m [] = m ∷ []
with_module m (n ∷ ns) = if dotted_eq m.name n.name then m ∷ ns else n ∷ with_module m ns

abbrev pub protocol_names : List ProtocolDeclaration → List (List ℕ)
protocol_names ds = map (λ (d : ProtocolDeclaration). d.name) ds

-- the names of the roles, in the order in which they are declared
abbrev pub role_names : List RoleDeclaration → List (List ℕ)
role_names rs = map (λ (r : RoleDeclaration). r.name) rs

-- the roles of a declared protocol, in the order in which they are declared
abbrev pub roles_of : Declaration → List (List ℕ)
roles_of d = role_names d.protocol.roles

-- these protocols as declared in this module
abbrev pub declared_in : ModuleTree → List ProtocolDeclaration → List Declaration
declared_in m ps = map (λ p. record { home = m; protocol = p }) ps

-- all protocols that the modules declare, in order
abbrev pub declarations : List ModuleTree → List Declaration
declarations [] = []
declarations (m ∷ ms) = declared_in m m.protocols ++ declarations ms

-- whether it is the protocol of this name in the module of this name
abbrev pub is_called : (home : List (List ℕ)) (name : List ℕ) → Declaration → Bool
is_called home name d = bytes_eq name d.protocol.name && dotted_eq home d.home.name

-- the protocol of this name in the module of this name, the first one where two are declared
abbrev pub find_protocol : List ModuleTree → (home : List (List ℕ)) (name : List ℕ) → Option Declaration
find_protocol modules home name = first_where (is_called home name) (declarations modules)

-- a path without its last name
abbrev pub all_but_last : List (List ℕ) → List (List ℕ)
all_but_last [] = []
all_but_last (a ∷ []) = []
all_but_last (a ∷ b ∷ ns) = a ∷ all_but_last (b ∷ ns)

-- the last name of a path
abbrev pub last_name : List (List ℕ) → List ℕ
last_name [] = []
last_name (a ∷ []) = a
last_name (a ∷ b ∷ ns) = last_name (b ∷ ns)

-- the module of the import that is known by this name
abbrev pub imported : List Import → List (List ℕ) → Option (List (List ℕ))
imported [] n = None
imported (i ∷ is) n = if dotted_eq n (known_by i) then Some i.module else imported is n

-- the name of the module in which a call looks up its protocol: the calling one where the path has no dot
abbrev pub looked_in : ModuleTree → (front : List (List ℕ)) → Option (List (List ℕ))
looked_in m [] = Some m.name
looked_in m (a ∷ ns) = imported m.imports (a ∷ ns)

-- that module, if it exists
abbrev pub called_home : List ModuleTree → ModuleTree → (path : List (List ℕ)) → Option (List (List ℕ))
called_home modules m path =
    option_and_then (λ n. if has_name n (module_names modules) then Some n else None) (looked_in m (all_but_last path))

-- the protocol that a call in this module names, if it exists
abbrev pub called : List ModuleTree → ModuleTree → (path : List (List ℕ)) → Option Declaration
called modules m path = option_and_then (λ n. find_protocol modules n (last_name path)) (called_home modules m path)

-- A module's imports are known by different names, its protocols have different names, and the protocol has at most 64
-- roles, all different.
pub record HasOwnNames (d : Declaration) : Type 0 where
  pub imports : distinct_names (import_names d.home.imports) ≡ true
  pub protocols : distinct_roles (protocol_names d.home.protocols) ≡ true
  pub few : length d.protocol.roles ≤ 64
  pub roles : distinct_roles (roles_of d) ≡ true

-- A module has at most 1,024 imports and as many protocols, its imports are known by different names, and its protocols
-- have different names.
abbrev pub has_checked_names : ModuleTree → Bool
has_checked_names m =
    nat_le (length m.imports) 1024 && nat_le (length m.protocols) 1024 && distinct_names (import_names m.imports)
    && distinct_roles (protocol_names m.protocols)
