-- What a library stores of the accepted modules.
use Rattle.std.specs.Prelude.{◌≡◌, ℕ, ◌<◌, ◌≤◌, true, IsTrue, List, map, Option, Some, None, Contains}
use Rattle.scrib_types.specs.Names.{is_name}
use Rattle.scrib_types.specs.declared.profile.Profile.{Profile}
use Rattle.scrib_tree.specs.declared.tree.ModuleTree.{ModuleTree}
use Rattle.scrib_tree.specs.declared.tree.ProtocolDeclaration.{ProtocolDeclaration}
use Rattle.scrib_static_checks.specs.Names.{distinct_names, module_names}
use Rattle.scrib_record.specs.declared.version.Version.{Version}
use Rattle.scrib_record.specs.Versions.{meaning_of, number_of}
use Rattle.scrib_library.specs.declared.versions.NamedVersion.{NamedVersion}
use Rattle.scrib_library.specs.Modules.{Means, AreFew, AreImportsThere, AllProject}
use Rattle.scrib_library.specs.Holdings.{Stamp}
use Rattle.scrib_library.specs.Listed.{AreDeclaredNames}

-- the full names of the versions
abbrev pub version_names : List NamedVersion → List (List (List ℕ))
version_names vs = map (λ (v : NamedVersion). v.name) vs

-- the name and the number of each version
abbrev pub stamps_of : List NamedVersion → List Stamp
stamps_of vs = map (λ (v : NamedVersion). record { name = v.name; number = number_of v.version }) vs

-- the name has the version
abbrev pub HasVersion : List NamedVersion → List (List ℕ) → Version → Type 0
HasVersion vs name w = Contains vs (record { name = name; version = w })

-- some name has the version
abbrev pub IsStored : List NamedVersion → Version → Type 0
IsStored vs w = (name : List (List ℕ)) × HasVersion vs name w

-- the version of the name, if it has one
abbrev pub IsVersion : List NamedVersion → List (List ℕ) → Option Version → Type 0
IsVersion vs name None = (w : Version) → HasVersion vs name w → ⊥
IsVersion vs name (Some w) = HasVersion vs name w

-- a version for each name of a declared protocol
pub record AreVersions (modules : List ModuleTree) (versions : List NamedVersion) : Type 0 where
  pub listed : AreDeclaredNames modules (version_names versions)
  pub sound : (v : NamedVersion) → Contains versions v → Means modules v.name (meaning_of v.version)

-- each part of the dotted name is an identifier
abbrev pub AreNames : List (List ℕ) → Type 0
AreNames names = (n : List ℕ) → Contains names n → IsTrue (is_name n)

-- the parts of the module's name and the names of its protocols are identifiers
pub record IsSpelled (m : ModuleTree) : Type 0 where
  pub home : AreNames m.name
  pub protocols : (p : ProtocolDeclaration) → Contains m.protocols p → IsTrue (is_name p.name)

-- no two versions share a number, and each number is below the count of used versions
pub record AreCounted (versions : List NamedVersion) (used : ℕ) : Type 0 where
  pub below : (v : NamedVersion) → Contains versions v → number_of v.version < used
  pub once : (v w : NamedVersion) → Contains versions v → Contains versions w
      → number_of v.version ≡ number_of w.version → v.name ≡ w.name
  pub few : used ≤ 65536

-- few modules, of different names, whose imports exist, with a version of each protocol, all projecting under the
-- profile
pub record IsLibrary (profile : Profile) (modules : List ModuleTree) (versions : List NamedVersion)
    (used : ℕ) : Type 0 where
  pub few : AreFew modules
  pub distinct : distinct_names (module_names modules) ≡ true
  pub imports : AreImportsThere modules
  pub spelled : (m : ModuleTree) → Contains modules m → IsSpelled m
  pub stored : AreVersions modules versions
  pub projected : AllProject profile modules
  pub counted : AreCounted versions used
