-- The plan of an edit of a module.
-- Only contracts of private functions cite this file.
use Rattle.std.specs.Prelude.{◌≡◌, ◌↔◌, ℕ, List, Option, Contains}
use Rattle.scrib_types.specs.Agreement.{Agreement}
use Rattle.scrib_types.specs.declared.profile.Profile.{Profile}
use Rattle.scrib_tree.specs.declared.tree.ModuleTree.{ModuleTree}
use Rattle.scrib_static_checks.specs.declared.modules.Placed.{Placed}
use Rattle.scrib_static_checks.specs.Placed.{IsModulePlaced}
use Rattle.scrib_library.specs.declared.plan.Plan.{Plan}
use Rattle.scrib_library.specs.declared.meanings.NamedMeaning.{NamedMeaning}
use Rattle.scrib_library.specs.declared.versions.NamedVersion.{NamedVersion}
use Rattle.scrib_library.specs.declared.fault.EditFault.{EditFault}
use Rattle.scrib_library.specs.Modules.{Means, IsMeaning, AreMeant}
use Rattle.scrib_library.specs.Listed.{AreInOrder}
use Rattle.scrib_library.specs.Edits.{HasRoom, ModuleFails}
use Rattle.scrib_library.specs.Stored.{IsSpelled, IsLibrary}
use Rattle.scrib_library.specs.Elaborated.{ProjectsUnder, meant, meaning_names}
use Rattle.scrib_library.specs.Drafts.{shown_changes, IsDraft}

-- the plan is a draft for these meanings, and lists its changes
pub record IsPlanFor (versions : List NamedVersion) (ys : List NamedMeaning) (used : ℕ) (name : List (List ℕ))
    (p : Plan) : Type 0 where
  pub draft : IsDraft versions ys used p.edits.items p.used
  pub module_name : p.changes.module ≡ name
  pub list : p.changes.list ≡ shown_changes p.edits.items

-- `ys` are the meanings of their names after an edit, and project under the profile. Every other name keeps its
-- meaning, and each declared protocol has one.
pub record IsCovered (profile : Profile) (before after : List ModuleTree) (ys : List NamedMeaning) : Type 0 where
  pub same : (n : List (List ℕ)) → (Contains (meaning_names ys) n → ⊥) → (a : Agreement)
      → Means before n a ↔ Means after n a
  pub means : (y : NamedMeaning) → Contains ys y → IsMeaning after y.name (meant y)
  pub projected : (y : NamedMeaning) → Contains ys y → ProjectsUnder profile (meant y)
  pub meant_all : AreMeant after

-- the meanings cover the put of the module, for every library of this profile
abbrev pub Covers : Profile → ModuleTree → (modules : List ModuleTree) → (gone : Option ModuleTree) → List NamedMeaning
    → Type 0
Covers profile m modules gone ys =
    (before : List ModuleTree) (placed : Placed) (versions : List NamedVersion) (used : ℕ)
    → IsModulePlaced m before modules placed → placed.replaced ≡ gone → IsLibrary profile before versions used
    → IsCovered profile before modules ys

-- The module has room. The plan is for the meanings that the put can have changed.
pub record IsPlan (profile : Profile) (m : ModuleTree) (modules : List ModuleTree) (gone : Option ModuleTree)
    (versions : List NamedVersion) (used : ℕ) (p : Plan) : Type 0 where
  pub room : HasRoom m modules
  pub meanings : List NamedMeaning
  pub sorted : AreInOrder (meaning_names meanings)
  pub covered : Covers profile m modules gone meanings
  pub planned : IsPlanFor versions meanings used m.name p

-- the reason why a protocol has no meaning or no projections after the put, for every library of this profile
abbrev pub StopsMeanings : Profile → ModuleTree → (modules : List ModuleTree) → (gone : Option ModuleTree) → EditFault
    → Type 0
StopsMeanings profile m modules gone f =
    (before : List ModuleTree) (placed : Placed) (versions : List NamedVersion) (used : ℕ)
    → IsModulePlaced m before modules placed → placed.replaced ≡ gone → IsLibrary profile before versions used
    → ModuleFails profile before used m modules f

-- the reason why the put of the module is refused, for every library of this profile
abbrev pub StopsPut : Profile → ModuleTree → (modules : List ModuleTree) → (gone : Option ModuleTree)
    → List NamedVersion → ℕ → EditFault → Type 0
StopsPut profile m modules gone versions used f =
    (before : List ModuleTree) (placed : Placed) → IsModulePlaced m before modules placed → placed.replaced ≡ gone
    → IsSpelled m → IsLibrary profile before versions used
    → ModuleFails profile before used m modules f
