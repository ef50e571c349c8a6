-- A change of the profile, and when it is refused (this project's own).
use Rattle.std.specs.Prelude.{◌≡◌, ◌≢◌, ℕ, false, List}
use Rattle.std.specs.Ordering.{nat_cmp}
use Rattle.std.specs.declared.cmp.Ordering.TheVariants.{Greater}
use Rattle.std.specs.Cmp.Lexicographic.{slice_cmp}
use Rattle.scrib_types.specs.declared.profile.Profile.{Profile}
use Rattle.scrib_types.specs.declared.profile.Profile.TheVariants.{Plain, Reception}
use Rattle.scrib_types.specs.Agreement.{Agreement}
use Rattle.scrib_types.specs.Texts.{dotted_text}
use Rattle.scrib_types.specs.WellFormed.{projects}
use Rattle.scrib_tree.specs.declared.tree.ModuleTree.{ModuleTree}
use Rattle.scrib_library.specs.declared.fault.EditFault.{EditFault}
use Rattle.scrib_library.specs.declared.fault.EditFault.TheVariants as edit
use Rattle.scrib_library.specs.Modules.{Means}

-- the meaning of the name does not project on some role under the profile
abbrev pub LacksProjection : Profile → List ModuleTree → List (List ℕ) → Type 0
LacksProjection profile modules name =
    (a : Agreement) × Means modules name a × (projects profile a.global a.roles ≡ false)

-- the least such name in byte order
pub record IsLeastLacking (profile : Profile) (modules : List ModuleTree) (name : List (List ℕ)) : Type 0 where
  pub lacks : LacksProjection profile modules name
  pub least : (other : List (List ℕ)) → LacksProjection profile modules other
      → slice_cmp nat_cmp (dotted_text name) (dotted_text other) ≢ Greater

-- The change from the held profile to the wanted one is refused. Either the wanted one does not project this name's
-- meaning, and the name is the least such. Or memory was refused, which needs the plain profile to replace the
-- reception profile.
abbrev pub ProfileFails : (held wanted : Profile) → List ModuleTree → EditFault → Type 0
ProfileFails held wanted modules (edit.NeedsReception name) = IsLeastLacking wanted modules name
ProfileFails held wanted modules edit.OutOfMemory = (held ≡ Reception) × (wanted ≡ Plain)
ProfileFails held wanted modules _ = ⊥
