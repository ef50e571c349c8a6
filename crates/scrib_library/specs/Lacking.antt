-- Which stored versions project under a profile.
-- Only contracts of private functions cite this file.
use Rattle.std.specs.Prelude.{◌≡◌, ◌≢◌, ℕ, Bool, true, false, List, Option, Some, None, Contains}
use Rattle.std.specs.declared.cmp.Ordering.TheVariants.{Greater}
use Rattle.scrib_types.specs.declared.profile.Profile.{Profile}
use Rattle.scrib_types.specs.declared.profile.Profile.TheVariants.{Plain, Reception}
use Rattle.scrib_types.specs.WellFormed.{projects}
use Rattle.scrib_record.specs.Versions.{meaning_of}
use Rattle.scrib_library.specs.declared.versions.NamedVersion.{NamedVersion}
use Rattle.scrib_library.specs.declared.fault.EditFault.{EditFault}
use Rattle.scrib_library.specs.declared.fault.EditFault.TheVariants as edit
use Rattle.scrib_library.specs.Listed.{name_cmp}

-- the version's type projects on each of its roles under the profile
abbrev pub version_projects : Profile → NamedVersion → Bool
version_projects profile v = projects profile (meaning_of v.version).global (meaning_of v.version).roles

-- each version projects on each of its roles under the profile
abbrev pub AllVersionsProject : Profile → List NamedVersion → Type 0
AllVersionsProject profile versions = (v : NamedVersion) → Contains versions v → version_projects profile v ≡ true

-- the first name, in the order of names, of a version that does not project
pub record IsFirstLacking (profile : Profile) (versions : List NamedVersion) (name : List (List ℕ)) : Type 0 where
  pub lacking : NamedVersion
  pub there : Contains versions lacking
  pub named : lacking.name ≡ name
  pub lacks : version_projects profile lacking ≡ false
  pub first : (v : NamedVersion) → Contains versions v → version_projects profile v ≡ false
      → name_cmp name v.name ≢ Greater

-- the first such name, or none if no name is such
abbrev pub IsFirstLackingOrNone : Profile → List NamedVersion → Option (List (List ℕ)) → Type 0
IsFirstLackingOrNone profile versions None = AllVersionsProject profile versions
IsFirstLackingOrNone profile versions (Some name) = IsFirstLacking profile versions name

-- why the wanted profile cannot replace the held one
abbrev pub StopsChange : (held wanted : Profile) → List NamedVersion → EditFault → Type 0
StopsChange held wanted versions (edit.NeedsReception name) = IsFirstLacking wanted versions name
StopsChange held wanted versions edit.OutOfMemory = (held ≡ Reception) × (wanted ≡ Plain)
StopsChange held wanted versions other = ⊥
