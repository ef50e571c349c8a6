-- What the results of projection mean.
use Rattle.std.specs.Prelude.{◌≡◌, ◌≢◌, ℕ, true, List, [], ◌∷◌, slice_get, Option, Some, None, is_some, Result, Ok, Err, if◌then◌else◌}
use Rattle.scrib_types.specs.declared.local.Local.{Local}
use Rattle.scrib_types.specs.declared.profile.Profile.{Profile}
use Rattle.scrib_types.specs.declared.protocol.Protocol.{Protocol}
use Rattle.scrib_types.specs.Agreement.{Agreement}
use Rattle.scrib_types.specs.Meaning.{agreement_of}
use Rattle.scrib_types.specs.Trees.{GlobalTree, Comm, GlobalBranches}
use Rattle.scrib_types.specs.LocalView.{local_of}
use Rattle.scrib_types.specs.Projection.{projection, branch_projections}
use Rattle.scrib_tree.specs.declared.tree.ModuleTree.{ModuleTree}
use Rattle.scrib_elaborate.specs.declared.elaborated.ChoiceSite.{ChoiceSite}
use Rattle.scrib_static_checks.specs.Names.{Declaration, find_protocol}
use Rattle.scrib_static_checks.specs.Elaboration.{start_of}
use Rattle.scrib_elaborate.specs.Sites.{several, IsSite}
use Rattle.scrib_project.specs.declared.projected.ProjectedProtocol.{ProjectedProtocol}
use Rattle.scrib_project.specs.declared.fault.Unmergeable.{Unmergeable}
use Rattle.scrib_project.specs.declared.fault.ProjectFault.{ProjectFault}
use Rattle.scrib_project.specs.declared.fault.ProjectFault.TheVariants as fault
use Rattle.scrib_projection.specs.Differences.{first_difference, differ}

-- under the profile there is no projection on the role, and the branches of some choice don't merge for it
pub record IsUnmergeable (profile : Profile) (g : GlobalTree) (r : List ℕ) (u : Unmergeable) : Type 0 where
  pub role : u.role ≡ r
  pub undefined : projection profile r g ≡ None
  pub first : ℕ
  pub differs : first_difference profile r g ≡ Some first

-- the position is that of the site that has the number of the first difference, if there is such a site
abbrev pub IsAtSite : Profile → List ChoiceSite → GlobalTree → Unmergeable → Type 0
IsAtSite profile sites g u =
    (k : ℕ) (j : ChoiceSite) → first_difference profile u.role g ≡ Some k → slice_get sites k ≡ Some j
    → (u.module ≡ j.module) × (u.spot ≡ j.spot)

-- the projection, or that there is none, or memory was refused
abbrev pub Projects : Profile → GlobalTree → List ℕ → Result Local ProjectFault → Type 0
Projects profile g r (Ok l) = projection profile r g ≡ Some (local_of l)
Projects profile g r (Err (fault.Unmergeable u)) = IsUnmergeable profile g r u
Projects profile g r (Err fault.OutOfMemory) = Unit {0}

-- the same of the position
abbrev pub IsOfSite : Profile → List ChoiceSite → GlobalTree → ProjectFault → Type 0
IsOfSite profile sites g (fault.Unmergeable u) = IsAtSite profile sites g u
IsOfSite profile sites g fault.OutOfMemory = Unit {0}

-- The position is that of a choice from whose type that of this protocol, in this module, is built. The choice's own
-- type is the communication of the first difference. It is between two other roles, and its branches all have a
-- projection on the role, and do not merge.
pub record IsPlaced (profile : Profile) (modules : List ModuleTree) (home : List (List ℕ)) (name : List ℕ)
    (g : GlobalTree) (u : Unmergeable) : Type 0 where
  pub root : Declaration
  pub there : find_protocol modules home name ≡ Some root
  pub first : ℕ
  pub differs : first_difference profile u.role g ≡ Some first
  pub depth : ℕ
  pub sender : List ℕ
  pub receiver : List ℕ
  pub branches : GlobalBranches
  pub is : slice_get (several g) first ≡ Some (depth, Comm sender receiver branches)
  pub site : IsSite modules 0 (start_of root) u.module u.spot depth (Comm sender receiver branches)
  pub not_sender : u.role ≢ sender
  pub not_receiver : u.role ≢ receiver
  pub apart : differ profile (branch_projections profile u.role branches) ≡ true

-- the same of a fault, or memory was refused
abbrev pub IsFaultPlaced : Profile → List ModuleTree → (home : List (List ℕ)) (name : List ℕ) → GlobalTree
    → ProjectFault → Type 0
IsFaultPlaced profile modules home name g (fault.Unmergeable u) = IsPlaced profile modules home name g u
IsFaultPlaced profile modules home name g fault.OutOfMemory = Unit {0}

-- the first of these roles that has no projection
abbrev pub first_without : Profile → GlobalTree → List (List ℕ) → Option (List ℕ)
first_without profile g [] = None
first_without profile g (r ∷ rs) = if is_some (projection profile r g) then first_without profile g rs else Some r

-- the protocol that means this, or the first role without a projection, or memory was refused
abbrev pub Agrees : Profile → Agreement → Result Protocol ProjectFault → Type 0
Agrees profile a (Ok p) = (agreement_of p ≡ a) × (first_without profile a.global a.roles ≡ None)
Agrees profile a (Err (fault.Unmergeable u)) =
    (first_without profile a.global a.roles ≡ Some u.role) × IsUnmergeable profile a.global u.role u
Agrees profile a (Err fault.OutOfMemory) = Unit {0}

-- the same of a protocol with its projections
abbrev pub AgreesWithProjections : Profile → Agreement → Result ProjectedProtocol ProjectFault → Type 0
AgreesWithProjections profile a (Ok p) = Agrees profile a (Ok p.protocol)
AgreesWithProjections profile a (Err f) = Agrees profile a (Err f)

-- the fault has this role and the position of the site, if there is a site
pub record IsFaultOf (r : List ℕ) (site : Option ChoiceSite) (u : Unmergeable) : Type 0 where
  pub role : u.role ≡ r
  pub place : (j : ChoiceSite) → site ≡ Some j → (u.module ≡ j.module) × (u.spot ≡ j.spot)
