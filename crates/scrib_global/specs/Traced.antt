-- The actions of roles as traces of their projections (this project's own).
-- Only contracts of private functions cite this file.
use Rattle.std.specs.Prelude.{◌≡◌, ℕ, true, List, Some}
use Rattle.scrib_types.specs.declared.event.Event.{Event}
use Rattle.scrib_types.specs.Trees.{GlobalTree, LocalTree}
use Rattle.scrib_types.specs.Projection.{projection, widest}
use Rattle.scrib_types.specs.WellFormed.{has_role}
use Rattle.scrib_types.specs.Logs.{own_actions}
use Rattle.scrib_types.specs.Traces.{IsTrace}

-- the role has a projection, and its own actions are a trace of it
abbrev pub IsTraced : GlobalTree → List Event → List ℕ → Type 0
IsTraced g log r = (l : LocalTree) × (projection widest r g ≡ Some l) × IsTrace l (own_actions r log)

-- the same of each of the roles
abbrev pub AllTraced : GlobalTree → List Event → List (List ℕ) → Type 0
AllTraced g log roles = (r : List ℕ) → has_role r roles ≡ true → IsTraced g log r
