-- Complete logs: each role is at its end, and nothing is in flight (the final configurations of Deniélou and Yoshida,
-- ICALP 2013; as a property of logs this project's own).
use Rattle.std.specs.Prelude.{◌≡◌, ℕ, true, List, [], ◌∷◌, ◌++◌, Some}
use Rattle.scrib_types.specs.declared.event.Action.{Action}
use Rattle.scrib_types.specs.declared.event.Event.{Event}
use Rattle.scrib_types.specs.Trees.{LocalTree}
use Rattle.scrib_types.specs.Projection.{projection, widest}
use Rattle.scrib_types.specs.WellFormed.{has_role}
use Rattle.scrib_types.specs.Agreement.{Agreement}
use Rattle.scrib_types.specs.Permitted.{IsPermitted}
use Rattle.scrib_types.specs.Logs.{own_actions}
use Rattle.scrib_types.specs.Queues.{flights}
use Rattle.scrib_types.specs.Traces.{IsTrace}

-- after the role's own actions its projection has no further action
abbrev pub HasEnded : Agreement → List Event → List ℕ → Type 0
HasEnded a log r =
    (l : LocalTree) → projection widest r a.global ≡ Some l
    → (act : Action) → IsTrace l (own_actions r log ++ act ∷ []) → ⊥

-- permitted, each declared role is at its end, and nothing is in flight
pub record IsComplete (a : Agreement) (log : List Event) : Type 0 where
  pub permitted : IsPermitted a log
  pub ended : (r : List ℕ) → has_role r a.roles ≡ true → HasEnded a log r
  pub empty : (p q : List ℕ) → flights p q log ≡ []
