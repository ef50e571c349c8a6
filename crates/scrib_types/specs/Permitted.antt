-- When a protocol permits a log (this project's own). The definition has no state: it filters the whole log by role and
-- compares lists of messages.
use Rattle.std.specs.Prelude.{◌≡◌, ℕ, true, List, Some}
use Rattle.std.specs.List.{AllByRecursion}
use Rattle.scrib_types.specs.declared.event.Event.{Event}
use Rattle.scrib_types.specs.Trees.{LocalTree}
use Rattle.scrib_types.specs.Projection.{projection, widest}
use Rattle.scrib_types.specs.WellFormed.{has_role}
use Rattle.scrib_types.specs.Agreement.{Agreement}
use Rattle.scrib_types.specs.Logs.{subject_of, own_actions, AllJoined}
use Rattle.scrib_types.specs.Queues.{IsQueued}
use Rattle.scrib_types.specs.Traces.{IsTrace}

-- the protocol permits the log
pub record IsPermitted (a : Agreement) (log : List Event) : Type 0 where
  -- each role that acts joined beforehand
  pub joined : AllJoined a.roles log
  -- each event is of a declared role
  pub declared : AllByRecursion (λ e. has_role (subject_of e) a.roles ≡ true) log
  -- what each role did is a trace of its projection
  pub traces : (r : List ℕ) → has_role r a.roles ≡ true
      → (l : LocalTree) × (projection widest r a.global ≡ Some l) × IsTrace l (own_actions r log)
  -- each message was received from the front of its queue
  pub queued : IsQueued log
