-- The first offence of a log, with its event and the reason (this project's own).
use Rattle.std.specs.Prelude.{◌≡◌, ℕ, List, take, slice_get, Some}
use Rattle.scrib_types.specs.declared.event.Event.{Event}
use Rattle.scrib_types.specs.Agreement.{Agreement}
use Rattle.scrib_global.specs.Offences.{Offends}
use Rattle.scrib_reasons.specs.declared.reason.Reason.{Reason}
use Rattle.scrib_reasons.specs.Reasons.{IsBecause}

-- the event at the index, from 0, is the first that may not follow, for this reason
pub record IsOffence (a : Agreement) (log : List Event) (i : ℕ) (e : Event) (reason : Reason) : Type 0 where
  pub first : Offends a log i
  pub at : slice_get log i ≡ Some e
  pub because : IsBecause a (take i log) e reason
