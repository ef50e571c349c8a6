-- The event with which a log stops being permitted (this project's own).
use Rattle.std.specs.Prelude.{ℕ, ◌+◌, ◌<◌, ◌≤◌, List, length, take, Option, Some, None}
use Rattle.scrib_types.specs.declared.event.Event.{Event}
use Rattle.scrib_types.specs.Agreement.{Agreement}
use Rattle.scrib_types.specs.Permitted.{IsPermitted}

-- the events before the one at this index, from 0, are permitted, and with it they aren't
pub record Offends (a : Agreement) (log : List Event) (i : ℕ) : Type 0 where
  pub within : i < length log
  pub before : (n : ℕ) → n ≤ i → IsPermitted a (take n log)
  pub here : IsPermitted a (take (i + 1) log) → ⊥

-- the first such index, or that the log is permitted
abbrev pub FirstOffence : Agreement → List Event → Option ℕ → Type 0
FirstOffence a log None = IsPermitted a log
FirstOffence a log (Some i) = Offends a log i
