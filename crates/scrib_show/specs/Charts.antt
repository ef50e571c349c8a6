-- A conversation that is shown as a sequence diagram (this project's own).
use Rattle.std.specs.Prelude.{ℕ, ◌+◌, Bool, true, false, List, ◌++◌, length, take, Option, Some, None, codes}
use Rattle.scrib_types.specs.declared.event.Event.{Event}
use Rattle.scrib_types.specs.Agreement.{Agreement}
use Rattle.scrib_global.specs.declared.explain.Flight.{Flight}
use Rattle.scrib_global.specs.Explained.{IsExplained}
use Rattle.scrib_reasons.specs.declared.reason.Reason.{Reason}
use Rattle.scrib_cli.specs.Explanations.{refusal_line}
use Rattle.scrib_show.specs.ChartLines.{chart_text, offence_note}
use Rattle.scrib_show.specs.Offence.{IsOffence}

-- The diagram of a log whose protocol has this meaning, if it has one, and whether there is a diagram. After an offence
-- it is that of the events before it, with a note of the offence at its end.
pub data IsChart (log : List Event) : Option Agreement → Bool → List ℕ → Type 0 where
  unknown : IsChart log None false (refusal_line (codes "UnknownProtocol"))
  charts : (a : Agreement) (flights : List Flight) → IsExplained a log flights
      → IsChart log (Some a) true (chart_text a.roles log flights)
  charts_offence : (a : Agreement) (flights : List Flight) (i : ℕ) (e : Event) (reason : Reason)
      → IsOffence a log i e reason → IsExplained a (take i log) flights
      → IsChart log (Some a) true
      (chart_text a.roles (take i log) flights ++ offence_note (length a.roles) (i + 1) e reason)
