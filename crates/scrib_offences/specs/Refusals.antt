-- Events that may not follow a log, and their explanations. Only contracts of private functions cite this file.
use Rattle.std.specs.Prelude.{List, [], ◌∷◌, ◌++◌}
use Rattle.scrib_types.specs.declared.event.Event.{Event}
use Rattle.scrib_types.specs.Agreement.{Agreement}
use Rattle.scrib_types.specs.Permitted.{IsPermitted}
use Rattle.scrib_record.specs.declared.configuration.Configuration.{Configuration}
use Rattle.scrib_record.specs.declared.version.Version.{Version}
use Rattle.scrib_record.specs.Configurations.{LeadsTo}
use Rattle.scrib_record.specs.Versions.{meaning_of}
use Rattle.scrib_reasons.specs.declared.reason.Reason.{Reason}
use Rattle.scrib_reasons.specs.Reasons.{MayNotFollow}
use Rattle.scrib_offences.specs.declared.explained_offence.Situation.{Situation}
use Rattle.scrib_offences.specs.ExplainedOffences.{IsSituation}

-- the log is permitted and leads to the configuration, and the event may not follow it
pub record IsRefusedAfter (v : Version) (c : Configuration) (e : Event) (log : List Event) : Type 0 where
  pub leads : LeadsTo (meaning_of v) v.machines log c
  pub permitted : IsPermitted (meaning_of v) log
  pub refused : IsPermitted (meaning_of v) (log ++ e ∷ []) → ⊥

-- the event may not follow the log, for this reason and in this situation
pub record IsExplanation (a : Agreement) (log : List Event) (e : Event) (r : Reason) (s : Situation) : Type 0 where
  pub because : MayNotFollow a log e r
  pub situation : IsSituation a log e r s
