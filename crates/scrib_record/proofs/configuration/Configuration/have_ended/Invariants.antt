use Rattle.std.proofs.Common.{List}
use Rattle.scrib_types.specs.declared.event.Event.{Event}
use Rattle.scrib_record.specs.Configurations.{LeadsTo}
use Rattle.scrib_record.specs.Versions.{meaning_of}
use Rattle.scrib_record.proofs.CompleteLogLemmas.{EndedSoFar}
use Rattle.scrib_record.proofs.configuration.Configuration.have_ended.Given as goal

abbrev pub invariant-loop-place : goal.invariant-loop-place
invariant-loop-place l = (log : List Event) → LeadsTo (meaning_of l.version) l.version.machines log l.self → EndedSoFar (meaning_of l.version) log l.place
