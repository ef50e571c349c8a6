use Rattle.std.proofs.Common.{List}
use Rattle.scrib_types.specs.declared.event.Event.{Event}
use Rattle.scrib_record.specs.Configurations.{LeadsTo}
use Rattle.scrib_record.specs.Judgings.{Runs}
use Rattle.scrib_record.specs.Versions.{meaning_of}
use Rattle.scrib_record.proofs.judging.perform.Given as goal

abbrev pub invariant-loop-i : goal.invariant-loop-i
invariant-loop-i l =
    (log : List Event) → LeadsTo (meaning_of l.version) l.version.machines log l.fn.configuration → Runs l.version log l.events l.configuration l.i
