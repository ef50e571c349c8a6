use Rattle.scrib_record.specs.Versions.{meaning_of}
use Rattle.scrib_record.proofs.NumberingSteps.{AreNumbered}
use Rattle.scrib_record.proofs.numbering.number_machines.Given as goal

abbrev pub invariant-loop-place : goal.invariant-loop-place
invariant-loop-place l = AreNumbered (meaning_of l.version).roles l.version.machines l.exchanges l.all.items l.place
