use Rattle.std.proofs.Common.{◌≡◌, replicate}
use Rattle.scrib_record.proofs.StartLemmas.{unmoved}
use Rattle.scrib_record.proofs.configuration.Configuration.start.Given as goal

abbrev pub invariant-loop-machine : goal.invariant-loop-machine
invariant-loop-machine l = l.role_states.items ≡ replicate l.machine-index unmoved
