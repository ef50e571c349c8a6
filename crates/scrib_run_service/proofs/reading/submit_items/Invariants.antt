use Rattle.std.proofs.Common.{length}
use Rattle.scrib_run_service.proofs.ScriptLemmas.{Submitted}
use Rattle.scrib_run_service.proofs.reading.submit_items.Given as goal

abbrev pub invariant-loop-rest : goal.invariant-loop-rest
invariant-loop-rest g l = Submitted l.fn.connection l.connection l.fn.script l.script l.piece l.rest

abbrev pub decreases-loop-rest : goal.decreases-loop-rest
decreases-loop-rest g l = length l.rest
