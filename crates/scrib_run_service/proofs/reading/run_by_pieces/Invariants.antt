use Rattle.scrib_run_service.proofs.ScriptLemmas.{Reached}
use Rattle.scrib_run_service.proofs.reading.run_by_pieces.Given as goal

abbrev pub invariant-loop : goal.invariant-loop
invariant-loop g l = Reached l.fn.connection l.connection l.script (g.R.Read.remaining l.fn.reader) (g.R.Read.remaining l.reader)
