use Rattle.scrib_closing.proofs.InputLemmas.{HasReadAll}
use Rattle.scrib_closing.proofs.run_closing_script.run_by_pieces.Given as goal

abbrev pub invariant-loop : goal.invariant-loop
invariant-loop g l =
    HasReadAll l.fn.run.monitor.format l.fn.run.script.limits l.run (g.R.Read.remaining l.fn.reader) (g.R.Read.remaining l.reader) (g.W.Write.contents l.fn.writer) (g.W.Write.contents l.writer)
