use Rattle.scrib_hold.proofs.InputLemmas.{HasReadAll}
use Rattle.scrib_hold.proofs.run_held_script.run_by_pieces.Given as goal

abbrev pub invariant-loop : goal.invariant-loop
invariant-loop g l =
    HasReadAll l.fn.run.monitor.sink.format l.fn.run.monitor.stage.bound l.fn.run.script.limits l.run (g.R.Read.remaining l.fn.reader) (g.R.Read.remaining l.reader) (g.W.Write.contents l.fn.writer) (g.W.Write.contents l.writer)
