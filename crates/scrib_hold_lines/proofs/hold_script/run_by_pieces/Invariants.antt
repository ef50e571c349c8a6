use Rattle.scrib_hold_lines.proofs.InputLemmas.{HasReadAll}
use Rattle.scrib_hold_lines.proofs.hold_script.run_by_pieces.Given as goal

abbrev pub invariant-loop : goal.invariant-loop
invariant-loop g l =
    HasReadAll l.fn.run.reader.script.limits l.fn.run.lines.stage.bound l.run (g.R.Read.remaining l.fn.reader) (g.R.Read.remaining l.reader) (g.W.Write.contents l.fn.writer) (g.W.Write.contents l.writer)
