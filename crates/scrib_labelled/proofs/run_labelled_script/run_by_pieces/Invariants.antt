use Rattle.scrib_labelled.proofs.InputLemmas.{HasReadAll}
use Rattle.scrib_labelled.specs.Readings.{beginning}
use Rattle.scrib_labelled.proofs.run_labelled_script.run_by_pieces.Given as goal

abbrev pub invariant-loop : goal.invariant-loop
invariant-loop g l =
    HasReadAll g.S.EntryStage.Took (beginning l.fn.run) l.run (g.R.Read.remaining l.fn.reader) (g.R.Read.remaining l.reader) (g.W.Write.contents l.fn.writer) (g.W.Write.contents l.writer)
