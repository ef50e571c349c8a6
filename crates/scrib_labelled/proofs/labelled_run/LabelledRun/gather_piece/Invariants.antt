use Rattle.std.proofs.Common.{length}
use Rattle.scrib_labelled.proofs.PieceLemmas.{ConsumedFront}
use Rattle.scrib_labelled.proofs.labelled_run.LabelledRun.gather_piece.Given as goal

abbrev pub invariant-loop-rest : goal.invariant-loop-rest
invariant-loop-rest g l = ConsumedFront g.S.EntryStage.Took g.S.EntryStage.gathered l.fn.self l.self l.piece l.rest (g.W.Write.contents l.fn.writer) (g.W.Write.contents l.writer)

abbrev pub decreases-loop-rest : goal.decreases-loop-rest
decreases-loop-rest g l = length l.rest
