use Rattle.std.proofs.Common.{length}
use Rattle.scrib_show.proofs.ReadingLemmas.{ConsumedFront}
use Rattle.scrib_show.proofs.show_run.ShowRun.take_piece.Given as goal

abbrev pub invariant-loop-rest : goal.invariant-loop-rest
invariant-loop-rest l = ConsumedFront l.fn.self l.self l.piece l.rest

abbrev pub decreases-loop-rest : goal.decreases-loop-rest
decreases-loop-rest l = length l.rest
