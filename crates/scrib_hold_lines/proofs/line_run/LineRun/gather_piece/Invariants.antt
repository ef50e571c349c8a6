use Rattle.std.proofs.Common.{length}
use Rattle.scrib_hold_lines.specs.Placement.{IsReaderPlaced}
use Rattle.scrib_hold_lines.proofs.RunLemmas.{ConsumedFront}
use Rattle.scrib_hold_lines.proofs.line_run.LineRun.gather_piece.Given as goal

abbrev pub invariant-loop-rest : goal.invariant-loop-rest
invariant-loop-rest l = record { consumed : ConsumedFront l.fn.self l.self l.piece l.rest; placed : IsReaderPlaced l.self.reader }

abbrev pub decreases-loop-rest : goal.decreases-loop-rest
decreases-loop-rest l = length l.rest
