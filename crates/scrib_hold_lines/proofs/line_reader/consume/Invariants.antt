use Rattle.std.proofs.Common.{length}
use Rattle.scrib_hold_lines.proofs.Placements.{ConsumedFront}
use Rattle.scrib_hold_lines.proofs.line_reader.consume.Given as goal

abbrev pub invariant-loop-rest : goal.invariant-loop-rest
invariant-loop-rest l = ConsumedFront l.fn.script l.script l.bytes l.rest

abbrev pub decreases-loop-rest : goal.decreases-loop-rest
decreases-loop-rest l = length l.rest
