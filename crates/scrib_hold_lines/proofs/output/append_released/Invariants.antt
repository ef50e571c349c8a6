use Rattle.std.proofs.Common.{vec_len}
use Rattle.scrib_hold_lines.proofs.Passings.{ReleasedSoFar}
use Rattle.scrib_hold_lines.proofs.output.append_released.Given as goal

abbrev pub invariant-loop-noted : goal.invariant-loop-noted
invariant-loop-noted l = ReleasedSoFar l.fn.released.items l.released.items l.fn.output.items l.output.items

abbrev pub decreases-loop-noted : goal.decreases-loop-noted
decreases-loop-noted l = vec_len l.released
