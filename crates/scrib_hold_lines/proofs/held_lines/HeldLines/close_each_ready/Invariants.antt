use Rattle.std.proofs.Common.{length}
use Rattle.scrib_hold_stage.specs.PendingClosings.{closings_in}
use Rattle.scrib_hold_lines.proofs.ClosingLemmas.{IsClosing}
use Rattle.scrib_hold_lines.proofs.held_lines.HeldLines.close_each_ready.Given as goal

abbrev pub invariant-loop : goal.invariant-loop
invariant-loop l = IsClosing l.initial.self l.self

abbrev pub decreases-loop : goal.decreases-loop
decreases-loop l = length (closings_in l.self.pending)
