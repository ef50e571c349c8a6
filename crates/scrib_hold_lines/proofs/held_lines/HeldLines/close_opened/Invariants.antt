use Rattle.std.proofs.Common.{length}
use Rattle.scrib_hold_stage.specs.PendingClosings.{closings_in}
use Rattle.scrib_hold_lines.proofs.ClosingLemmas.{IsForcing}
use Rattle.scrib_hold_lines.proofs.held_lines.HeldLines.close_opened.Given as goal

abbrev pub invariant-loop : goal.invariant-loop
invariant-loop l = IsForcing l.id l.initial.self l.self

abbrev pub decreases-loop : goal.decreases-loop
decreases-loop l = length (closings_in l.self.pending)
