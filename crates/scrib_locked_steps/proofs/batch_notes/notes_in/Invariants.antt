use Rattle.std.proofs.Common.{◌≡◌, take}
use Rattle.std.specs.List.{sum_by}
use Rattle.scrib_locked_steps.specs.Passing.{added_notes}
use Rattle.scrib_locked_steps.proofs.batch_notes.notes_in.Given as goal

abbrev pub invariant-loop-answer : goal.invariant-loop-answer
invariant-loop-answer l = l.notes ≡ sum_by added_notes (take l.answer-index l.answers)
