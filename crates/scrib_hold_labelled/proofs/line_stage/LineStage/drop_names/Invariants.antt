use Rattle.std.proofs.Common.{vec_len}
use Rattle.scrib_held_labels.specs.HeldRuns.{KeepsNames}
use Rattle.scrib_hold_labelled.specs.Stages.{HasGone, naming_of}
use Rattle.scrib_hold_labelled.proofs.StageLemmas.{IsRenamed}
use Rattle.scrib_hold_labelled.proofs.line_stage.LineStage.drop_names.Given as goal

abbrev pub invariant-loop-name : goal.invariant-loop-name
invariant-loop-name l = record { same : IsRenamed l.fn.self l.self; kept : KeepsNames (naming_of l.fn.self) (naming_of l.self) (HasGone l.fn.self) }

abbrev pub decreases-loop-name : goal.decreases-loop-name
decreases-loop-name l = vec_len l.self.held.sink.closed
