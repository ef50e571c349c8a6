use Rattle.std.proofs.Common.{vec_len}
use Rattle.scrib_held_labels.specs.HeldRuns.{KeepsNames}
use Rattle.scrib_held_labels.specs.Stages.{HasGone, naming_of}
use Rattle.scrib_held_labels.proofs.StageLemmas.{IsRenamed}
use Rattle.scrib_held_labels.proofs.held_stage.HeldStage.drop_names.Given as goal

abbrev pub invariant-loop-session : goal.invariant-loop-session
invariant-loop-session l = record { same : IsRenamed l.fn.self l.self; kept : KeepsNames (naming_of l.fn.self) (naming_of l.self) (HasGone l.fn.self) }

abbrev pub decreases-loop-session : goal.decreases-loop-session
decreases-loop-session l = vec_len l.self.held.sink.met
