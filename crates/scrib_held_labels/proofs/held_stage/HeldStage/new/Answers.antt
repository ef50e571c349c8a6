use Rattle.std.proofs.Common.{◌∙◌, ap}
use Rattle.scrib_held_labels.specs.declared.labelled_sink.LabelledSink.{LabelledSink}
use Rattle.scrib_held_labels.specs.Sinks.{state_of}
use Rattle.scrib_held_labels.specs.WaitingLabels.{kept_at}
use Rattle.scrib_held_labels.proofs.StageLemmas.{taken_nothing}
use Rattle.scrib_held_labels.proofs.held_stage.HeldStage.new.Goals as goal

pub returns-clause-taken : goal.returns-clause-taken
returns-clause-taken c =
    taken_nothing _ c.args.bound c.new-3.ensures.taken (λ n. ap (λ (s : LabelledSink). kept_at s.waiting n) c.new-3.ensures.sink ∙ c.new-2.ensures.labels n) c.new.ensures (ap state_of c.new-3.ensures.sink ∙ c.new-2.ensures.state)

pub returns-clause-bound : goal.returns-clause-bound
returns-clause-bound c = c.new-3.ensures.taken.at.so_far.staged.kept.bounded
