use Rattle.std.proofs.Common.{◌∙◌, ap, refl}
use Rattle.scrib_hold_labelled.specs.declared.line_sink.LineSink.{LineSink}
use Rattle.scrib_hold_labelled.specs.WaitingLines.{kept_at}
use Rattle.scrib_hold_labelled.proofs.StageLemmas.{taken_nothing}
use Rattle.scrib_hold_labelled.proofs.line_stage.LineStage.new.Goals as goal

pub returns-clause-taken : goal.returns-clause-taken
returns-clause-taken c =
    taken_nothing _ c.args.bound c.new-3.ensures.taken (λ n. ap (λ (s : LineSink). kept_at s.waiting n) c.new-3.ensures.sink ∙ c.new-2.ensures n) c.new.ensures c.new-4.ensures.items

pub returns-clause-bound : goal.returns-clause-bound
returns-clause-bound c = c.new-3.ensures.taken.at.so_far.staged.kept.bounded
