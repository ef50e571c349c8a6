use Rattle.std.proofs.Common.{refl}
use Rattle.scrib_held_labels.proofs.StageLemmas.{ends, fails_at_end}
use Rattle.scrib_held_labels.proofs.held_stage.HeldStage.end.Goals as goal

pub returns-in-Ok-clause-ok : goal.returns-in-Ok-clause-ok
returns-in-Ok-clause-ok c = ends c.args.self.now _ c.in-Ok.counts refl c.in-Ok.ensures.ok

pub returns-in-Err-clause-err : goal.returns-in-Err-clause-err
returns-in-Err-clause-err c = fails_at_end c.args.self.now _ c.in-Err.ensures.err
