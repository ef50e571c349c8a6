use Rattle.std.proofs.Common.{refl, ap}
use Rattle.std.proofs.lemmas.Result.{on_ok_weaker}
use Rattle.scrib_hold_stage.specs.Stages.{stage_state}
use Rattle.scrib_hold_stage.proofs.TakeLemmas.{taken_opening}
use Rattle.scrib_hold_stage.proofs.stage.HoldStage.take_opening.Goals as goal

pub returns-clause-ok : goal.returns-clause-ok
returns-clause-ok g c =
    on_ok_weaker c.open.result
    (λ p. taken_opening g.A.Arrival.event c.args.conversation (stage_state c.args.self.now) (stage_state c.begin_other.new.self) _ c.args.released.now.items c.open.new.released.items
    (ap stage_state c.in_ok-begin_other.ensures.ok) c.in_ok-begin_other.ensures.fits p refl refl refl refl refl)
    c.open.ensures.ok
