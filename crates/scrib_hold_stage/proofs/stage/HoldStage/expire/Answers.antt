use Rattle.std.proofs.Common.{refl}
use Rattle.scrib_hold_stage.specs.Stages.{stage_state}
use Rattle.scrib_hold_stage.proofs.StepLemmas.{expiring_none, expiring_join}
use Rattle.scrib_hold_stage.proofs.stage.HoldStage.expire.Goals as goal

pub loop-init : goal.loop-init
loop-init g c = expiring_none g.A.Arrival.event c.args.due (stage_state c.args.self.now) (stage_state c.args.self.now) c.args.released.now.items refl

pub loop-preserved : goal.loop-preserved
loop-preserved g c =
    expiring_join g.A.Arrival.event c.args.due (stage_state c.args.self.now) (stage_state c.loop.self) (stage_state c.pass_deadline.new.self)
    c.args.released.now.items c.loop.released.items c.pass_deadline.new.released.items c.loop.invariant (c.in_ok-pass_deadline.ensures.passed c.if-branch.true)
