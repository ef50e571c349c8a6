use Rattle.std.proofs.Common.{refl}
use Rattle.scrib_hold_stage.specs.Stages.{stage_state}
use Rattle.scrib_hold_stage.proofs.TakeLemmas.{one_expired, none_expired}
use Rattle.scrib_hold_stage.proofs.stage.HoldStage.pass_deadline.Goals as goal

pub returns-then-branch-clause-passed : goal.returns-then-branch-clause-passed
returns-then-branch-clause-passed g c = λ y.
    one_expired g.A.Arrival.event c.args.due (stage_state c.args.self.now) _ c.in-Some.deadline c.in-Some.ensures.some c.in-Some.ensures.passed refl refl refl
    c.args.released.now.items c.release_at.new.released.items (c.in_ok-release_at.ensures.expired c.if-branch.true) c.saturating_add-self.ensures

pub returns-else-branch-clause-passed : goal.returns-else-branch-clause-passed
returns-else-branch-clause-passed g c = λ y.
    none_expired g.A.Arrival.event c.args.due (stage_state c.args.self.now) _ c.in-Some.deadline c.in-Some.ensures.some c.in-Some.ensures.passed refl refl refl
    c.args.released.now.items c.release_at.new.released.items (c.in_ok-release_at.ensures.unreleased c.if-branch.false) refl
    (c.in_ok-release_at.ensures.none c.if-branch.false) (c.in_ok-release_at.ensures.unchanged c.if-branch.false)
