use Rattle.std.proofs.Common.{refl}
use Rattle.scrib_hold_stage.specs.Stages.{stage_state}
use Rattle.scrib_hold_stage.proofs.TakeLemmas.{one_taken, none_taken}
use Rattle.scrib_hold_stage.proofs.stage.HoldStage.take_deadline.Goals as goal

pub returns-then-branch-clause-taken : goal.returns-then-branch-clause-taken
returns-then-branch-clause-taken g c = λ y.
    one_taken g.A.Arrival.event c.args.conversation (stage_state c.args.self.now) _ c.in-Some.deadline c.in-Some.ensures.some refl refl refl
    c.args.released.now.items c.release_at.new.released.items (c.in_ok-release_at.ensures.expired c.if-branch.true) c.saturating_add-self.ensures

pub returns-else-branch-clause-taken : goal.returns-else-branch-clause-taken
returns-else-branch-clause-taken g c = λ y.
    none_taken g.A.Arrival.event c.args.conversation (stage_state c.args.self.now) _ c.in-Some.deadline c.in-Some.ensures.some refl refl refl
    c.args.released.now.items c.release_at.new.released.items (c.in_ok-release_at.ensures.unreleased c.if-branch.false) refl
    (c.in_ok-release_at.ensures.none c.if-branch.false) (c.in_ok-release_at.ensures.unchanged c.if-branch.false)
