use Rattle.std.proofs.Common.{refl}
use Rattle.scrib_hold_stage.specs.Stages.{stage_state}
use Rattle.scrib_hold_stage.proofs.ClosingLemmas.{expiring_of_none, expiring_of_more, all_expired_before, all_expired_now}
use Rattle.scrib_hold_stage.proofs.stage.HoldStage.expire_all.Goals as goal

pub returns-then-not-waits-clause-ok : goal.returns-then-not-waits-clause-ok
returns-then-not-waits-clause-ok g c =
    all_expired_before g.A.Arrival.event c.args.conversation (stage_state c.args.self.now) c.args.released.now.items (c.if-not-waits.ensures.no refl)

pub loop-init : goal.loop-init
loop-init g c = expiring_of_none g.A.Arrival.event c.args.conversation (stage_state c.args.self.now) c.args.released.now.items

pub loop-preserved : goal.loop-preserved
loop-preserved g c =
    expiring_of_more g.A.Arrival.event c.args.conversation (stage_state c.args.self.now) (stage_state c.loop.self) (stage_state c.take_deadline.new.self)
    c.args.released.now.items c.loop.released.items c.take_deadline.new.released.items c.loop.invariant (c.in_ok-take_deadline.ensures.taken c.if-branch.true)

pub returns-clause-ok : goal.returns-clause-ok
returns-clause-ok g c =
    all_expired_now g.A.Arrival.event c.args.conversation (stage_state c.args.self.now) (stage_state c.loop.self) (stage_state c.take_deadline.new.self)
    c.args.released.now.items c.loop.released.items c.take_deadline.new.released.items (c.if-not-waits.ensures.yes refl) c.loop.invariant
    (c.in_ok-take_deadline.ensures.none c.if-branch.false) (c.in_ok-take_deadline.ensures.same c.if-branch.false) (c.in_ok-take_deadline.ensures.unreleased c.if-branch.false)
