use Rattle.std.proofs.Common.{None, Some, subst}
use Rattle.scrib_types.specs.LocalView.{local_of}
use Rattle.scrib_global.specs.Steps.{Leaves}
use Rattle.scrib_global.proofs.Steps.{remains_next, remains_not, remains_all}
use Rattle.scrib_global.proofs.trace.left_after.Goals as goal

pub loop-action-init : goal.loop-action-init
loop-action-init c = λ k. (λ h. h, λ h. h)

pub returns-in-None : goal.returns-in-None
returns-in-None c =
    let none : Leaves (local_of c.loop-action.left) c.action-item.result None = subst (Leaves (local_of c.loop-action.left) c.action-item.result) c.in-None.is c.in_ok-next.ensures in
    remains_not c.args.actions.now c.loop-action.action-index c.action-item.result (local_of c.loop-action.left) (local_of c.args.local) c.loop-action-test.true c.action-item.is none c.loop-action.invariant

pub loop-action-preserved : goal.loop-action-preserved
loop-action-preserved c =
    let some : Leaves (local_of c.loop-action.left) c.action-item.result (Some c.in-Some.next) = subst (Leaves (local_of c.loop-action.left) c.action-item.result) c.in-Some.is c.in_ok-next.ensures in
    remains_next c.args.actions.now c.loop-action.action-index c.action-item.result (local_of c.loop-action.left) (local_of c.in-Some.next) (local_of c.args.local) c.loop-action-test.true c.action-item.is some c.loop-action.invariant

pub returns : goal.returns
returns c = remains_all c.args.actions.now c.loop-action.action-index (local_of c.loop-action.left) (local_of c.args.local) c.loop-action-test.false c.loop-action.invariant
