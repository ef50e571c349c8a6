use Rattle.scrib_global.proofs.Branches.{substitute_more, substitute_done}
use Rattle.scrib_global.proofs.unfold.+substitute.Goals as goal

pub substitute_all-loop-message-preserved : goal.substitute_all-loop-message-preserved
substitute_all-loop-message-preserved t c =
    substitute_more _ c.args.branches.now c.loop-message.message-index c.loop-message-item.result _ _ c.in_ok-message.message c.in_ok-local.local c.args.depth _ c.loop-message-test.true c.loop-message-item.is c.in_ok-message.ensures c.in_ok-local.ensures c.in_ok-push.ensures.items c.loop-message.invariant

pub substitute_all-returns : goal.substitute_all-returns
substitute_all-returns t c =
    substitute_done _ c.args.branches.now c.loop-message.message-index c.loop-message.done.items c.args.depth _ c.loop-message-test.false c.loop-message.invariant
