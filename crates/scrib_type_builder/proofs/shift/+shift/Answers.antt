use Rattle.scrib_type_builder.proofs.Branches.{shifted_more}
use Rattle.scrib_type_builder.proofs.shift.+shift.Goals as goal

pub shifted_branches-loop-message-preserved : goal.shifted_branches-loop-message-preserved
shifted_branches-loop-message-preserved t c =
    shifted_more c.args.under c.loop-message.more.items c.push.new.self.items c.args.branches.now c.loop-message.message-index c.loop-message-item.result c.in_ok-message.message c.in_ok-global.global c.loop-message-test.true c.loop-message-item.is c.in_ok-message.ensures c.in_ok-global.ensures c.in_ok-push.ensures.items c.loop-message.invariant
