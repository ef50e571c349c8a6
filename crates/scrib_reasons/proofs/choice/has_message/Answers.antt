use Rattle.std.proofs.Common.{sym, ◌∙◌}
use Rattle.scrib_reasons.proofs.Choices.{message_here, message_later, refused}
use Rattle.scrib_reasons.proofs.choice.has_message.Goals as goal

pub returns-then-equal : goal.returns-then-equal
returns-then-equal c =
    sym (message_here c.args.branches.now c.loop-other.other-index c.loop-other-item.result c.args.message.now c.loop-other-test.true c.loop-other-item.is (c.equal.ensures.0 c.if-equal.true)) ∙ c.loop-other.invariant

pub loop-other-preserved : goal.loop-other-preserved
loop-other-preserved c =
    message_later c.args.branches.now c.loop-other.other-index c.loop-other-item.result c.args.message.now c.loop-other-test.true c.loop-other-item.is (refused c.equal.result c.equal.ensures c.if-equal.false) ∙ c.loop-other.invariant
