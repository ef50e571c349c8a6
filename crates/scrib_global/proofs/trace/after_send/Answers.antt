use Rattle.scrib_global.proofs.Steps.{send_leaves}
use Rattle.scrib_global.proofs.trace.after_send.Goals as goal

pub returns-in-Sends : goal.returns-in-Sends
returns-in-Sends c =
    send_leaves _ _ _ c.in-Sends.message _ c.branch_of.result c.in-Sends.is (c.equal.ensures.same.0 c.if-equal.true) c.branch_of.ensures
