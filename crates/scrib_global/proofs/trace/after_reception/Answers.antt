use Rattle.scrib_global.proofs.Steps.{recv_leaves}
use Rattle.scrib_global.proofs.trace.after_reception.Goals as goal

pub returns-in-Receives : goal.returns-in-Receives
returns-in-Receives c =
    recv_leaves _ _ _ c.in-Receives.message _ c.branch_of.result c.in-Receives.is (c.equal.ensures.same.0 c.if-equal.true) c.branch_of.ensures
