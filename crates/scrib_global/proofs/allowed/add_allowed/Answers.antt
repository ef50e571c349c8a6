use Rattle.std.proofs.lemmas.Result.{on_ok_weaker}
use Rattle.scrib_global.proofs.Order.{passing_if}
use Rattle.scrib_global.proofs.LogPrefixes.{true_part}
use Rattle.scrib_global.proofs.allowed.add_allowed.Goals as goal

pub returns-then-branch-clause-kept : goal.returns-then-branch-clause-kept
returns-then-branch-clause-kept c =
    let may = true_part c.in_ok-may_follow.field-0 c.in_ok-may_follow.ensures c.if-branch.true in
    on_ok_weaker c.insert.result (λ h a. passing_if may (h a)) c.insert.ensures.kept
