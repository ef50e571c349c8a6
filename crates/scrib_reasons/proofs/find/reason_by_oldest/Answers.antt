use Rattle.std.proofs.Common.{sym, ap, ◌∙◌}
use Rattle.scrib_reasons.specs.Tests.{reason_by_oldest}
use Rattle.scrib_reasons.proofs.Choices.{refused}
use Rattle.scrib_reasons.proofs.ReasonLemmas.{oldest_same, oldest_other}
use Rattle.scrib_reasons.proofs.find.reason_by_oldest.Goals as goal

pub returns-then-equal : goal.returns-then-equal
returns-then-equal c =
    let m = c.args.message.now in
    sym (ap (reason_by_oldest m) c.in-Some.is ∙ oldest_same m c.in-Some.first (c.equal.ensures.0 c.if-equal.true))

pub returns : goal.returns
returns c =
    let m = c.args.message.now in
    sym (ap (reason_by_oldest m) c.in-Some.is ∙ oldest_other m c.in-Some.first (refused c.equal.result c.equal.ensures c.if-equal.false))
