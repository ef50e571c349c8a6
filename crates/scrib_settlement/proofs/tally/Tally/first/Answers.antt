use Rattle.std.proofs.Common.{Some}
use Rattle.scrib_settlement.proofs.TallyLemmas.{first_is}
use Rattle.scrib_settlement.proofs.tally.Tally.first.Goals as goal

pub returns-in-Some-default : goal.returns-in-Some-default
returns-in-Some-default c log seen counts =
    rw c.min_place.ensures (first_is log seen c.args.self.now.due.items (Some c.in-Some-default.wrong) c.first_due-unmatched.result
    (rw c.in-Some-default.is-0 at counts) c.first_due-unmatched.ensures)
