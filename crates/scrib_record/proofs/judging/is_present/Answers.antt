use Rattle.scrib_record.proofs.Stamps.{stamp_test, numbers_test}
use Rattle.scrib_record.proofs.judging.is_present.Goals as goal

pub returns-in-Whole : goal.returns-in-Whole
returns-in-Whole c = rw (c.in-Some-Some.is-0, c.in-Some-Some.is-1) (stamp_test c.same_stamp.result c.in-Some-Some.version.now c.in-Some-Some.held c.same_stamp.ensures)

pub returns-in-Numbers : goal.returns-in-Numbers
returns-in-Numbers c =
    let serves = rw (c.in-Numbers.is, c.in-Some-Some.is-0, c.in-Some-Some.is-1) at c.requires in
    rw (c.in-Some-Some.is-0, c.in-Some-Some.is-1, c.number.ensures, c.number-in-Numbers.ensures) (numbers_test c.in-Some-Some.version.now c.in-Some-Some.held serves)
