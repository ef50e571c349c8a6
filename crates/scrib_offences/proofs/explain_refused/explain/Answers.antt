use Rattle.std.proofs.Common.{◌≡◌, ◌∙◌, Some, ap, sym}
use Rattle.scrib_types.specs.Logs.{subject_of}
use Rattle.scrib_record.specs.Places.{place_in}
use Rattle.scrib_record.specs.Versions.{meaning_of}
use Rattle.scrib_offences.proofs.ExplanationLemmas.{none_placed, both_placed, lacks_subject, lacks_other, explains}
use Rattle.scrib_offences.proofs.explain_refused.explain.Goals as goal

pub returns-in_default : goal.returns-in_default
returns-in_default c =
    lacks_subject c.args.version.now c.args.configuration.now c.args.event.now c.subject-subject.result.now c.undeclared.result c.undeclared.ensures c.subject-subject.ensures (sym c.in_default.ensures.place)

pub returns-then-is_none : goal.returns-then-is_none
returns-then-is_none c =
    let v = c.args.version.now in
    let roles = (meaning_of v).roles in
    let e = c.args.event.now in
    let there : place_in roles (subject_of e) ≡ Some c.in-Some.place = ap (place_in roles) (sym c.subject-subject.ensures) ∙ sym c.in-Some.ensures.place in
    let none = rw c.if-is_none.true at c.is_none.ensures in
    lacks_other v c.args.configuration.now e c.other_role-other.result.now c.in-Some.place c.undeclared-then-is_none.result c.undeclared-then-is_none.ensures c.other_role-other.ensures there
    (sym c.place_of-2.ensures.place ∙ none_placed c.place_of-2.result none)

pub reason_of-reason-requires-clause-declared : goal.reason_of-reason-requires-clause-declared
reason_of-reason-requires-clause-declared c =
    let v = c.args.version.now in
    let roles = (meaning_of v).roles in
    let e = c.args.event.now in
    let there : place_in roles (subject_of e) ≡ Some c.in-Some.place = ap (place_in roles) (sym c.subject-subject.ensures) ∙ sym c.in-Some.ensures.place in
    let some = rw c.if-is_none.false at c.is_none.ensures in
    both_placed roles e c.in-Some.place c.place_of-2.result there (c.place_of-2.ensures.place ∙ ap (place_in roles) c.other_role-other.ensures) some

pub returns : goal.returns
returns c log h =
    let v = c.args.version.now in
    let a = meaning_of v in
    let e = c.args.event.now in
    let there : place_in a.roles (subject_of e) ≡ Some c.in-Some.place = ap (place_in a.roles) (sym c.subject-subject.ensures) ∙ sym c.in-Some.ensures.place in
    let some = rw c.if-is_none.false at c.is_none.ensures in
    let d = both_placed a.roles e c.in-Some.place c.place_of-2.result there (c.place_of-2.ensures.place ∙ ap (place_in a.roles) c.other_role-other.ensures) some in
    let participant = c.participant_of-participant.ensures (subject_of e) there in
    explains a log e c.reason_of-reason.result c.in_ok-next.next d (c.reason_of-reason.ensures log h) (c.in_ok-next.ensures log h.leads h.permitted (subject_of e) participant)
