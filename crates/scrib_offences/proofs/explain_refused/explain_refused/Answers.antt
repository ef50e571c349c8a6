use Rattle.std.proofs.Common.{List, subst}
use Rattle.scrib_types.specs.declared.event.Event.{Event}
use Rattle.scrib_record.specs.Versions.{meaning_of}
use Rattle.scrib_offences.specs.Refusals.{IsRefusedAfter, IsExplanation}
use Rattle.scrib_offences.proofs.ExplanationLemmas.{explained}
use Rattle.scrib_offences.proofs.explain_refused.explain_refused.Goals as goal

pub returns : goal.returns
returns c =
    let x = c.in-Some.refused in
    let v = x.version.now in
    let conf = x.configuration.now in
    let reason = c.in_ok-reason.reason in
    let s = c.in_ok-reason.situation in
    explained c.args.record.now v conf x.place x.event.now c.in_ok-copy.field-0 reason s c.in-Some.ensures
    (subst (λ (e : Event). (log : List Event) → IsRefusedAfter v conf e log → IsExplanation (meaning_of v) log e reason s) c.get-event.ensures c.in_ok-reason.ensures)
    c.in_ok-copy.ensures
