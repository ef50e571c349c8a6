use Rattle.std.proofs.Common.{◌≡◌, true, false, subst, sym}
use Rattle.std.specs.Option.{is_some}
use Rattle.scrib_types.specs.declared.event.Event.{Event}
use Rattle.scrib_record.specs.Versions.{meaning_of}
use Rattle.scrib_reasons.specs.declared.reason.Reason.TheVariants.{JoinedTwice, NotAllowed, NotSent, OtherFirst}
use Rattle.scrib_reasons.specs.Reasons.{names_declared, MayNotFollow}
use Rattle.scrib_offences.specs.Refusals.{IsRefusedAfter}
use Rattle.scrib_offences.proofs.RefusalLemmas.{Acting, acting, acts_unless_join, joined_twice, not_joined, done, not_made, reception_not_allowed, not_sent, other_first}
use Rattle.scrib_offences.proofs.refusal.reason_of.Goals as goal

pub returns-in-Join : goal.returns-in-Join
returns-in-Join c log h =
    let v = c.args.version.now in
    let a = meaning_of v in
    let is = c.in-Join.is in
    subst (λ (e : Event). MayNotFollow a log e JoinedTwice) (sym is)
    (joined_twice v c.args.configuration.now log c.in-Join.role
    (subst (λ (e : Event). names_declared a.roles e ≡ true) is c.requires.declared)
    (subst (λ (e : Event). IsRefusedAfter v c.args.configuration.now e log) is h))

pub returns-then-not-participant : goal.returns-then-not-participant
returns-then-not-participant c log h =
    let e = c.args.event.now in
    not_joined c.args.version.now c.args.configuration.now e log c.args.participant.now c.requires.is_participant c.requires.declared (acts_unless_join e c.in_default.not-Join) c.if-not-participant.true h

pub returns-then-is_empty : goal.returns-then-is_empty
returns-then-is_empty c log h =
    let v = c.args.version.now in
    let conf = c.args.configuration.now in
    let e = c.args.event.now in
    let participant = c.args.participant.now in
    let es = c.edges-edges.result.now in
    let x = acting v conf e log participant es c.requires.is_participant c.requires.declared c.in_default.not-Join c.if-not-participant.false c.edges-edges.ensures.here h in
    done v conf e log participant es c.is_empty.result x c.is_empty.ensures c.if-is_empty.true

pub returns-in_default-event : goal.returns-in_default-event
returns-in_default-event c log h =
    let v = c.args.version.now in
    let conf = c.args.configuration.now in
    let e = c.args.event.now in
    let participant = c.args.participant.now in
    let es = c.edges-edges.result.now in
    let x = acting v conf e log participant es c.requires.is_participant c.requires.declared c.in_default.not-Join c.if-not-participant.false c.edges-edges.ensures.here h in
    not_made v conf e log participant es c.is_empty.result x c.is_empty.ensures c.if-is_empty.false c.in_default.not-Join c.in_default-event.not-Received

pub returns-then-is_none : goal.returns-then-is_none
returns-then-is_none c log h =
    let v = c.args.version.now in
    let conf = c.args.configuration.now in
    let e = c.args.event.now in
    let participant = c.args.participant.now in
    let es = c.edges-edges.result.now in
    let got = c.in-Received in
    let x = acting v conf e log participant es c.requires.is_participant c.requires.declared c.in_default.not-Join c.if-not-participant.false c.edges-edges.ensures.here h in
    let none : is_some c.step_receive-step.result ≡ false = rw c.if-is_none.true at c.is_none.ensures in
    subst (λ (z : Event). MayNotFollow (meaning_of v) log z NotAllowed) (sym got.is)
    (reception_not_allowed v conf got.from got.to got.message log participant es c.is_empty.result c.step_receive-step.result
    (subst (λ (z : Event). Acting v conf z log participant es) got.is x) c.is_empty.ensures c.if-is_empty.false c.step_receive-step.ensures none)

pub returns-in-None : goal.returns-in-None
returns-in-None c log h =
    let v = c.args.version.now in
    let conf = c.args.configuration.now in
    let e = c.args.event.now in
    let participant = c.args.participant.now in
    let es = c.edges-edges.result.now in
    let got = c.in-Received in
    let x = acting v conf e log participant es c.requires.is_participant c.requires.declared c.in_default.not-Join c.if-not-participant.false c.edges-edges.ensures.here h in
    let y = subst (λ (z : Event). Acting v conf z log participant es) got.is x in
    let some : is_some c.step_receive-step.result ≡ true = rw c.if-is_none.false at c.is_none.ensures in
    subst (λ (z : Event). MayNotFollow (meaning_of v) log z NotSent) (sym got.is)
    (not_sent v conf got.from got.to got.message log participant es c.step_receive-step.result y c.step_receive-step.ensures some
    (c.in-None.ensures log h.leads h.permitted got.to y.is_participant.place))

pub returns-in-Some : goal.returns-in-Some
returns-in-Some c log h =
    let v = c.args.version.now in
    let conf = c.args.configuration.now in
    let e = c.args.event.now in
    let participant = c.args.participant.now in
    let es = c.edges-edges.result.now in
    let got = c.in-Received in
    let x = acting v conf e log participant es c.requires.is_participant c.requires.declared c.in_default.not-Join c.if-not-participant.false c.edges-edges.ensures.here h in
    let y = subst (λ (z : Event). Acting v conf z log participant es) got.is x in
    let some : is_some c.step_receive-step.result ≡ true = rw c.if-is_none.false at c.is_none.ensures in
    subst (λ (z : Event). MayNotFollow (meaning_of v) log z OtherFirst) (sym got.is)
    (other_first v conf got.from got.to got.message c.in-Some.field-0.now log participant es c.step_receive-step.result y c.step_receive-step.ensures some
    (c.in-Some.ensures log h.leads h.permitted got.to y.is_participant.place))
