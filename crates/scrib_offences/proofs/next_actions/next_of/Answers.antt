use Rattle.std.proofs.Common.{ℕ, List, Contains, ap, subst, sym}
use Rattle.std.specs.Option.{option_copied}
use Rattle.scrib_types.specs.declared.event.Action.{Action}
use Rattle.scrib_types.specs.declared.event.Action.TheVariants.{Receives}
use Rattle.scrib_types.specs.declared.event.Event.{Event}
use Rattle.scrib_types.specs.Permitted.{IsPermitted}
use Rattle.scrib_record.specs.Configurations.{LeadsTo}
use Rattle.scrib_record.specs.Versions.{meaning_of}
use Rattle.scrib_global.specs.declared.next.RoleNext.TheVariants.{May}
use Rattle.scrib_offences.specs.Participants.{IsParticipant, IsNext, actions_of, next_reception}
use Rattle.scrib_offences.proofs.NextLemmas.{may_join, at_end, may_send, next_received, if_same}
use Rattle.scrib_offences.proofs.ParticipantLemmas.{offering, has_joined_by, none_first, some_first}
use Rattle.scrib_offences.proofs.next_actions.next_of.Goals as goal

pub returns-then-not-participant : goal.returns-then-not-participant
returns-then-not-participant c log st pm role s =
    let v = c.args.version.now in
    let participant = c.args.participant.now in
    let es = c.edges-edges.result.now in
    let o = offering v c.args.configuration.now log role participant es s st pm c.edges-edges.ensures.here in
    may_join (meaning_of v) v.protocol.valid log role o.0 es c.is_empty.result o.1
    (has_joined_by v c.args.configuration.now log role participant _ s st c.if-not-participant.true) c.is_empty.ensures

pub returns-in_default : goal.returns-in_default
returns-in_default c log st pm role s =
    let v = c.args.version.now in
    let participant = c.args.participant.now in
    let es = c.edges-edges.result.now in
    let o = offering v c.args.configuration.now log role participant es s st pm c.edges-edges.ensures.here in
    at_end (meaning_of v) v.protocol.valid log role o.0 (actions_of es) o.1
    (has_joined_by v c.args.configuration.now log role participant _ s st c.if-not-participant.false) (ap actions_of (none_first es c.in_default.ensures.value))

pub returns-in-Receives : goal.returns-in-Receives
returns-in-Receives c =
    let v = c.args.version.now in
    let a = meaning_of v in
    let conf = c.args.configuration.now in
    let participant = c.args.participant.now in
    let es = c.edges-edges.result.now in
    let p = c.in-Receives.from in
    let first : Contains (actions_of es) (Receives p c.in-Receives.message) =
    subst (λ (act : Action). Contains (actions_of es) act) c.in-Receives.is (some_first es c.in-Some.first.now c.in-Some.ensures.value) in
    if_same
    (λ next. (log : List Event) → LeadsTo a v.machines log conf → IsPermitted a log → (role : List ℕ) → IsParticipant v conf role participant → IsNext a log role next)
    c.next_reception.result (next_reception p (option_copied c.oldest-message.result) (actions_of es)) c.next_reception.ensures
    (λ log st pm role s.
    let o = offering v conf log role participant es s st pm c.edges-edges.ensures.here in
    next_received a v.protocol.valid log role o.0 (actions_of es) o.1
    (has_joined_by v conf log role participant _ s st c.if-not-participant.false) c.edges-edges.ensures.sorted p c.in-Receives.message first
    (option_copied c.oldest-message.result) (c.oldest-message.ensures log st pm role s.place))

pub returns-in_ok-actions_of-in_default-action : goal.returns-in_ok-actions_of-in_default-action
returns-in_ok-actions_of-in_default-action c log st pm role s =
    let v = c.args.version.now in
    let a = meaning_of v in
    let conf = c.args.configuration.now in
    let participant = c.args.participant.now in
    let es = c.edges-edges.result.now in
    let first = c.in-Some.first.now in
    let o = offering v conf log role participant es s st pm c.edges-edges.ensures.here in
    subst (λ (acts : List Action). IsNext a log role (May acts)) (sym c.in_ok-actions_of-in_default-action.ensures)
    (may_send a v.protocol.valid log role o.0 (actions_of es) o.1
    (has_joined_by v conf log role participant _ s st c.if-not-participant.false) c.edges-edges.ensures.sorted first.action (some_first es first c.in-Some.ensures.value)
    (λ w. c.in_default-action.not-Receives w.0 w.1 w.2))
