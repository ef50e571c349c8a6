use Rattle.std.proofs.Common.{◌≡◌, ap, arith, refl, subst, sym, Contains, List}
use Rattle.scrib_types.specs.declared.event.Action.TheVariants.{Receives}
use Rattle.scrib_types.specs.FlatEvents.{exchange_bytes}
use Rattle.scrib_queues.specs.Channels.{Channels}
use Rattle.scrib_record.specs.declared.exchanges.Exchange.{Exchange}
use Rattle.scrib_record.specs.declared.numbered_edge.NumberedEdge.{NumberedEdge}
use Rattle.scrib_record.specs.declared.numbered_edge.NumberedEdge.TheVariants as edges
use Rattle.scrib_record.specs.Configurations.{AreQueued, LeadsTo, IsAtFront, flight_of, message_at}
use Rattle.scrib_record.specs.Exchanges.{IsAbsent}
use Rattle.scrib_record.specs.Versions.{meaning_of}
use Rattle.scrib_record.proofs.AdvanceLemmas.{unnumbered, not_yet, already, numbered_with, exchanges_are, refused, at_state, joined_again, row_there, act_unjoined, reception_absent, reception_stuck, reception_step, receive_early, receives_on, was_taken}
use Rattle.scrib_record.proofs.ConfigurationLemmas.{role_state_within}
use Rattle.scrib_record.proofs.FlightLemmas.{was_other}
use Rattle.scrib_record.proofs.NumberingLemmas.{is_found}
use Rattle.scrib_record.proofs.RolePlaces.{place_within}
use Rattle.scrib_record.proofs.configuration.Configuration.receive.Goals as goal

pub returns-in_default : goal.returns-in_default
returns-in_default c log st =
    let v = c.args._version.now in
    absurd (unnumbered (meaning_of v).roles v.machines c.args.self.now.numbering st.numbered c.in_default.is)

pub returns-in_default-find : goal.returns-in_default-find
returns-in_default-find c log st =
    let v = c.args._version.now in
    let a = meaning_of v in
    let self = c.args.self.now in
    let n = c.in-Some.numbering in
    let got = c.requires.received in
    let w = numbered_with a.roles v.machines self.numbering n st.numbered c.in-Some.is in
    let absent = subst (IsAbsent n.exchanges) got.3 (c.find.ensures.absent c.in_default-find.is) in
    refused a v.machines log self _ c.args.event.now got.3 (reception_absent a v.machines log self n got.0 got.1 got.2 st w absent) st

pub returns-then-not-receiver : goal.returns-then-not-receiver
returns-then-not-receiver c log st =
    let v = c.args._version.now in
    let a = meaning_of v in
    let self = c.args.self.now in
    let n = c.in-Some.numbering in
    let got = c.requires.received in
    let w = numbered_with a.roles v.machines self.numbering n st.numbered c.in-Some.is in
    let found = is_found a.roles n.exchanges got.0 got.1 got.2 c.args.event.now c.in-Some-find.exchange w.exchanges c.in-Some-find.ensures.found (ap exchange_bytes got.3) in
    let there = at_state a v.machines log self got.1 c.in-Some-find.exchange.to c.index-receiver.result.now st found.to c.index-receiver.ensures in
    refused a v.machines log self _ c.args.event.now got.3 (λ h. act_unjoined a v.machines log got.1 _ _ there.0 (Receives got.0 got.2) there.2 (not_yet _ c.if-not-receiver.true) h.0) st

pub returns-in_default-after_reception : goal.returns-in_default-after_reception
returns-in_default-after_reception c log st =
    let v = c.args._version.now in
    let a = meaning_of v in
    let self = c.args.self.now in
    let n = c.in-Some.numbering in
    let l = c.in-Some-find.exchange in
    let s = c.index-receiver.result.now in
    let got = c.requires.received in
    let w = numbered_with a.roles v.machines self.numbering n st.numbered c.in-Some.is in
    let found = is_found a.roles n.exchanges got.0 got.1 got.2 c.args.event.now l w.exchanges c.in-Some-find.ensures.found (ap exchange_bytes got.3) in
    let there = at_state a v.machines log self got.1 l.to s st found.to c.index-receiver.ensures in
    refused a v.machines log self _ c.args.event.now got.3
    (reception_stuck a v.machines log n got.0 got.1 got.2 l.to l.number s there.0 w there.2 there.1 found.number
    (λ next h. c.after_reception.ensures.absent c.in_default-after_reception.is next (subst (λ (row : List NumberedEdge). Contains row (edges.Receives l.number next)) (sym c.row-row.ensures) h)))
    st

pub returns-then-not-receive : goal.returns-then-not-receive
returns-then-not-receive c log st =
    let v = c.args._version.now in
    let a = meaning_of v in
    let self = c.args.self.now in
    let n = c.in-Some.numbering in
    let l = c.in-Some-find.exchange in
    let got = c.requires.received in
    let w = numbered_with a.roles v.machines self.numbering n st.numbered c.in-Some.is in
    let found = is_found a.roles n.exchanges got.0 got.1 got.2 c.args.event.now l w.exchanges c.in-Some-find.ensures.found (ap exchange_bytes got.3) in
    let es = exchanges_are self.numbering n c.in-Some.is in
    let queued = subst (λ (xs : List Exchange). AreQueued xs self.queues) (sym es) st.queued in
    let never = was_other a.roles n.exchanges got.0 got.1 got.2 l.from l.to l.number c.receive.result self.queues _ w.exchanges found.from found.to found.number queued c.if-not-receive.true c.receive.ensures.taken in
    let early = receive_early a v.machines log self got.0 got.1 got.2 l.from l.to st found.from found.to (λ h. never (subst (λ (xs : List Exchange). IsAtFront l.from l.to got.2 (flight_of xs self.queues)) (sym es) h)) in
    refused a v.machines log _ _ c.args.event.now got.3 early
    (subst (λ (x : Channels _). LeadsTo a v.machines log record { role_states = self.role_states; queues = x; numbering = self.numbering }) (sym (c.receive.ensures.same c.if-not-receive.true)) st)

pub returns : goal.returns
returns c log st =
    let v = c.args._version.now in
    let a = meaning_of v in
    let self = c.args.self.now in
    let n = c.in-Some.numbering in
    let l = c.in-Some-find.exchange in
    let s = c.index-receiver.result.now in
    let next = c.in-Some-after_reception.state in
    let got = c.requires.received in
    let w = numbered_with a.roles v.machines self.numbering n st.numbered c.in-Some.is in
    let found = is_found a.roles n.exchanges got.0 got.1 got.2 c.args.event.now l w.exchanges c.in-Some-find.ensures.found (ap exchange_bytes got.3) in
    let there = at_state a v.machines log self got.1 l.to s st found.to c.index-receiver.ensures in
    let joined = joined_again a v.machines log self got.1 l.to s c.index_mut.result.now st found.to c.index-receiver.ensures c.index_mut.ensures.value (already _ c.if-not-receiver.false) in
    let here = subst (λ (row : List NumberedEdge). Contains row (edges.Receives l.number next)) c.row-row.ensures c.in-Some-after_reception.ensures.found in
    let step = reception_step a v.machines log n got.0 got.1 got.2 l.to l.number next s there.0 w there.2 there.1 found.number here in
    let es = exchanges_are self.numbering n c.in-Some.is in
    let popped = was_taken l.number c.receive.result _ _ c.if-not-receive.false c.receive.ensures.taken in
    rw got.3
    (receives_on a v.machines log self _ got.0 got.1 got.2 l.from l.to l.number s _ there.0 st there.2 there.1 found.from (already _ c.if-not-receiver.false) joined step refl c.receive.ensures.roles refl
    (subst (λ (xs : List Exchange). message_at xs l.number ≡ got.2) es found.message) popped c.receive.ensures.others)

pub index-receiver-requires : goal.index-receiver-requires
index-receiver-requires c =
    let v = c.args._version.now in
    let a = meaning_of v in
    let self = c.args.self.now in
    let n = c.in-Some.numbering in
    let got = c.requires.received in
    let st = c.requires.reached.1 in
    let w = numbered_with a.roles v.machines self.numbering n st.numbered c.in-Some.is in
    let found = is_found a.roles n.exchanges got.0 got.1 got.2 c.args.event.now c.in-Some-find.exchange w.exchanges c.in-Some-find.ensures.found (ap exchange_bytes got.3) in
    omega (arith, role_state_within a v.machines c.requires.reached.0 self got.1 c.in-Some-find.exchange.to st found.to, self.role_states.ok.0)

pub row-row-requires : goal.row-row-requires
row-row-requires c =
    let v = c.args._version.now in
    let a = meaning_of v in
    let self = c.args.self.now in
    let n = c.in-Some.numbering in
    let l = c.in-Some-find.exchange in
    let s = c.index-receiver.result.now in
    let got = c.requires.received in
    let log = c.requires.reached.0 in
    let st = c.requires.reached.1 in
    let w = numbered_with a.roles v.machines self.numbering n st.numbered c.in-Some.is in
    let found = is_found a.roles n.exchanges got.0 got.1 got.2 c.args.event.now l w.exchanges c.in-Some-find.ensures.found (ap exchange_bytes got.3) in
    let there = at_state a v.machines log self got.1 l.to s st found.to c.index-receiver.ensures in
    row_there a v.machines log n got.1 l.to s there.0 w there.2 there.1

pub receive-requires-clause-sender : goal.receive-requires-clause-sender
receive-requires-clause-sender c =
    let v = c.args._version.now in
    let a = meaning_of v in
    let self = c.args.self.now in
    let n = c.in-Some.numbering in
    let got = c.requires.received in
    let st = c.requires.reached.1 in
    let w = numbered_with a.roles v.machines self.numbering n st.numbered c.in-Some.is in
    let found = is_found a.roles n.exchanges got.0 got.1 got.2 c.args.event.now c.in-Some-find.exchange w.exchanges c.in-Some-find.ensures.found (ap exchange_bytes got.3) in
    omega (arith, place_within a.roles got.0 c.in-Some-find.exchange.from found.from, st.queues)
