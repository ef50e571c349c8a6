use Rattle.std.proofs.Common.{◌≡◌, ap, arith, refl, subst, sym, Contains, List}
use Rattle.scrib_types.specs.declared.event.Action.TheVariants.{Sends}
use Rattle.scrib_types.specs.FlatEvents.{exchange_bytes}
use Rattle.scrib_record.specs.declared.exchanges.Exchange.{Exchange}
use Rattle.scrib_record.specs.declared.numbered_edge.NumberedEdge.{NumberedEdge}
use Rattle.scrib_record.specs.declared.numbered_edge.NumberedEdge.TheVariants as edges
use Rattle.scrib_record.specs.Configurations.{IsBetween, message_at}
use Rattle.scrib_record.specs.Exchanges.{IsAbsent}
use Rattle.scrib_record.specs.Versions.{meaning_of}
use Rattle.scrib_record.proofs.AdvanceLemmas.{unnumbered, not_yet, already, numbered_with, exchanges_are, refused, at_state, joined_again, row_there, act_unjoined, send_absent, send_stuck, send_step, sends_on}
use Rattle.scrib_record.proofs.ConfigurationLemmas.{role_state_within}
use Rattle.scrib_record.proofs.NumberingLemmas.{is_found}
use Rattle.scrib_record.proofs.RolePlaces.{place_within}
use Rattle.scrib_record.proofs.configuration.Configuration.send.Goals as goal

pub returns-in_default-clause-ok : goal.returns-in_default-clause-ok
returns-in_default-clause-ok c log st =
    let v = c.args._version.now in
    absurd (unnumbered (meaning_of v).roles v.machines c.args.self.now.numbering st.numbered c.in_default.is)

pub returns-in_default-find-clause-ok : goal.returns-in_default-find-clause-ok
returns-in_default-find-clause-ok c log st =
    let v = c.args._version.now in
    let a = meaning_of v in
    let self = c.args.self.now in
    let n = c.in-Some.numbering in
    let sent = c.requires.sent in
    let w = numbered_with a.roles v.machines self.numbering n st.numbered c.in-Some.is in
    let absent = subst (IsAbsent n.exchanges) sent.3 (c.find.ensures.absent c.in_default-find.is) in
    refused a v.machines log self _ c.args.event.now sent.3 (send_absent a v.machines log self n sent.0 sent.1 sent.2 st w absent) st

pub returns-then-not-sender-clause-ok : goal.returns-then-not-sender-clause-ok
returns-then-not-sender-clause-ok c log st =
    let v = c.args._version.now in
    let a = meaning_of v in
    let self = c.args.self.now in
    let n = c.in-Some.numbering in
    let sent = c.requires.sent in
    let w = numbered_with a.roles v.machines self.numbering n st.numbered c.in-Some.is in
    let found = is_found a.roles n.exchanges sent.0 sent.1 sent.2 c.args.event.now c.in-Some-find.exchange w.exchanges c.in-Some-find.ensures.found (ap exchange_bytes sent.3) in
    let there = at_state a v.machines log self sent.0 c.in-Some-find.exchange.from c.index-sender.result.now st found.from c.index-sender.ensures in
    refused a v.machines log self _ c.args.event.now sent.3 (act_unjoined a v.machines log sent.0 _ _ there.0 (Sends sent.1 sent.2) there.2 (not_yet _ c.if-not-sender.true)) st

pub returns-in_default-after_send-clause-ok : goal.returns-in_default-after_send-clause-ok
returns-in_default-after_send-clause-ok c log st =
    let v = c.args._version.now in
    let a = meaning_of v in
    let self = c.args.self.now in
    let n = c.in-Some.numbering in
    let l = c.in-Some-find.exchange in
    let s = c.index-sender.result.now in
    let sent = c.requires.sent in
    let w = numbered_with a.roles v.machines self.numbering n st.numbered c.in-Some.is in
    let found = is_found a.roles n.exchanges sent.0 sent.1 sent.2 c.args.event.now l w.exchanges c.in-Some-find.ensures.found (ap exchange_bytes sent.3) in
    let there = at_state a v.machines log self sent.0 l.from s st found.from c.index-sender.ensures in
    refused a v.machines log self _ c.args.event.now sent.3
    (send_stuck a v.machines log n sent.0 sent.1 sent.2 l.from l.number s there.0 w there.2 there.1 found.number
    (λ next h. c.after_send.ensures.absent c.in_default-after_send.is next (subst (λ (row : List NumberedEdge). Contains row (edges.Sends l.number next)) (sym c.row-row.ensures) h)))
    st

pub returns-clause-ok : goal.returns-clause-ok
returns-clause-ok c log st =
    let v = c.args._version.now in
    let a = meaning_of v in
    let self = c.args.self.now in
    let n = c.in-Some.numbering in
    let l = c.in-Some-find.exchange in
    let s = c.index-sender.result.now in
    let next = c.in-Some-after_send.state in
    let sent = c.requires.sent in
    let w = numbered_with a.roles v.machines self.numbering n st.numbered c.in-Some.is in
    let found = is_found a.roles n.exchanges sent.0 sent.1 sent.2 c.args.event.now l w.exchanges c.in-Some-find.ensures.found (ap exchange_bytes sent.3) in
    let there = at_state a v.machines log self sent.0 l.from s st found.from c.index-sender.ensures in
    let joined = joined_again a v.machines log self sent.0 l.from s c.index_mut.result.now st found.from c.index-sender.ensures c.index_mut.ensures.value (already _ c.if-not-sender.false) in
    let here = subst (λ (row : List NumberedEdge). Contains row (edges.Sends l.number next)) c.row-row.ensures c.in-Some-after_send.ensures.found in
    let step = send_step a v.machines log n sent.0 sent.1 sent.2 l.from l.number next s there.0 w there.2 there.1 found.number here in
    let es = exchanges_are self.numbering n c.in-Some.is in
    let done = c.in_ok-send.ensures in
    rw sent.3
    (sends_on a v.machines log self _ sent.0 sent.1 sent.2 l.from l.to l.number s _ there.0 st there.2 there.1 found.to (already _ c.if-not-sender.false) joined step refl done.roles refl
    (subst (λ (xs : List Exchange). IsBetween xs l.from l.to l.number) es found.between) (subst (λ (xs : List Exchange). message_at xs l.number ≡ sent.2) es found.message) done.sent done.others)

pub index-sender-requires : goal.index-sender-requires
index-sender-requires c =
    let v = c.args._version.now in
    let a = meaning_of v in
    let self = c.args.self.now in
    let n = c.in-Some.numbering in
    let sent = c.requires.sent in
    let st = c.requires.reached.1 in
    let w = numbered_with a.roles v.machines self.numbering n st.numbered c.in-Some.is in
    let found = is_found a.roles n.exchanges sent.0 sent.1 sent.2 c.args.event.now c.in-Some-find.exchange w.exchanges c.in-Some-find.ensures.found (ap exchange_bytes sent.3) in
    omega (arith, role_state_within a v.machines c.requires.reached.0 self sent.0 c.in-Some-find.exchange.from st found.from, self.role_states.ok.0)

pub row-row-requires : goal.row-row-requires
row-row-requires c =
    let v = c.args._version.now in
    let a = meaning_of v in
    let self = c.args.self.now in
    let n = c.in-Some.numbering in
    let l = c.in-Some-find.exchange in
    let s = c.index-sender.result.now in
    let sent = c.requires.sent in
    let log = c.requires.reached.0 in
    let st = c.requires.reached.1 in
    let w = numbered_with a.roles v.machines self.numbering n st.numbered c.in-Some.is in
    let found = is_found a.roles n.exchanges sent.0 sent.1 sent.2 c.args.event.now l w.exchanges c.in-Some-find.ensures.found (ap exchange_bytes sent.3) in
    let there = at_state a v.machines log self sent.0 l.from s st found.from c.index-sender.ensures in
    row_there a v.machines log n sent.0 l.from s there.0 w there.2 there.1

pub send-requires-clause-receiver : goal.send-requires-clause-receiver
send-requires-clause-receiver c =
    let v = c.args._version.now in
    let a = meaning_of v in
    let self = c.args.self.now in
    let n = c.in-Some.numbering in
    let sent = c.requires.sent in
    let st = c.requires.reached.1 in
    let w = numbered_with a.roles v.machines self.numbering n st.numbered c.in-Some.is in
    let found = is_found a.roles n.exchanges sent.0 sent.1 sent.2 c.args.event.now c.in-Some-find.exchange w.exchanges c.in-Some-find.ensures.found (ap exchange_bytes sent.3) in
    omega (arith, place_within a.roles sent.1 c.in-Some-find.exchange.to found.to, st.queues)
