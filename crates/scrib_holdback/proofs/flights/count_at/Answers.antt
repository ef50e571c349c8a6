use Rattle.std.proofs.Common.{arith}
use Rattle.scrib_holdback.specs.declared.flights.Flight.{Flight}
use Rattle.scrib_holdback.proofs.FlightLemmas.{of_send, of_reception, sent_at, received_at, count_at, counts_by_send, counts_by_reception, keeps_counted}
use Rattle.scrib_holdback.proofs.flights.count_at.Goals as goal

pub overflow_add-flights : goal.overflow_add-flights
overflow_add-flights c =
    let at = of_send c.args.event.now c.in-Sent.from c.in-Sent.to c.in-Sent.message c.args.flights.now c.args.place c.in-Sent.is c.requires.at in
    let n = count_at (λ (z : Flight). z.sent) c.in-Sent.from c.in-Sent.to c.args.flights.now c.args.place c.index-flights-place.result at in
    omega (arith, n, c.requires.sends c.in-Sent.from c.in-Sent.to)

pub overflow_add-flights-in-Received : goal.overflow_add-flights-in-Received
overflow_add-flights-in-Received c =
    let at = of_reception c.args.event.now c.in-Received.from c.in-Received.to c.in-Received.message c.args.flights.now c.args.place c.in-Received.is c.requires.at in
    let n = count_at (λ (z : Flight). z.received) c.in-Received.from c.in-Received.to c.args.flights.now c.args.place c.index-flights-place-in-Received.result at in
    omega (arith, n, c.requires.receptions c.in-Received.from c.in-Received.to)

pub returns-in-Sent-clause-counted : goal.returns-in-Sent-clause-counted
returns-in-Sent-clause-counted c =
    let at = of_send c.args.event.now c.in-Sent.from c.in-Sent.to c.in-Sent.message c.args.flights.now c.args.place c.in-Sent.is c.requires.at in
    counts_by_send c.args.event.now c.in-Sent.from c.in-Sent.to c.in-Sent.message c.args.flights.now _ _ c.in-Sent.is
    (sent_at c.in-Sent.from c.in-Sent.to c.args.flights.now c.args.place c.index-flights-place.result c.index-flights-place-in-Sent.result _ at)

pub returns-in-Sent-clause-kept : goal.returns-in-Sent-clause-kept
returns-in-Sent-clause-kept c =
    let at = of_send c.args.event.now c.in-Sent.from c.in-Sent.to c.in-Sent.message c.args.flights.now c.args.place c.in-Sent.is c.requires.at in
    keeps_counted c.in-Sent.from c.in-Sent.to c.args.flights.now _ _ _ _
    (sent_at c.in-Sent.from c.in-Sent.to c.args.flights.now c.args.place c.index-flights-place.result c.index-flights-place-in-Sent.result _ at)

pub returns-in-Received-clause-counted : goal.returns-in-Received-clause-counted
returns-in-Received-clause-counted c =
    let at = of_reception c.args.event.now c.in-Received.from c.in-Received.to c.in-Received.message c.args.flights.now c.args.place c.in-Received.is c.requires.at in
    counts_by_reception c.args.event.now c.in-Received.from c.in-Received.to c.in-Received.message c.args.flights.now _ _ c.in-Received.is
    (received_at c.in-Received.from c.in-Received.to c.args.flights.now c.args.place c.index-flights-place-in-Received.result c.index-flights-place-in-Received-2.result _ at)

pub returns-in-Received-clause-kept : goal.returns-in-Received-clause-kept
returns-in-Received-clause-kept c =
    let at = of_reception c.args.event.now c.in-Received.from c.in-Received.to c.in-Received.message c.args.flights.now c.args.place c.in-Received.is c.requires.at in
    keeps_counted c.in-Received.from c.in-Received.to c.args.flights.now _ _ _ _
    (received_at c.in-Received.from c.in-Received.to c.args.flights.now c.args.place c.index-flights-place-in-Received.result c.index-flights-place-in-Received-2.result _ at)
