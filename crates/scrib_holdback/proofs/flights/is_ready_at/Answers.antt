use Rattle.scrib_holdback.proofs.FlightLemmas.{of_reception, ready_is}
use Rattle.scrib_holdback.proofs.flights.is_ready_at.Goals as goal

pub returns-in-Received : goal.returns-in-Received
returns-in-Received c =
    ready_is c.args.event.now c.in-Received.from c.in-Received.to c.in-Received.message c.args.flights.now c.args.place c.index-flights-place.result c.index-flights-place-in-Received.result c.in-Received.is
    (of_reception c.args.event.now c.in-Received.from c.in-Received.to c.in-Received.message c.args.flights.now c.args.place c.in-Received.is c.requires)
