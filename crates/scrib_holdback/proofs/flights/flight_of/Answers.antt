use Rattle.std.proofs.Common.{inl, inr}
use Rattle.scrib_holdback.proofs.FlightLemmas.{found_by_send, found_by_reception}
use Rattle.scrib_holdback.proofs.flights.flight_of.Goals as goal

pub returns-in-Sent : goal.returns-in-Sent
returns-in-Sent c = elim c.in-Sent.is [
  | inl k ↦ found_by_send c.args.event.now c.in-Sent.from c.in-Sent.to k.0 c.args.flights.now c.place_of.result k.1 c.place_of.ensures
  | inr k ↦ found_by_reception c.args.event.now c.in-Sent.from c.in-Sent.to k.0 c.args.flights.now c.place_of.result k.1 c.place_of.ensures
]
