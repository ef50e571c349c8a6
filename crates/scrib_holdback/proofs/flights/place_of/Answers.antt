use Rattle.scrib_holdback.proofs.FlightLemmas.{only_at}
use Rattle.scrib_holdback.proofs.flights.place_of.Goals as goal

pub returns-then-is_at : goal.returns-then-is_at
returns-then-is_at c = only_at c.args.from.now c.args.to.now c.args.flights.now c.args.hint c.requires (c.is_at.ensures c.if-is_at.true)
