use Rattle.std.proofs.Common.{◌∙◌, Some, sym, ap}
use Rattle.std.proofs.lemmas.Option.{slice_get-get_or}
use Rattle.scrib_holdback.proofs.flights.is_at.Goals as goal

pub returns-in-Some : goal.returns-in-Some
returns-in-Some c = λ yes. (
  c.in-Some.flight.now,
  slice_get-get_or c.args.flights.now c.args.index c.in-Some.flight.now c.in-Some.ensures.lookup.3.0 ∙ ap Some (sym c.in-Some.ensures.lookup.1),
  sym c.is_between.ensures ∙ yes,
)
