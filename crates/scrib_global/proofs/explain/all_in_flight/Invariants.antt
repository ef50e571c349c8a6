use Rattle.std.proofs.Common.{◌≡◌, take}
use Rattle.std.specs.List.{flat_map}
use Rattle.scrib_global.specs.Explained.{in_flight_from}
use Rattle.scrib_global.proofs.explain.all_in_flight.Given as goal

abbrev pub invariant-loop-from : goal.invariant-loop-from
invariant-loop-from l = l.flights.items ≡ flat_map (λ p. in_flight_from p l.roles l.log) (take l.from-index l.roles)
