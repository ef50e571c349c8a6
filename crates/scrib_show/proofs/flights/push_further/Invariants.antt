use Rattle.std.proofs.Common.{◌≡◌, ◌++◌, drop}
use Rattle.scrib_show.specs.ShownLines.{further_flights}
use Rattle.scrib_show.proofs.flights.push_further.Given as goal

abbrev pub invariant-loop-flight : goal.invariant-loop-flight
invariant-loop-flight l =
    l.out.items ++ further_flights (drop l.flight-index l.flights) ≡ l.fn.out.items ++ further_flights l.flights
