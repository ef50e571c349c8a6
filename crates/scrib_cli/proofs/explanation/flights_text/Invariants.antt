use Rattle.std.proofs.Common.{◌≡◌, ◌++◌, drop}
use Rattle.scrib_cli.specs.Explanations.{flight_lines}
use Rattle.scrib_cli.proofs.explanation.flights_text.Given as goal

abbrev pub invariant-loop-flight : goal.invariant-loop-flight
invariant-loop-flight l = l.text.items ++ flight_lines (drop l.flight-index l.flights) ≡ flight_lines l.flights
