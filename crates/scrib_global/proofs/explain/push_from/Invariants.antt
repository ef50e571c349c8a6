use Rattle.std.proofs.Common.{◌≡◌, ◌++◌, take}
use Rattle.std.specs.List.{flat_map}
use Rattle.scrib_global.specs.Explained.{in_flight}
use Rattle.scrib_global.proofs.explain.push_from.Given as goal

abbrev pub invariant-loop-to : goal.invariant-loop-to
invariant-loop-to l = l.flights.items ≡ l.fn.flights.items ++ flat_map (λ q. in_flight l.from q l.log) (take l.to-index l.roles)
