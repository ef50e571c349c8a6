use Rattle.std.proofs.Common.{◌≡◌, ◌++◌, map, drop}
use Rattle.scrib_global.specs.Explained.{flight}
use Rattle.scrib_global.proofs.explain.push_between.Given as goal

abbrev pub invariant-loop-i : goal.invariant-loop-i
invariant-loop-i l = l.flights.items ++ map (flight l.from l.to) (drop l.i l.messages.items) ≡ l.fn.flights.items ++ map (flight l.from l.to) (drop l.landed l.messages.items)
