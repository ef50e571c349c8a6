use Rattle.std.proofs.Common.{[]}
use Rattle.scrib_holdback.specs.Holdings.{IsAfter}
use Rattle.scrib_holdback.proofs.holdback.hold_back.Given as goal

abbrev pub invariant-loop-arrival : goal.invariant-loop-arrival
invariant-loop-arrival g l = IsAfter g.A.Arrival.event l.yielded l.released.items [] l.holdback
