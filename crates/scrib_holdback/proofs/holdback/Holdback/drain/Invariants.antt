use Rattle.std.proofs.Common.{◌≡◌, ◌+◌, ◌≤◌, length, vec_len, vec_capacity}
use Rattle.scrib_holdback.specs.Releases.{IsDrained}
use Rattle.scrib_holdback.proofs.holdback.Holdback.drain.Given as goal

abbrev pub invariant-loop-pair : goal.invariant-loop-pair
invariant-loop-pair g l = record {
  drained : IsDrained g.A.Arrival.event l.initial.self l.self l.initial.released.items l.released.items;
  room : vec_len l.released + length l.self.waiting ≤ vec_capacity l.released;
  capacity : vec_capacity l.released ≡ vec_capacity l.initial.released;
}

abbrev pub decreases-loop-pair : goal.decreases-loop-pair
decreases-loop-pair g l = length l.self.waiting
