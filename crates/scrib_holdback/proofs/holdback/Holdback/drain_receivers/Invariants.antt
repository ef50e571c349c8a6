use Rattle.std.proofs.Common.{◌+◌, ◌-◌, ◌≤◌, drop, length, vec_len, vec_capacity}
use Rattle.scrib_holdback.specs.Releases.{IsDrained, OnlyReceivers}
use Rattle.scrib_holdback.proofs.holdback.Holdback.drain_receivers.Given as goal

abbrev pub invariant-loop-next : goal.invariant-loop-next
invariant-loop-next g l = record {
  drained : IsDrained g.A.Arrival.event l.fn.self l.self l.fn.released.items l.released.items;
  room : vec_len l.released + length l.self.waiting ≤ vec_capacity l.released;
  only : OnlyReceivers g.A.Arrival.event (drop l.fn.start l.fn.released.items) l.fn.self
      → OnlyReceivers g.A.Arrival.event (drop l.next l.released.items) l.self;
}

abbrev pub decreases-loop-next : goal.decreases-loop-next
decreases-loop-next g l = vec_len l.released + length l.self.waiting - l.next
