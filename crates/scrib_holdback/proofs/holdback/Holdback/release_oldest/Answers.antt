use Rattle.std.proofs.Common.{◌∙◌, length, ap, subst, arith}
use Rattle.scrib_holdback.specs.Holdings.{Holding, IsExpired}
use Rattle.scrib_holdback.proofs.ReleaseLemmas.{drained_count}
use Rattle.scrib_holdback.proofs.HoldbackLemmas.{taken_count}
use Rattle.scrib_holdback.proofs.ExpiryLemmas.{oldest_waits, expires_oldest}
use Rattle.scrib_holdback.proofs.holdback.Holdback.release_oldest.Goals as goal

pub take_oldest-requires-clause-waits : goal.take_oldest-requires-clause-waits
take_oldest-requires-clause-waits g c = oldest_waits g.A.Arrival.event c.args.self.now c.in-Some.place c.in-Some.ensures

pub drain_receivers-requires : goal.drain_receivers-requires
drain_receivers-requires g c =
    let taken = taken_count g.A.Arrival.event c.in-Some.place c.args.self.now c.take_oldest.new.self c.reserve.new.self.items c.take_oldest.new.released.items c.take_oldest.ensures.taken in
    let drained = drained_count g.A.Arrival.event c.take_oldest.new.self c.drain.new.self c.take_oldest.new.released.items c.drain.new.released.items c.drain.ensures.drained in
    let waiting = ap (λ (h : Holding g.row.A.Denot). length h.waiting) c.self.view_is in
    omega (arith, taken, drained, waiting, c.take_oldest.ensures.capacity, c.drain.ensures.capacity, c.in_ok-reserve.ensures.ok, c.bound.ensures.enough, c.reserve.new.self.ok.0, c.take_oldest.new.released.ok.0, c.drain.new.released.ok.0)

pub returns-clause-expired : goal.returns-clause-expired
returns-clause-expired g c = λ yes.
    subst (λ z. IsExpired g.A.Arrival.event c.args.self.now c.drain_receivers.new.self z c.drain_receivers.new.released.items) c.in_ok-reserve.ensures.items
    (expires_oldest g.A.Arrival.event c.in-Some.place c.len-start.result c.args.self.now c.take_oldest.new.self c.drain.new.self c.drain_receivers.new.self
    c.reserve.new.self.items c.take_oldest.new.released.items c.drain.new.released.items c.drain_receivers.new.released.items
    c.in-Some.ensures c.take_oldest.ensures.taken c.drain.ensures.drained c.drain_receivers.ensures.drained
    c.take_oldest.ensures.roles (c.len-start.ensures ∙ c.reserve.new.self.ok.0) c.drain.ensures.quiet c.drain_receivers.ensures.quiet)
