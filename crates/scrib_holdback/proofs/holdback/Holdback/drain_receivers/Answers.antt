use Rattle.std.proofs.Common.{subst, arith}
use Rattle.std.proofs.lemmas.List.{drop_all}
use Rattle.scrib_holdback.specs.Releases.{OnlyReceivers}
use Rattle.scrib_holdback.proofs.ReleaseLemmas.{drained_none, drained_join, drained_count, no_receivers}
use Rattle.scrib_holdback.proofs.holdback.Holdback.drain_receivers.Goals as goal

pub loop-next-init : goal.loop-next-init
loop-next-init g c = record {
  drained = drained_none g.A.Arrival.event c.args.self.now c.args.released.now.items;
  room = c.requires;
  only = λ h. h;
}

pub loop-next-smaller : goal.loop-next-smaller
loop-next-smaller g c =
    let count = drained_count g.A.Arrival.event c.loop-next.self c.drain_receiver.new.self c.loop-next.released.items c.drain_receiver.new.released.items c.drain_receiver.ensures.drained in
    omega (arith, count, c.loop-next.released.ok.0, c.drain_receiver.new.released.ok.0, c.loop-next-test.true, c.len.ensures)

pub loop-next-preserved : goal.loop-next-preserved
loop-next-preserved g c =
    let count = drained_count g.A.Arrival.event c.loop-next.self c.drain_receiver.new.self c.loop-next.released.items c.drain_receiver.new.released.items c.drain_receiver.ensures.drained in
    record {
      drained = drained_join g.A.Arrival.event c.args.self.now c.loop-next.self c.drain_receiver.new.self c.args.released.now.items c.loop-next.released.items c.drain_receiver.new.released.items c.loop-next.invariant.drained c.drain_receiver.ensures.drained;
      room = omega (arith, count, c.drain_receiver.ensures.capacity, c.loop-next.invariant.room, c.loop-next.released.ok.0, c.drain_receiver.new.released.ok.0);
      only = λ h. c.drain_receiver.ensures.only (c.loop-next.invariant.only h);
    }

pub returns-clause-quiet : goal.returns-clause-quiet
returns-clause-quiet g c = λ h.
    (let past = drop_all c.loop-next.next c.loop-next.released.items (omega (arith, c.loop-next.released.ok.0, c.loop-next-test.false, c.len.ensures)) in
    no_receivers g.A.Arrival.event c.loop-next.self
    (subst (λ z. OnlyReceivers g.A.Arrival.event z c.loop-next.self) past (c.loop-next.invariant.only h)))
