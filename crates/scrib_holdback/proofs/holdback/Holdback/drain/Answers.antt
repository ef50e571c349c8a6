use Rattle.std.proofs.Common.{◌∙◌, refl, arith}
use Rattle.scrib_holdback.proofs.ReleaseLemmas.{drained_none, drained_join, drained_count}
use Rattle.scrib_holdback.proofs.HoldbackLemmas.{drained_due}
use Rattle.scrib_holdback.proofs.holdback.Holdback.drain.Goals as goal

pub loop-pair-init : goal.loop-pair-init
loop-pair-init g c = record {
  drained = drained_none g.A.Arrival.event c.args.self.now c.args.released.now.items;
  room = c.requires;
  capacity = refl;
}

pub loop-pair-preserved : goal.loop-pair-preserved
loop-pair-preserved g c =
    let one = drained_due g.A.Arrival.event c.args.place c.loop-pair.self c.take_due.new.self c.loop-pair.released.items c.take_due.new.released.items c.in-Some.ensures.due c.take_due.ensures.taken c.take_due.ensures.roles in
    let count = drained_count g.A.Arrival.event c.loop-pair.self c.take_due.new.self c.loop-pair.released.items c.take_due.new.released.items one in
    record {
      drained = drained_join g.A.Arrival.event c.args.self.now c.loop-pair.self c.take_due.new.self c.args.released.now.items c.loop-pair.released.items c.take_due.new.released.items c.loop-pair.invariant.drained one;
      room = omega (arith, count, c.take_due.ensures.capacity, c.loop-pair.invariant.room, c.loop-pair.released.ok.0, c.take_due.new.released.ok.0);
      capacity = c.take_due.ensures.capacity ∙ c.loop-pair.invariant.capacity;
    }

pub returns-clause-quiet : goal.returns-clause-quiet
returns-clause-quiet g c = c.in_default.ensures
