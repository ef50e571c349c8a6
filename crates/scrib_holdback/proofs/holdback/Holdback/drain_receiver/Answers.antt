use Rattle.std.proofs.Common.{◌∙◌, arith}
use Rattle.scrib_holdback.proofs.ReleaseLemmas.{drained_none, only_after_drain, only_after_none}
use Rattle.scrib_holdback.proofs.holdback.Holdback.drain_receiver.Goals as goal

pub returns-in-Some-clause-only : goal.returns-in-Some-clause-only
returns-in-Some-clause-only g c =
    only_after_drain g.A.Arrival.event c.args.released.now.items c.drain.new.released.items c.args.index c.in-Some.place c.index.result.now c.get.result.now
    c.args.self.now c.drain.new.self (omega (arith, c.requires.index, c.args.released.now.ok.0)) c.index.ensures (c.get.ensures ∙ c.event-shared.ensures)
    c.drain.ensures.drained c.in-Some.ensures c.drain.ensures.quiet

pub returns-in_default-clause-drained : goal.returns-in_default-clause-drained
returns-in_default-clause-drained g c = drained_none g.A.Arrival.event c.args.self.now c.args.released.now.items

pub returns-in_default-clause-only : goal.returns-in_default-clause-only
returns-in_default-clause-only g c =
    only_after_none g.A.Arrival.event c.args.released.now.items c.args.index c.index.result.now c.get.result.now
    c.args.self.now (omega (arith, c.requires.index, c.args.released.now.ok.0)) c.index.ensures (c.get.ensures ∙ c.event-shared.ensures)
    c.in_default.ensures
