use Rattle.std.proofs.Common.{refl}
use Rattle.std.proofs.lemmas.Result.{err_from_is_err_and}
use Rattle.scrib_hold.proofs.ClosingLemmas.{forcing_none, forcing_more, forcing_done, forcing_failed, opens_none}
use Rattle.scrib_hold.proofs.held_monitor.HeldMonitor.close_opened.Goals as goal

pub returns-in_default-clause-ok : goal.returns-in_default-clause-ok
returns-in_default-clause-ok g c = opens_none g.S.ItemSink.carries g.S.ItemSink.gathered c.args.self.now c.args.entry.now (c.in_default.ensures.none refl)

pub loop-init : goal.loop-init
loop-init g c = forcing_none g.S.ItemSink.carries g.S.ItemSink.gathered c.in-Some.id c.args.self.now

pub loop-preserved : goal.loop-preserved
loop-preserved g c = forcing_more g.S.ItemSink.carries g.S.ItemSink.gathered c.in-Some.id c.args.self.now c.loop.self c.close_next_of.new.self c.loop.invariant (c.in_ok-close_next_of.ensures.closed c.if-branch.true)

pub returns-in_err-close_next_of-clause-err : goal.returns-in_err-close_next_of-clause-err
returns-in_err-close_next_of-clause-err g c =
    let p = err_from_is_err_and c.from_residual.result c.from_residual.ensures.1 in
    rw p.1 (forcing_failed g.S.ItemSink.carries g.S.ItemSink.gathered c.in-Some.id c.args.self.now c.loop.self c.close_next_of.new.self c.args.entry.now c.in-Some.ensures.opens c.loop.invariant c.in_err-close_next_of.ensures.err)

pub returns-clause-ok : goal.returns-clause-ok
returns-clause-ok g c =
    forcing_done g.S.ItemSink.carries g.S.ItemSink.gathered c.in-Some.id c.args.self.now c.loop.self c.close_next_of.new.self c.args.entry.now c.in-Some.ensures.opens c.in-Some.ensures.only c.loop.invariant
    (c.in_ok-close_next_of.ensures.same c.if-branch.false) (c.in_ok-close_next_of.ensures.none c.if-branch.false)
