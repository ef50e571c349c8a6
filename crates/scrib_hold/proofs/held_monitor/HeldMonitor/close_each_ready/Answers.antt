use Rattle.std.proofs.lemmas.Result.{err_from_is_err_and}
use Rattle.scrib_hold.proofs.ClosingLemmas.{closing_none, closing_more, closing_done, closing_failed}
use Rattle.scrib_hold.proofs.held_monitor.HeldMonitor.close_each_ready.Goals as goal

pub loop-init : goal.loop-init
loop-init g c = closing_none g.S.ItemSink.carries g.S.ItemSink.gathered c.args.self.now

pub loop-preserved : goal.loop-preserved
loop-preserved g c = closing_more g.S.ItemSink.carries g.S.ItemSink.gathered c.args.self.now c.loop.self c.close_next_ready.new.self c.loop.invariant (c.in_ok-close_next_ready.ensures.closed c.if-branch.true)

pub returns-in_err-close_next_ready-clause-err : goal.returns-in_err-close_next_ready-clause-err
returns-in_err-close_next_ready-clause-err g c =
    let p = err_from_is_err_and c.from_residual.result c.from_residual.ensures.1 in
    rw p.1 (closing_failed g.S.ItemSink.carries g.S.ItemSink.gathered c.args.self.now c.loop.self c.close_next_ready.new.self c.loop.invariant c.in_err-close_next_ready.ensures.err)

pub returns-clause-ok : goal.returns-clause-ok
returns-clause-ok g c =
    closing_done g.S.ItemSink.carries g.S.ItemSink.gathered c.args.self.now c.loop.self c.close_next_ready.new.self c.loop.invariant (c.in_ok-close_next_ready.ensures.same c.if-branch.false) (c.in_ok-close_next_ready.ensures.none c.if-branch.false)
