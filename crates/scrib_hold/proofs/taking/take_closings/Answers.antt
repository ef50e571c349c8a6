use Rattle.std.proofs.lemmas.Result.{err_from_is_err_and}
use Rattle.scrib_hold_stage.specs.PendingClosings.{closings_in}
use Rattle.scrib_hold.proofs.SinkLemmas.{closed_none, closed_one, closed_part, closed_all}
use Rattle.scrib_hold.proofs.taking.take_closings.Goals as goal

pub loop-closing-init : goal.loop-closing-init
loop-closing-init g c = closed_none g.S.ItemSink.carries g.S.ItemSink.gathered (closings_in c.args.pending.now) c.args.sink.now

pub loop-closing-preserved : goal.loop-closing-preserved
loop-closing-preserved g c =
    closed_one g.S.ItemSink.carries g.S.ItemSink.gathered (closings_in c.args.pending.now) (closings_in c.loop-closing.pending) (closings_in c.pop.new.self) c.in-Some.closing
    c.args.sink.now c.loop-closing.sink c.take_closing.new.sink c.loop-closing.invariant c.in-Some.ensures.some c.in_ok-take_closing.ensures.ok

pub returns-in_err-take_closing-clause-err : goal.returns-in_err-take_closing-clause-err
returns-in_err-take_closing-clause-err g c =
    let p = err_from_is_err_and c.from_residual.result c.from_residual.ensures.1 in
    rw p.1 (closed_part g.S.ItemSink.carries g.S.ItemSink.gathered (closings_in c.args.pending.now) (closings_in c.loop-closing.pending) c.args.sink.now c.loop-closing.sink c.take_closing.new.sink
    c.loop-closing.invariant c.in_err-take_closing.ensures.err)
