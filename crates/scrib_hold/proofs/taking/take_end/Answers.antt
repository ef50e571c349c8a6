use Rattle.std.proofs.Common.{map}
use Rattle.std.proofs.lemmas.Result.{err_from_is_err_and, on_ok_weaker, on_err_weaker}
use Rattle.scrib_script_reader.specs.Scripts.{item_list}
use Rattle.scrib_hold_stage.specs.PendingClosings.{closings_in}
use Rattle.scrib_hold.specs.NumberedItems.{numbered_at, numbered_closing}
use Rattle.scrib_hold.proofs.SinkLemmas.{gathers_more, fails_extended, fails_none, fails_after}
use Rattle.scrib_hold.proofs.taking.take_end.Goals as goal

pub returns-in_err-take_closings-clause-err : goal.returns-in_err-take_closings-clause-err
returns-in_err-take_closings-clause-err g c =
    let p = err_from_is_err_and c.from_residual.result c.from_residual.ensures.1 in
    rw p.1 (fails_extended g.S.ItemSink.carries g.S.ItemSink.gathered c.args.sink.now c.take_closings.new.sink (map numbered_closing (closings_in c.args.pending.now)) (numbered_at c.args.number (item_list c.args.end))
    c.in_err-take_closings.ensures.err)

pub returns-clause-ok : goal.returns-clause-ok
returns-clause-ok g c =
    on_ok_weaker c.take_passing.result
    (λ passed. gathers_more g.S.ItemSink.carries g.S.ItemSink.gathered c.args.sink.now c.take_closings.new.sink c.take_passing.new.sink (map numbered_closing (closings_in c.args.pending.now)) (numbered_at c.args.number (item_list c.args.end))
    c.in_ok-take_closings.ensures.ok passed)
    c.take_passing.ensures.ok

pub returns-clause-err : goal.returns-clause-err
returns-clause-err g c =
    on_err_weaker c.take_passing.result
    (λ same. fails_after g.S.ItemSink.carries g.S.ItemSink.gathered c.args.sink.now c.take_closings.new.sink c.take_passing.new.sink (map numbered_closing (closings_in c.args.pending.now)) (numbered_at c.args.number (item_list c.args.end))
    c.in_ok-take_closings.ensures.ok
    (fails_none g.S.ItemSink.carries g.S.ItemSink.gathered c.take_closings.new.sink c.take_passing.new.sink (numbered_at c.args.number (item_list c.args.end)) same))
    c.take_passing.ensures.err
