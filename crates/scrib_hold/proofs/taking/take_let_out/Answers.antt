use Rattle.std.proofs.Common.{map, ◌++◌}
use Rattle.std.proofs.lemmas.Result.{err_from_is_err_and, on_ok_weaker, on_err_weaker}
use Rattle.scrib_script_reader.specs.Scripts.{item_list}
use Rattle.scrib_hold.specs.NumberedItems.{numbered_at, numbered_event}
use Rattle.scrib_hold.proofs.SinkLemmas.{gathers_more, fails_none, fails_after}
use Rattle.scrib_hold.proofs.taking.take_let_out.Goals as goal

pub returns-in_err-take_passing-clause-err : goal.returns-in_err-take_passing-clause-err
returns-in_err-take_passing-clause-err g c =
    let p = err_from_is_err_and c.from_residual.result c.from_residual.ensures.1 in
    rw p.1 (fails_none g.S.ItemSink.carries g.S.ItemSink.gathered c.args.sink.now c.take_passing.new.sink (numbered_at c.args.number (item_list c.args.passing) ++ map numbered_event c.args.released.now.items)
    c.in_err-take_passing.ensures.err)

pub returns-clause-ok : goal.returns-clause-ok
returns-clause-ok g c =
    on_ok_weaker c.take_released.result
    (λ released. gathers_more g.S.ItemSink.carries g.S.ItemSink.gathered c.args.sink.now c.take_passing.new.sink c.take_released.new.sink (numbered_at c.args.number (item_list c.args.passing)) (map numbered_event c.args.released.now.items)
    c.in_ok-take_passing.ensures.ok released)
    c.take_released.ensures.ok

pub returns-clause-err : goal.returns-clause-err
returns-clause-err g c =
    on_err_weaker c.take_released.result
    (λ part. fails_after g.S.ItemSink.carries g.S.ItemSink.gathered c.args.sink.now c.take_passing.new.sink c.take_released.new.sink (numbered_at c.args.number (item_list c.args.passing)) (map numbered_event c.args.released.now.items)
    c.in_ok-take_passing.ensures.ok part)
    c.take_released.ensures.err
