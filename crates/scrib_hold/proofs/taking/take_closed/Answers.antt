use Rattle.std.proofs.Common.{◌∷◌, [], map}
use Rattle.std.proofs.lemmas.Result.{err_from_is_err_and, on_ok_weaker, on_err_weaker}
use Rattle.scrib_hold.specs.NumberedItems.{numbered_event, numbered_closing}
use Rattle.scrib_hold.proofs.SinkLemmas.{gathers_more, fails_extended, fails_none, fails_after}
use Rattle.scrib_hold.proofs.taking.take_closed.Goals as goal

pub returns-in_err-take_released-clause-err : goal.returns-in_err-take_released-clause-err
returns-in_err-take_released-clause-err g c =
    let p = err_from_is_err_and c.from_residual.result c.from_residual.ensures.1 in
    rw p.1 (fails_extended g.S.ItemSink.carries g.S.ItemSink.gathered c.args.sink.now c.take_released.new.sink (map numbered_event c.args.released.now.items) (numbered_closing c.args.closing ∷ [])
    c.in_err-take_released.ensures.err)

pub returns-clause-ok : goal.returns-clause-ok
returns-clause-ok g c =
    on_ok_weaker c.take_closing.result
    (λ closed. gathers_more g.S.ItemSink.carries g.S.ItemSink.gathered c.args.sink.now c.take_released.new.sink c.take_closing.new.sink (map numbered_event c.args.released.now.items) (numbered_closing c.args.closing ∷ [])
    c.in_ok-take_released.ensures.ok closed)
    c.take_closing.ensures.ok

pub returns-clause-err : goal.returns-clause-err
returns-clause-err g c =
    on_err_weaker c.take_closing.result
    (λ same. fails_after g.S.ItemSink.carries g.S.ItemSink.gathered c.args.sink.now c.take_released.new.sink c.take_closing.new.sink (map numbered_event c.args.released.now.items) (numbered_closing c.args.closing ∷ [])
    c.in_ok-take_released.ensures.ok
    (fails_none g.S.ItemSink.carries g.S.ItemSink.gathered c.take_released.new.sink c.take_closing.new.sink (numbered_closing c.args.closing ∷ []) same))
    c.take_closing.ensures.err
