use Rattle.std.proofs.Common.{Option, ◌++◌, ◌∙◌, ap, option_to_list}
use Rattle.std.proofs.lemmas.Result.{err_from_is_err_and}
use Rattle.scrib_hold_stage.specs.declared.noted.Noted.{Noted}
use Rattle.scrib_hold.specs.HeldScripts.{Asked}
use Rattle.scrib_hold.proofs.SinkLemmas.{released_none, released_one, released_part, released_all, none_left}
use Rattle.scrib_hold.proofs.taking.take_released.Goals as goal

pub loop-noted-preserved : goal.loop-noted-preserved
loop-noted-preserved g c =
    released_one g.S.ItemSink.carries g.S.ItemSink.gathered c.args.released.now.items c.loop-noted.released.items c.pop.new.self.items c.in-Some.noted c.args.sink.now c.loop-noted.sink c.take_event.new.sink
    c.loop-noted.invariant
    (c.pop.ensures.items ∙ ap (λ (o : Option (Noted Asked)). c.pop.new.self.items ++ option_to_list o) c.in-Some.is)
    c.in_ok-take_event.ensures.ok

pub returns-in_err-take_event-clause-err : goal.returns-in_err-take_event-clause-err
returns-in_err-take_event-clause-err g c =
    let p = err_from_is_err_and c.from_residual.result c.from_residual.ensures.1 in
    rw p.1 (released_part g.S.ItemSink.carries g.S.ItemSink.gathered c.args.released.now.items c.loop-noted.released.items c.args.sink.now c.loop-noted.sink c.take_event.new.sink c.loop-noted.invariant
    c.in_err-take_event.ensures.err)
