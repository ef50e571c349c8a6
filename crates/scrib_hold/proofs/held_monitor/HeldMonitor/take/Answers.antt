use Rattle.std.proofs.lemmas.Result.{err_from_is_err_and, on_ok_weaker, on_err_weaker}
use Rattle.scrib_hold.proofs.ClosingLemmas.{took, took_not, took_in_part}
use Rattle.scrib_hold.proofs.held_monitor.HeldMonitor.take.Goals as goal

pub returns-in_err-read-clause-err : goal.returns-in_err-read-clause-err
returns-in_err-read-clause-err g c =
    let p = err_from_is_err_and c.from_residual-in_err-read.result c.from_residual-in_err-read.ensures.1 in
    rw p.1 (took_not g.S.ItemSink.carries g.S.ItemSink.gathered c.args.self.now c.close_before.new.self c.read.new.self c.args.entry c.in_ok-close_before.ensures.ok c.in_err-read.ensures.err)

pub returns-clause-ok : goal.returns-clause-ok
returns-clause-ok g c =
    on_ok_weaker c.close_ready.result
    (λ q. took g.S.ItemSink.carries g.S.ItemSink.gathered c.args.self.now c.close_before.new.self c.read.new.self c.close_ready.new.self c.args.entry c.in_ok-close_before.ensures.ok c.in_ok-read.ensures.ok q)
    c.close_ready.ensures.ok

pub returns-clause-err : goal.returns-clause-err
returns-clause-err g c =
    on_err_weaker c.close_ready.result
    (λ q. took_in_part g.S.ItemSink.carries g.S.ItemSink.gathered c.args.self.now c.close_before.new.self c.read.new.self c.close_ready.new.self c.args.entry c.in_ok-close_before.ensures.ok c.in_ok-read.ensures.ok q)
    c.close_ready.ensures.err
