use Rattle.std.proofs.lemmas.Result.{IfOk-weaker, on_err_weaker}
use Rattle.scrib_hold.proofs.HeldRunLemmas.{end_succeeds, end_fails}
use Rattle.scrib_hold.proofs.RepliesLemmas.{gives_end, gives_end_part}
use Rattle.scrib_hold.proofs.held_run.HeldRun.gather_end.Goals as goal

pub returns-clause-ok : goal.returns-clause-ok
returns-clause-ok c =
    IfOk-weaker c.finish.result _ _
    (λ counts ends. end_succeeds c.args.self.now c.take_last.new.self.monitor c.finish.new.self counts c.in_ok-take_last.ensures.ok (gives_end c.take_last.new.self.monitor c.finish.new.self counts ends))
    c.finish.ensures.ok

pub returns-clause-err : goal.returns-clause-err
returns-clause-err c =
    on_err_weaker c.finish.result
    (λ fails. end_fails c.args.self.now c.take_last.new.self.monitor c.finish.new.self c.in_ok-take_last.ensures.ok (gives_end_part c.take_last.new.self.monitor c.finish.new.self fails))
    c.finish.ensures.err
