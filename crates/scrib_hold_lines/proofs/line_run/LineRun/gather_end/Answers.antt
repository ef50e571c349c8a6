use Rattle.std.proofs.lemmas.Result.{IfOk-weaker, on_err_weaker}
use Rattle.scrib_hold_lines.proofs.RunLemmas.{end_succeeds, end_fails}
use Rattle.scrib_hold_lines.proofs.line_run.LineRun.gather_end.Goals as goal

pub returns-clause-ok : goal.returns-clause-ok
returns-clause-ok c =
    IfOk-weaker c.finish.result _ _
    (λ counts ends. end_succeeds c.args.self.now c.take_last.new.self.lines c.finish.new.self counts c.in_ok-take_last.ensures.ok ends)
    c.finish.ensures.ok

pub returns-clause-err : goal.returns-clause-err
returns-clause-err c =
    on_err_weaker c.finish.result
    (λ fails. end_fails c.args.self.now c.take_last.new.self.lines c.finish.new.self c.in_ok-take_last.ensures.ok fails)
    c.finish.ensures.err
