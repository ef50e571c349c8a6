use Rattle.std.proofs.lemmas.Result.{err_from_is_err_and, on_ok_weaker, on_err_weaker}
use Rattle.scrib_hold_lines.proofs.Passings.{written_closed, closed_unreleased, closed_unwritten}
use Rattle.scrib_hold_lines.proofs.output.append_closed.Goals as goal

pub returns-in_err-append_released-clause-err : goal.returns-in_err-append_released-clause-err
returns-in_err-append_released-clause-err c =
    let p = err_from_is_err_and c.from_residual.result c.from_residual.ensures.1 in
    rw p.1 (closed_unreleased c.args.closing.now c.args.released.now.items c.args.output.now.items c.append_released.new.output.items c.in_err-append_released.ensures.err)

pub returns-clause-ok : goal.returns-clause-ok
returns-clause-ok c =
    on_ok_weaker c.append_closing.result
    (λ w. written_closed c.args.closing.now c.args.released.now.items c.args.output.now.items c.append_released.new.output.items c.append_closing.new.output.items c.in_ok-append_released.ensures.ok w)
    c.append_closing.ensures.ok

pub returns-clause-err : goal.returns-clause-err
returns-clause-err c =
    on_err_weaker c.append_closing.result
    (λ same. closed_unwritten c.args.closing.now c.args.released.now.items c.args.output.now.items c.append_released.new.output.items c.append_closing.new.output.items c.in_ok-append_released.ensures.ok same)
    c.append_closing.ensures.err
