use Rattle.std.proofs.lemmas.Result.{err_from_is_err_and}
use Rattle.scrib_hold_lines.proofs.ClosingLemmas.{closing_more, closing_done, closing_failed}
use Rattle.scrib_hold_lines.proofs.held_lines.HeldLines.close_each_ready.Goals as goal

pub loop-preserved : goal.loop-preserved
loop-preserved c = closing_more c.args.self.now c.loop.self c.close_next_ready.new.self c.loop.invariant (c.in_ok-close_next_ready.ensures.closed c.if-branch.true)

pub returns-in_err-close_next_ready-clause-err : goal.returns-in_err-close_next_ready-clause-err
returns-in_err-close_next_ready-clause-err c =
    let p = err_from_is_err_and c.from_residual.result c.from_residual.ensures.1 in
    rw p.1 (closing_failed c.args.self.now c.loop.self c.close_next_ready.new.self c.loop.invariant c.in_err-close_next_ready.ensures.err)

pub returns-clause-ok : goal.returns-clause-ok
returns-clause-ok c =
    closing_done c.args.self.now c.loop.self c.close_next_ready.new.self c.loop.invariant (c.in_ok-close_next_ready.ensures.same c.if-branch.false) (c.in_ok-close_next_ready.ensures.none c.if-branch.false)
