use Rattle.std.proofs.lemmas.Result.{err_from_is_err_and}
use Rattle.scrib_hold_stage.specs.PendingClosings.{closings_in}
use Rattle.scrib_hold_lines.proofs.Passings.{closed_one, closed_part}
use Rattle.scrib_hold_lines.proofs.output.append_closings.Goals as goal

pub loop-closing-preserved : goal.loop-closing-preserved
loop-closing-preserved c =
    closed_one (closings_in c.args.pending.now) (closings_in c.loop-closing.pending) (closings_in c.pop.new.self) c.in-Some.closing
    c.args.output.now.items c.loop-closing.output.items c.append_closing.new.output.items c.loop-closing.invariant c.in-Some.ensures.some c.in_ok-append_closing.ensures.ok

pub returns-in_err-append_closing-clause-err : goal.returns-in_err-append_closing-clause-err
returns-in_err-append_closing-clause-err c =
    let p = err_from_is_err_and c.from_residual.result c.from_residual.ensures.1 in
    rw p.1 (closed_part (closings_in c.args.pending.now) (closings_in c.loop-closing.pending)
    c.args.output.now.items c.loop-closing.output.items c.append_closing.new.output.items c.loop-closing.invariant c.in_err-append_closing.ensures.err)
