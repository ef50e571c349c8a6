use Rattle.std.proofs.Common.{refl}
use Rattle.std.proofs.lemmas.Result.{err_from_is_err_and}
use Rattle.scrib_hold_lines.proofs.RunLemmas.{gathers_none, gathers_all, front_fails, fails_unread}
use Rattle.scrib_hold_lines.proofs.line_run.LineRun.gather_next.Goals as goal

pub returns-in_err-take_part-clause-err : goal.returns-in_err-take_part-clause-err
returns-in_err-take_part-clause-err c =
    let p = err_from_is_err_and c.from_residual.result c.from_residual.ensures.1 in
    rw p.1 (fails_unread c.args.self.now _ c.args.piece.now refl)

pub returns-in_default-clause-ok : goal.returns-in_default-clause-ok
returns-in_default-clause-ok c = gathers_all c.args.self.now _ c.args.piece.now _ refl (gathers_none c.args.self.now c.take_part.new.self c.args.self.now.text c.args.piece.now c.in_ok-take_part.ensures.taken)

pub returns-in_err-gather_end_of_line-clause-err : goal.returns-in_err-gather_end_of_line-clause-err
returns-in_err-gather_end_of_line-clause-err c =
    let p = err_from_is_err_and c.from_residual-in_err-gather_end_of_line.result c.from_residual-in_err-gather_end_of_line.ensures.1 in
    rw p.1 (front_fails c.args.self.now c.gather_end_of_line.new.self c.args.piece.now c.in-Some.end.now c.in-Some.rest.now c.in-Some.ensures.all c.in_err-gather_end_of_line.ensures.err)

pub returns-clause-ok : goal.returns-clause-ok
returns-clause-ok c = (c.in-Some.end.now, c.in-Some.ensures.all, c.in_ok-gather_end_of_line.ensures.ok)
