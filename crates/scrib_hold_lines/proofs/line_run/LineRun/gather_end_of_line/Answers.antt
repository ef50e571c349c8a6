use Rattle.std.proofs.Common.{refl}
use Rattle.std.proofs.lemmas.Result.{err_from_is_err_and}
use Rattle.scrib_hold_lines.proofs.RunLemmas.{gathers_no_entry, gathers_entry, fails_unread, fails_entry}
use Rattle.scrib_hold_lines.proofs.line_run.LineRun.gather_end_of_line.Goals as goal

pub returns-in_err-found-clause-err : goal.returns-in_err-found-clause-err
returns-in_err-found-clause-err c =
    let p = err_from_is_err_and c.from_residual.result c.from_residual.ensures.1 in
    rw p.1 (fails_unread c.args.self.now _ c.args.bytes.now refl)

pub returns-in_err-add_line-clause-err : goal.returns-in_err-add_line-clause-err
returns-in_err-add_line-clause-err c =
    let p = err_from_is_err_and c.from_residual-in_err-add_line.result c.from_residual-in_err-add_line.ensures.1 in
    rw p.1 (fails_unread c.args.self.now _ c.args.bytes.now refl)

pub returns-in_default-clause-ok : goal.returns-in_default-clause-ok
returns-in_default-clause-ok c =
    gathers_no_entry c.args.self.now c.take_end.new.self c.start_line.new.self c.add_line.new.self c.args.bytes.now c.in_ok-found.found c.in_default.is c.in_ok-found.ensures.taken c.start_line.ensures.script

pub returns-in_err-take-clause-err : goal.returns-in_err-take-clause-err
returns-in_err-take-clause-err c =
    let p = err_from_is_err_and c.from_residual-in_err-take.result c.from_residual-in_err-take.ensures.1 in
    rw p.1 (fails_entry c.args.self.now _ c.take_end.new.self c.args.bytes.now c.in_ok-found.found c.in-Some.entry c.in-Some.is c.in_ok-found.ensures.taken c.in_err-take.ensures.err)

pub returns-clause-ok : goal.returns-clause-ok
returns-clause-ok c =
    gathers_entry c.args.self.now c.take_end.new.self c.start_line-2.new.self c.clear.new.self c.take.new.self c.args.bytes.now c.in_ok-found.found c.in-Some.entry c.in-Some.is c.in_ok-found.ensures.taken c.start_line-2.ensures.script c.in_ok-take.ensures.ok
