use Rattle.std.proofs.lemmas.Result.{err_from_is_err_and, on_ok_weaker, on_err_weaker}
use Rattle.scrib_hold.proofs.HeldRunLemmas.{took_no_end, took_end, end_unread, end_entry_fails}
use Rattle.scrib_hold.proofs.RepliesLemmas.{gives_entry, gives_part}
use Rattle.scrib_hold.proofs.held_run.HeldRun.take_last.Goals as goal

pub returns-in_err-last-clause-err : goal.returns-in_err-last-clause-err
returns-in_err-last-clause-err c =
    let p = err_from_is_err_and c.from_residual.result c.from_residual.ensures.1 in
    rw p.1 (end_unread c.args.self.now _ c.clear.ensures)

pub returns-in_default-clause-ok : goal.returns-in_default-clause-ok
returns-in_default-clause-ok c =
    took_no_end c.args.self.now c.clear.new.self c.in_ok-last.last c.in_default.is c.clear.ensures c.in_ok-last.ensures.ends

pub returns-clause-ok : goal.returns-clause-ok
returns-clause-ok c =
    on_ok_weaker c.take.result
    (λ took. took_end c.args.self.now c.clear.new.self c.take.new.self c.in_ok-last.last c.in-Some.entry c.in-Some.is c.clear.ensures c.in_ok-last.ensures.ends (gives_entry _ c.take.new.self c.in-Some.entry took))
    c.take.ensures.ok

pub returns-clause-err : goal.returns-clause-err
returns-clause-err c =
    on_err_weaker c.take.result
    (λ failed. end_entry_fails c.args.self.now c.clear.new.self c.take.new.self c.in_ok-last.last c.in-Some.entry c.in-Some.is c.clear.ensures c.in_ok-last.ensures.ends (gives_part _ c.take.new.self c.in-Some.entry failed))
    c.take.ensures.err
