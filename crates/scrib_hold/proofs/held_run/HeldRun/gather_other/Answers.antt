use Rattle.std.proofs.Common.{refl}
use Rattle.std.proofs.lemmas.Result.{err_from_is_err_and}
use Rattle.scrib_hold.proofs.HeldRunLemmas.{gathers_none, gathers_entry, fails_unread, fails_entry}
use Rattle.scrib_hold.proofs.RepliesLemmas.{gives_entry, gives_part}
use Rattle.scrib_hold.proofs.held_run.HeldRun.gather_other.Goals as goal

pub returns-in_err-entry-clause-err : goal.returns-in_err-entry-clause-err
returns-in_err-entry-clause-err c =
    let p = err_from_is_err_and c.from_residual.result c.from_residual.ensures.1 in
    rw p.1 (fails_unread c.args.self.now _ c.args.piece.now refl)

pub returns-in_default-clause-ok : goal.returns-in_default-clause-ok
returns-in_default-clause-ok c =
    gathers_none c.args.self.now c.next_entry.new.self c.args.piece.now c.in_ok-entry.rest.now c.in_ok-entry.entry c.in_default.is c.in_ok-entry.ensures.taken

pub returns-in_err-take-clause-err : goal.returns-in_err-take-clause-err
returns-in_err-take-clause-err c =
    let p = err_from_is_err_and c.from_residual-in_err-take.result c.from_residual-in_err-take.ensures.1 in
    rw p.1 (fails_entry c.args.self.now _ c.next_entry.new.self c.args.piece.now c.in_ok-entry.rest.now c.in_ok-entry.entry c.in-Some.entry c.in-Some.is c.in_ok-entry.ensures.taken (gives_part c.args.self.now.monitor c.take.new.self c.in-Some.entry c.in_err-take.ensures.err))

pub returns-clause-ok : goal.returns-clause-ok
returns-clause-ok c =
    gathers_entry c.args.self.now c.next_entry.new.self c.take.new.self c.args.piece.now c.in_ok-entry.rest.now c.in_ok-entry.entry c.in-Some.entry c.in-Some.is c.in_ok-entry.ensures.taken (gives_entry c.args.self.now.monitor c.take.new.self c.in-Some.entry c.in_ok-take.ensures.ok)
