use Rattle.std.proofs.lemmas.Result.{err_from_is_err_and, IfOk-weaker, on_err_weaker}
use Rattle.scrib_script_reader.specs.ShortLines.{short_entry}
use Rattle.scrib_hold.proofs.HeldRunLemmas.{gathers_line, fails_line, gathers_later, fails_later}
use Rattle.scrib_hold.proofs.RepliesLemmas.{gives_entry, gives_part}
use Rattle.scrib_hold.proofs.held_run.HeldRun.gather_next.Goals as goal

pub returns-in_err-take_short-in-Some-clause-err : goal.returns-in_err-take_short-in-Some-clause-err
returns-in_err-take_short-in-Some-clause-err c =
    let p = err_from_is_err_and c.from_residual.result c.from_residual.ensures.1 in
    rw p.1 (fails_line c.args.self.now _ c.next_short.new.self c.args.piece.now c.in-Some.rest.now (short_entry c.in-Some.line) c.in-Some.ensures.entry
    (gives_part c.args.self.now.monitor c.take_short.new.self (short_entry c.in-Some.line) c.in_err-take_short-in-Some.ensures.err))

pub returns-in_ok-take_short-in-Some-clause-ok : goal.returns-in_ok-take_short-in-Some-clause-ok
returns-in_ok-take_short-in-Some-clause-ok c =
    gathers_line c.args.self.now c.next_short.new.self c.take_short.new.self c.args.piece.now c.in-Some.rest.now (short_entry c.in-Some.line) c.in-Some.ensures.entry
    (gives_entry c.args.self.now.monitor c.take_short.new.self (short_entry c.in-Some.line) c.in_ok-take_short-in-Some.ensures.ok)

pub returns-in-None-clause-ok : goal.returns-in-None-clause-ok
returns-in-None-clause-ok c =
    IfOk-weaker c.gather_other.result _ _
    (λ rest f. gathers_later c.args.self.now c.gather_other.new.self c.next_short.new.self c.args.piece.now rest.now c.in-None.ensures.entry f)
    c.gather_other.ensures.ok

pub returns-in-None-clause-err : goal.returns-in-None-clause-err
returns-in-None-clause-err c =
    on_err_weaker c.gather_other.result
    (λ f. fails_later c.args.self.now c.gather_other.new.self c.next_short.new.self c.args.piece.now c.in-None.ensures.entry f)
    c.gather_other.ensures.err
