use Rattle.std.proofs.Common.{length, sym, ◌∙◌, eqb-true}
use Rattle.std.proofs.lemmas.Result.{err_from_is_err_and}
use Rattle.scrib_run_service.proofs.ScriptLemmas.{submitted_none, submitted_further, submitted_front, submitted_all}
use Rattle.scrib_run_service.proofs.reading.submit_items.Goals as goal

pub loop-rest-init : goal.loop-rest-init
loop-rest-init g c = submitted_none c.args.connection.now c.args.script.now c.args.piece.now

pub returns-in_err-rest-clause-read : goal.returns-in_err-rest-clause-read
returns-in_err-rest-clause-read g c =
    let p = err_from_is_err_and c.from_residual.result c.from_residual.ensures.1 in
    rw p.1 (λ e. submitted_front c.args.connection.now c.loop-rest.connection c.submit_next.new.connection c.args.script.now c.loop-rest.script c.args.piece.now c.loop-rest.rest.now c.loop-rest.invariant (c.in_err-rest.ensures.read (sym p.2 ∙ e)))

pub loop-rest-preserved : goal.loop-rest-preserved
loop-rest-preserved g c =
    submitted_further c.args.connection.now c.loop-rest.connection c.submit_next.new.connection c.args.script.now c.loop-rest.script c.submit_next.new.script c.args.piece.now c.loop-rest.rest.now c.in_ok-rest.rest.now
    c.loop-rest.invariant c.in_ok-rest.ensures.ok

pub returns-clause-ok : goal.returns-clause-ok
returns-clause-ok g c =
    submitted_all c.args.connection.now c.loop-rest.connection c.args.script.now c.loop-rest.script c.args.piece.now c.loop-rest.rest.now c.loop-rest.invariant (eqb-true (length c.loop-rest.rest.now) 0 (sym c.loop-rest-test.ensures))
