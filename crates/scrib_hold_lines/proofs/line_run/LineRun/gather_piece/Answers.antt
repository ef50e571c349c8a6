use Rattle.std.proofs.lemmas.Result.{err_from_is_err_and}
use Rattle.scrib_hold_lines.proofs.RunLemmas.{consumed_none, consumed_more, consumed_all, consumed_fails}
use Rattle.scrib_hold_lines.proofs.line_run.LineRun.gather_piece.Goals as goal

pub loop-rest-init : goal.loop-rest-init
loop-rest-init c = record { consumed = consumed_none c.args.self.now c.clear.new.self c.args.piece.now c.clear.ensures.items; placed = c.requires }

pub returns-in_err-rest-clause-err : goal.returns-in_err-rest-clause-err
returns-in_err-rest-clause-err c =
    let p = err_from_is_err_and c.from_residual.result c.from_residual.ensures.1 in
    rw p.1 (consumed_fails c.args.self.now c.loop-rest.self c.gather_next.new.self c.args.piece.now c.loop-rest.rest.now c.loop-rest.invariant.consumed c.in_err-rest.ensures.err)

pub loop-rest-preserved : goal.loop-rest-preserved
loop-rest-preserved c = record {
  consumed = consumed_more c.args.self.now c.loop-rest.self c.gather_next.new.self c.args.piece.now c.loop-rest.rest.now c.in_ok-rest.rest.now c.loop-rest.invariant.consumed c.in_ok-rest.ensures.ok;
  placed = c.in_ok-rest.ensures.placed;
}

pub returns-clause-ok : goal.returns-clause-ok
returns-clause-ok c = consumed_all c.args.self.now c.loop-rest.self c.args.piece.now c.loop-rest.rest.now c.loop-rest.invariant.consumed c.loop-rest-test.ensures
