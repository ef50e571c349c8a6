use Rattle.std.proofs.Common.{refl}
use Rattle.std.proofs.lemmas.Result.{err_from_is_err_and}
use Rattle.scrib_hold_labelled.proofs.StageLemmas.{ends, fails_at_end, fails_last}
use Rattle.scrib_hold_labelled.proofs.line_stage.LineStage.end.Goals as goal

pub returns-in_default-clause-err : goal.returns-in_default-clause-err
returns-in_default-clause-err c = fails_at_end c.args.self.now _ c.in_default.ensures.err

pub returns-in_err-add_bytes-clause-err : goal.returns-in_err-add_bytes-clause-err
returns-in_err-add_bytes-clause-err c =
    let p = err_from_is_err_and c.from_residual.result c.from_residual.ensures.1 in
    rw p.1 (fails_last c.args.self.now _ c.finish.new.self c.in-Ok.counts c.in-Ok.ensures.ok c.in_err-add_bytes.ensures.err)

pub returns-clause-ok : goal.returns-clause-ok
returns-clause-ok c = ends c.args.self.now _ c.finish.new.self c.in-Ok.counts c.as_slice.result.now c.in-Ok.ensures.ok refl c.as_slice.ensures.value c.in_ok-add_bytes.ensures.ok
