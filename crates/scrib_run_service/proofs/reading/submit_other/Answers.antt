use Rattle.std.proofs.lemmas.Result.{err_from_is_err_and}
use Rattle.scrib_script_reader.specs.Scripts.{item_list}
use Rattle.scrib_script_io.proofs.FaultLemmas.{limit_reported}
use Rattle.scrib_run_service.proofs.ScriptLemmas.{carries_past}
use Rattle.scrib_run_service.proofs.reading.submit_other.Goals as goal

pub returns-in_err-item-clause-read : goal.returns-in_err-item-clause-read
returns-in_err-item-clause-read g c =
    let p = err_from_is_err_and c.from_residual.result c.from_residual.ensures.1 in
    rw p.1 (λ e. carries_past c.args.connection.now c.args.script.now c.args.piece.now (c.in_err-item.ensures.limit (limit_reported _ p.0 p.2 e)))

pub returns-clause-ok : goal.returns-clause-ok
returns-clause-ok g c = record {
  items = item_list c.in_ok-item.item;
  spelled = c.in_ok-item.ensures.taken;
  took = c.in_ok-submit_any.ensures.took;
}
