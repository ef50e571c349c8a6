use Rattle.scrib_run_service.proofs.ScriptLemmas.{end_taken}
use Rattle.scrib_run_service.proofs.reading.end_script.Goals as goal

pub returns-clause-ok : goal.returns-clause-ok
returns-clause-ok g c =
    end_taken c.flush.result c.args.connection.now c.submit_any.new.connection c.flush.new.self c.args.script.now c.in_ok-item.item c.requires c.in_ok-item.ensures.ends c.in_ok-submit_any.ensures.took c.flush.ensures.took c.flush.ensures.none
