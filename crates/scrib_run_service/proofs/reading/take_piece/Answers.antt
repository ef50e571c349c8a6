use Rattle.scrib_run_service.proofs.ScriptLemmas.{piece_flushed, front_flushed}
use Rattle.scrib_run_service.proofs.reading.take_piece.Goals as goal

pub returns-clause-ok : goal.returns-clause-ok
returns-clause-ok g c =
    piece_flushed c.args.connection.now c.submit_items-submitted.new.connection c.flush.new.self c.requires c.in_ok-flush.ensures.took c.in_ok-flush.ensures.none c.submit_items-submitted.result c.args.script.now c.submit_items-submitted.new.script c.args.piece.now c.submit_items-submitted.ensures.ok

pub returns-clause-read : goal.returns-clause-read
returns-clause-read g c =
    front_flushed c.args.connection.now c.submit_items-submitted.new.connection c.flush.new.self c.requires c.in_ok-flush.ensures.took c.in_ok-flush.ensures.none c.submit_items-submitted.result c.args.script.now c.args.piece.now c.submit_items-submitted.ensures.read
