use Rattle.std.proofs.lemmas.Result.{IfOk-weaker, IfErr-weaker}
use Rattle.scrib_script_reader.specs.ShortLines.{short_items}
use Rattle.scrib_run_service.proofs.ScriptLemmas.{carries_after, front_after}
use Rattle.scrib_run_service.proofs.reading.submit_next.Goals as goal

pub returns-in-None-clause-ok : goal.returns-in-None-clause-ok
returns-in-None-clause-ok g c =
    IfOk-weaker c.submit_other.result _ _
    (λ rest f. carries_after c.args.connection.now c.submit_other.new.connection c.args.script.now c.next_short.new.self c.submit_other.new.script c.args.piece.now rest.now c.in-None.ensures.taken f)
    c.submit_other.ensures.ok

pub returns-in-None-clause-read : goal.returns-in-None-clause-read
returns-in-None-clause-read g c =
    IfErr-weaker c.submit_other.result _ _
    (λ _ carries e. front_after c.args.connection.now c.submit_other.new.connection c.args.script.now c.next_short.new.self c.args.piece.now c.in-None.ensures.taken (carries e))
    c.submit_other.ensures.read

pub returns-in_ok-submit_short-in-Some-clause-ok : goal.returns-in_ok-submit_short-in-Some-clause-ok
returns-in_ok-submit_short-in-Some-clause-ok g c = record {
  items = short_items c.in-Some.line;
  spelled = c.in-Some.ensures.taken;
  took = c.in_ok-submit_short-in-Some.ensures.took;
}
