use Rattle.std.proofs.lemmas.Result.{IfOk-weaker}
use Rattle.scrib_labelled.specs.LabelledQueries.{NextStepsOf, number_meant}
use Rattle.scrib_labelled.proofs.QueryLemmas.{memory_fault, text_behind}
use Rattle.scrib_labelled.proofs.next_labelled_script.steps_in.Goals as goal

pub returns-clause-ok : goal.returns-clause-ok
returns-clause-ok g c =
    IfOk-weaker c.steps_behind.result _ _
    (λ r h. text_behind (λ names after. NextStepsOf after.world (number_meant names c.args.key)) c.args.labels (g.R.Read.remaining c.args.reader.now) c.in_ok-monitor.monitor r.0 r.1.items c.in_ok-monitor.ensures.ok h) c.steps_behind.ensures.steps

pub returns-clause-fault : goal.returns-clause-fault
returns-clause-fault g c = memory_fault c.steps_behind.result c.steps_behind.ensures.fault
