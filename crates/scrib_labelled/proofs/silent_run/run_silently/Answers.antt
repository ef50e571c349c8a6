use Rattle.std.proofs.Common.{◌∙◌, None, ap}
use Rattle.std.proofs.lemmas.Result.{err_from_is_err_and}
use Rattle.scrib_script_io.specs.Faults.{of_script}
use Rattle.scrib_labelled.specs.Behind.{style_of}
use Rattle.scrib_labelled.specs.Readings.{beginning}
use Rattle.scrib_labelled.proofs.OutputLemmas.{ran_nothing}
use Rattle.scrib_labelled.proofs.QueryLemmas.{ran_silently}
use Rattle.scrib_labelled.proofs.silent_run.run_silently.Goals as goal

pub new-run-requires-clause-new : goal.new-run-requires-clause-new
new-run-requires-clause-new g c = ran_nothing c.new-monitor.result c.new-monitor.ensures.names c.new-monitor.ensures.state

pub returns-in_err-run_by_pieces-clause-fault : goal.returns-in_err-run_by_pieces-clause-fault
returns-in_err-run_by_pieces-clause-fault g c =
    let p = err_from_is_err_and c.from_residual-in_err-run_by_pieces.result c.from_residual-in_err-run_by_pieces.ensures.1 in
    rw p.1 (ap of_script p.2 ∙ c.in_err-run_by_pieces.ensures.fault)

pub returns-clause-ok : goal.returns-clause-ok
returns-clause-ok g c =
    ran_silently c.args.labels (beginning c.new-run.result) (g.R.Read.remaining c.args.reader.now) c.run_by_pieces.new.run.stage None None
    (record { style = ap style_of c.new-run.ensures.stage ∙ c.new-monitor.ensures.style; labels = c.new-run.ensures.labels; limits = c.new-run.ensures.limits ∙ c.of_scripts.ensures })
    c.in_ok-run_by_pieces.ensures.ok c.if-run.false
