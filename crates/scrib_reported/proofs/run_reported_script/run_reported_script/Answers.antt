use Rattle.std.proofs.Common.{◌∙◌, ap}
use Rattle.std.proofs.lemmas.Result.{err_from_is_err_and}
use Rattle.scrib_script_io.specs.Faults.{of_script}
use Rattle.scrib_labelled.specs.declared.label_options.LabelledStyle.{LabelledStyle}
use Rattle.scrib_reported.specs.declared.reporting_monitor.ReportingMonitor.{ReportingMonitor}
use Rattle.scrib_labelled.specs.Readings.{beginning}
use Rattle.scrib_reported.proofs.OutputLemmas.{failed_after, flushed, never_started, ran_within, reading_failed}
use Rattle.scrib_reported.proofs.EntryLemmas.{ran_nothing}
use Rattle.scrib_reported.proofs.run_reported_script.run_reported_script.Goals as goal

pub new-run-requires-clause-new : goal.new-run-requires-clause-new
new-run-requires-clause-new g c = ran_nothing c.new-monitor.result c.new-monitor.ensures.names c.new-monitor.ensures.kept c.new-monitor.ensures.state c.new-monitor.ensures.counted

pub returns-in_err-piece-clause-err : goal.returns-in_err-piece-clause-err
returns-in_err-piece-clause-err g c =
    let p = err_from_is_err_and c.from_residual.result c.from_residual.ensures.1 in
    rw p.1 (never_started c.args.style (g.R.Read.remaining c.args.reader.now) (g.W.Write.contents c.args.writer.now))

pub returns-in_err-run_by_pieces-clause-err : goal.returns-in_err-run_by_pieces-clause-err
returns-in_err-run_by_pieces-clause-err g c =
    let p = err_from_is_err_and c.from_residual-in_err-run_by_pieces.result c.from_residual-in_err-run_by_pieces.ensures.1 in
    rw p.1
    (reading_failed c.args.style c.args.limits (beginning c.new-run.result) (g.R.Read.remaining c.args.reader.now) (g.W.Write.contents c.args.writer.now) (g.W.Write.contents c.run_by_pieces.new.writer)
    (record { style = ap (λ (m : ReportingMonitor). m.style) c.new-run.ensures.stage ∙ c.new-monitor.ensures.style; labels = c.new-run.ensures.labels; limits = c.new-run.ensures.limits }) c.in_err-run_by_pieces.ensures.err)

pub returns-in_err-run_by_pieces-clause-fault : goal.returns-in_err-run_by_pieces-clause-fault
returns-in_err-run_by_pieces-clause-fault g c =
    let p = err_from_is_err_and c.from_residual-in_err-run_by_pieces.result c.from_residual-in_err-run_by_pieces.ensures.1 in
    rw p.1 (ap of_script p.2 ∙ c.in_err-run_by_pieces.ensures.fault)

pub returns-in_err-flush_out-clause-err : goal.returns-in_err-flush_out-clause-err
returns-in_err-flush_out-clause-err g c =
    let p = err_from_is_err_and c.from_residual-in_err-flush_out.result c.from_residual-in_err-flush_out.ensures.1 in
    rw p.1
    (failed_after c.args.style c.args.limits (beginning c.new-run.result) c.run_by_pieces.new.run.stage (g.R.Read.remaining c.args.reader.now) (g.W.Write.contents c.args.writer.now) (g.W.Write.contents c.run_by_pieces.new.writer) (g.W.Write.contents c.flush_out.new.writer)
    (record { style = ap (λ (m : ReportingMonitor). m.style) c.new-run.ensures.stage ∙ c.new-monitor.ensures.style; labels = c.new-run.ensures.labels; limits = c.new-run.ensures.limits }) c.in_ok-run_by_pieces.ensures.ok c.flush_out.ensures.kept)

pub returns-in_err-flush_out-clause-fault : goal.returns-in_err-flush_out-clause-fault
returns-in_err-flush_out-clause-fault g c =
    let p = err_from_is_err_and c.from_residual-in_err-flush_out.result c.from_residual-in_err-flush_out.ensures.1 in
    rw p.1 (ap of_script (p.2 ∙ c.in_err-flush_out.ensures.fault))

pub returns-in_err-total-clause-err : goal.returns-in_err-total-clause-err
returns-in_err-total-clause-err g c =
    let p = err_from_is_err_and c.from_residual-in_err-total.result c.from_residual-in_err-total.ensures.1 in
    rw p.1
    (failed_after c.args.style c.args.limits (beginning c.new-run.result) c.run_by_pieces.new.run.stage (g.R.Read.remaining c.args.reader.now) (g.W.Write.contents c.args.writer.now) (g.W.Write.contents c.run_by_pieces.new.writer) (g.W.Write.contents c.flush_out.new.writer)
    (record { style = ap (λ (m : ReportingMonitor). m.style) c.new-run.ensures.stage ∙ c.new-monitor.ensures.style; labels = c.new-run.ensures.labels; limits = c.new-run.ensures.limits }) c.in_ok-run_by_pieces.ensures.ok c.flush_out.ensures.kept)

pub returns-in_err-total-clause-fault : goal.returns-in_err-total-clause-fault
returns-in_err-total-clause-fault g c =
    let p = err_from_is_err_and c.from_residual-in_err-total.result c.from_residual-in_err-total.ensures.1 in
    rw p.1 (ap of_script p.2)

pub returns-clause-ok : goal.returns-clause-ok
returns-clause-ok g c =
    flushed c.args.style c.args.limits (beginning c.new-run.result) c.run_by_pieces.new.run.stage (g.R.Read.remaining c.args.reader.now) (g.W.Write.contents c.args.writer.now) (g.W.Write.contents c.run_by_pieces.new.writer) (g.W.Write.contents c.flush_out.new.writer)
    c.in_ok-total.total
    (record { style = ap (λ (m : ReportingMonitor). m.style) c.new-run.ensures.stage ∙ c.new-monitor.ensures.style; labels = c.new-run.ensures.labels; limits = c.new-run.ensures.limits }) c.in_ok-run_by_pieces.ensures.ok c.flush_out.ensures.kept
    c.in_ok-total.ensures

pub returns-clause-within : goal.returns-clause-within
returns-clause-within g c =
    ran_within c.args.style c.args.limits (beginning c.new-run.result) c.run_by_pieces.new.run.stage (g.R.Read.remaining c.args.reader.now) (g.W.Write.contents c.args.writer.now) (g.W.Write.contents c.run_by_pieces.new.writer)
    (record { style = ap (λ (m : ReportingMonitor). m.style) c.new-run.ensures.stage ∙ c.new-monitor.ensures.style; labels = c.new-run.ensures.labels; limits = c.new-run.ensures.limits }) c.in_ok-run_by_pieces.ensures.ok
