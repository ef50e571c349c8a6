use Rattle.std.proofs.Common.{◌∙◌, ap}
use Rattle.std.proofs.lemmas.Result.{err_from_is_err_and}
use Rattle.scrib_script_io.specs.Faults.{of_script}
use Rattle.scrib_labelled.specs.Readings.{beginning}
use Rattle.scrib_sweeping.specs.SweepingMonitors.{style_of}
use Rattle.scrib_sweeping.proofs.OutputLemmas.{IsNewReading, flush_failed, flushed, never_started, ran_within, reading_failed}
use Rattle.scrib_sweeping.proofs.run_sweeping_script.run_sweeping_script.Goals as goal

pub returns-in_err-piece-clause-err : goal.returns-in_err-piece-clause-err
returns-in_err-piece-clause-err g c =
    let p = err_from_is_err_and c.from_residual.result c.from_residual.ensures.1 in
    rw p.1 (never_started c.args.style (g.R.Read.remaining c.args.reader.now) (g.W.Write.contents c.args.writer.now))

pub returns-in_err-run_by_pieces-clause-err : goal.returns-in_err-run_by_pieces-clause-err
returns-in_err-run_by_pieces-clause-err g c =
    let p = err_from_is_err_and c.from_residual-in_err-run_by_pieces.result c.from_residual-in_err-run_by_pieces.ensures.1 in
    let new : IsNewReading c.args.style c.args.limits (beginning c.new-run.result) = record {
      style = ap style_of c.new-run.ensures.stage ∙ c.new-monitor.ensures.style;
      labels = c.new-run.ensures.labels;
      limits = c.new-run.ensures.limits;
    } in
    rw p.1 (reading_failed c.args.style c.args.limits (beginning c.new-run.result) (g.R.Read.remaining c.args.reader.now) (g.W.Write.contents c.args.writer.now) (g.W.Write.contents c.run_by_pieces.new.writer) new c.in_err-run_by_pieces.ensures.err)

pub returns-in_err-run_by_pieces-clause-fault : goal.returns-in_err-run_by_pieces-clause-fault
returns-in_err-run_by_pieces-clause-fault g c =
    let p = err_from_is_err_and c.from_residual-in_err-run_by_pieces.result c.from_residual-in_err-run_by_pieces.ensures.1 in
    rw p.1 (ap of_script p.2 ∙ c.in_err-run_by_pieces.ensures.fault)

pub returns-in_err-flush_out-clause-err : goal.returns-in_err-flush_out-clause-err
returns-in_err-flush_out-clause-err g c =
    let p = err_from_is_err_and c.from_residual-in_err-flush_out.result c.from_residual-in_err-flush_out.ensures.1 in
    let new : IsNewReading c.args.style c.args.limits (beginning c.new-run.result) = record {
      style = ap style_of c.new-run.ensures.stage ∙ c.new-monitor.ensures.style;
      labels = c.new-run.ensures.labels;
      limits = c.new-run.ensures.limits;
    } in
    rw p.1 (flush_failed c.args.style c.args.limits (beginning c.new-run.result) c.run_by_pieces.new.run.stage (g.R.Read.remaining c.args.reader.now) (g.W.Write.contents c.args.writer.now) (g.W.Write.contents c.run_by_pieces.new.writer) (g.W.Write.contents c.flush_out.new.writer) new c.in_ok-run_by_pieces.ensures.ok c.flush_out.ensures.kept)

pub returns-clause-ok : goal.returns-clause-ok
returns-clause-ok g c =
    let new : IsNewReading c.args.style c.args.limits (beginning c.new-run.result) = record {
      style = ap style_of c.new-run.ensures.stage ∙ c.new-monitor.ensures.style;
      labels = c.new-run.ensures.labels;
      limits = c.new-run.ensures.limits;
    } in
    flushed c.args.style c.args.limits (beginning c.new-run.result) c.run_by_pieces.new.run.stage (g.R.Read.remaining c.args.reader.now) (g.W.Write.contents c.args.writer.now) (g.W.Write.contents c.run_by_pieces.new.writer) (g.W.Write.contents c.flush_out.new.writer) new c.in_ok-run_by_pieces.ensures.ok c.flush_out.ensures.kept

pub returns-clause-within : goal.returns-clause-within
returns-clause-within g c =
    let new : IsNewReading c.args.style c.args.limits (beginning c.new-run.result) = record {
      style = ap style_of c.new-run.ensures.stage ∙ c.new-monitor.ensures.style;
      labels = c.new-run.ensures.labels;
      limits = c.new-run.ensures.limits;
    } in
    ran_within c.args.style c.args.limits (beginning c.new-run.result) c.run_by_pieces.new.run.stage (g.R.Read.remaining c.args.reader.now) (g.W.Write.contents c.args.writer.now) (g.W.Write.contents c.run_by_pieces.new.writer) new c.in_ok-run_by_pieces.ensures.ok
