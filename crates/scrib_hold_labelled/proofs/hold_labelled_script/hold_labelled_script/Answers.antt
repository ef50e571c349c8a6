use Rattle.std.proofs.Common.{◌∙◌, ap}
use Rattle.std.proofs.lemmas.Result.{err_from_is_err_and}
use Rattle.scrib_script_io.specs.Faults.{of_script}
use Rattle.scrib_labelled.specs.Readings.{beginning}
use Rattle.scrib_hold_labelled.specs.declared.line_stage.LineStage.{LineStage}
use Rattle.scrib_hold_labelled.specs.Stages.{bound_of}
use Rattle.scrib_hold_labelled.proofs.OutputLemmas.{IsNewReading, flush_failed, flushed, never_started, ran_within, reading_failed}
use Rattle.scrib_hold_labelled.proofs.hold_labelled_script.hold_labelled_script.Goals as goal

pub returns-in_err-piece-clause-err : goal.returns-in_err-piece-clause-err
returns-in_err-piece-clause-err g c =
    let p = err_from_is_err_and c.from_residual.result c.from_residual.ensures.1 in
    rw p.1 (never_started c.args.options c.args.limits.bound (g.R.Read.remaining c.args.reader.now) (g.W.Write.contents c.args.writer.now))

pub returns-in_err-run_by_pieces-clause-err : goal.returns-in_err-run_by_pieces-clause-err
returns-in_err-run_by_pieces-clause-err g c =
    let p = err_from_is_err_and c.from_residual-in_err-run_by_pieces.result c.from_residual-in_err-run_by_pieces.ensures.1 in
    let new : IsNewReading c.args.options c.args.limits.bound c.args.limits.script (beginning c.new-run.result) = record {
      objects = ap (λ (s : LineStage). s.objects) c.new-run.ensures.stage ∙ c.new-stage.ensures.objects;
      bound_is = ap bound_of c.new-run.ensures.stage ∙ c.new-stage.ensures.bound;
      labels = c.new-run.ensures.labels;
      limits = c.new-run.ensures.limits;
    } in
    rw p.1 (reading_failed c.args.options c.args.limits.bound c.args.limits.script (beginning c.new-run.result) (g.R.Read.remaining c.args.reader.now) (g.W.Write.contents c.args.writer.now) (g.W.Write.contents c.run_by_pieces.new.writer) new c.in_err-run_by_pieces.ensures.err)

pub returns-in_err-run_by_pieces-clause-fault : goal.returns-in_err-run_by_pieces-clause-fault
returns-in_err-run_by_pieces-clause-fault g c =
    let p = err_from_is_err_and c.from_residual-in_err-run_by_pieces.result c.from_residual-in_err-run_by_pieces.ensures.1 in
    rw p.1 (ap of_script p.2 ∙ c.in_err-run_by_pieces.ensures.fault)

pub returns-in_err-flush_out-clause-err : goal.returns-in_err-flush_out-clause-err
returns-in_err-flush_out-clause-err g c =
    let p = err_from_is_err_and c.from_residual-in_err-flush_out.result c.from_residual-in_err-flush_out.ensures.1 in
    let new : IsNewReading c.args.options c.args.limits.bound c.args.limits.script (beginning c.new-run.result) = record {
      objects = ap (λ (s : LineStage). s.objects) c.new-run.ensures.stage ∙ c.new-stage.ensures.objects;
      bound_is = ap bound_of c.new-run.ensures.stage ∙ c.new-stage.ensures.bound;
      labels = c.new-run.ensures.labels;
      limits = c.new-run.ensures.limits;
    } in
    rw p.1 (flush_failed c.args.options c.args.limits.bound c.args.limits.script (beginning c.new-run.result) c.run_by_pieces.new.run.stage (g.R.Read.remaining c.args.reader.now) (g.W.Write.contents c.args.writer.now) (g.W.Write.contents c.run_by_pieces.new.writer) (g.W.Write.contents c.flush_out.new.writer) new c.in_ok-run_by_pieces.ensures.ok c.flush_out.ensures.kept)

pub returns-in-Some-clause-ok : goal.returns-in-Some-clause-ok
returns-in-Some-clause-ok g c =
    let new : IsNewReading c.args.options c.args.limits.bound c.args.limits.script (beginning c.new-run.result) = record {
      objects = ap (λ (s : LineStage). s.objects) c.new-run.ensures.stage ∙ c.new-stage.ensures.objects;
      bound_is = ap bound_of c.new-run.ensures.stage ∙ c.new-stage.ensures.bound;
      labels = c.new-run.ensures.labels;
      limits = c.new-run.ensures.limits;
    } in
    flushed c.args.options c.args.limits.bound c.args.limits.script (beginning c.new-run.result) c.run_by_pieces.new.run.stage c.in-Some.counts (g.R.Read.remaining c.args.reader.now) (g.W.Write.contents c.args.writer.now) (g.W.Write.contents c.run_by_pieces.new.writer) (g.W.Write.contents c.flush_out.new.writer) new c.in_ok-run_by_pieces.ensures.ok c.in-Some.is c.flush_out.ensures.kept

pub returns-in-Some-clause-within : goal.returns-in-Some-clause-within
returns-in-Some-clause-within g c =
    let new : IsNewReading c.args.options c.args.limits.bound c.args.limits.script (beginning c.new-run.result) = record {
      objects = ap (λ (s : LineStage). s.objects) c.new-run.ensures.stage ∙ c.new-stage.ensures.objects;
      bound_is = ap bound_of c.new-run.ensures.stage ∙ c.new-stage.ensures.bound;
      labels = c.new-run.ensures.labels;
      limits = c.new-run.ensures.limits;
    } in
    ran_within c.args.options c.args.limits.bound c.args.limits.script (beginning c.new-run.result) c.run_by_pieces.new.run.stage (g.R.Read.remaining c.args.reader.now) (g.W.Write.contents c.args.writer.now) (g.W.Write.contents c.run_by_pieces.new.writer) new c.in_ok-run_by_pieces.ensures.ok

pub returns-clause-err : goal.returns-clause-err
returns-clause-err g c =
    let new : IsNewReading c.args.options c.args.limits.bound c.args.limits.script (beginning c.new-run.result) = record {
      objects = ap (λ (s : LineStage). s.objects) c.new-run.ensures.stage ∙ c.new-stage.ensures.objects;
      bound_is = ap bound_of c.new-run.ensures.stage ∙ c.new-stage.ensures.bound;
      labels = c.new-run.ensures.labels;
      limits = c.new-run.ensures.limits;
    } in
    flush_failed c.args.options c.args.limits.bound c.args.limits.script (beginning c.new-run.result) c.run_by_pieces.new.run.stage (g.R.Read.remaining c.args.reader.now) (g.W.Write.contents c.args.writer.now) (g.W.Write.contents c.run_by_pieces.new.writer) (g.W.Write.contents c.flush_out.new.writer) new c.in_ok-run_by_pieces.ensures.ok c.flush_out.ensures.kept
