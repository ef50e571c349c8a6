use Rattle.std.proofs.Common.{sym, subst}
use Rattle.std.proofs.lemmas.Result.{err_from_is_err_and}
use Rattle.scrib_core.specs.Answers.{State}
use Rattle.scrib_core.specs.Held.{state_of}
use Rattle.scrib_script_reader.specs.declared.limits.Limits.{Limits}
use Rattle.scrib_cli.specs.Progress.{RunSucceeds, RunFails}
use Rattle.scrib_cli.specs.declared.output_mode.OutputMode.{OutputMode}
use Rattle.scrib_cli.proofs.InputLemmas.{limits_kept, mode_kept, new_itself}
use Rattle.scrib_cli.proofs.RunLemmas.{never_started}
use Rattle.scrib_cli.proofs.run_script.run_whole.Goals as goal

pub run_by_pieces-requires-clause-new : goal.run_by_pieces-requires-clause-new
run_by_pieces-requires-clause-new g c = new_itself c.args.limits c.args.output_mode c.new-run.result c.new-run.ensures

pub returns-clause-ok : goal.returns-clause-ok
returns-clause-ok g c =
    let r = g.R.Read.remaining c.args.reader.now in
    let w = g.W.Write.contents c.args.writer.now in
    let end = g.W.Write.contents c.run_by_pieces.new.writer in
    subst (λ (m : Limits). RunSucceeds m c.args.output_mode r (state_of c.into_core.result) w end) (limits_kept c.args.limits c.args.output_mode c.new-run.result c.new-run.ensures)
    (subst (λ (t : OutputMode). RunSucceeds c.new-run.result.script.limits t r (state_of c.into_core.result) w end) (mode_kept c.args.limits c.args.output_mode c.new-run.result c.new-run.ensures)
    (subst (λ (v : State). RunSucceeds c.new-run.result.script.limits c.new-run.result.output_mode r v w end) (sym c.into_core.ensures) c.in_ok-run_by_pieces.ensures.ok))

pub returns-in_err-run_by_pieces-clause-err : goal.returns-in_err-run_by_pieces-clause-err
returns-in_err-run_by_pieces-clause-err g c =
    let p = err_from_is_err_and c.from_residual-in_err-run_by_pieces.result c.from_residual-in_err-run_by_pieces.ensures.1 in
    rw p.1 (subst (λ (t : OutputMode). RunFails t (g.R.Read.remaining c.args.reader.now) (g.W.Write.contents c.args.writer.now) (g.W.Write.contents c.run_by_pieces.new.writer)) (mode_kept c.args.limits c.args.output_mode c.new-run.result c.new-run.ensures) c.in_err-run_by_pieces.ensures.err)

pub returns-in_err-piece-clause-err : goal.returns-in_err-piece-clause-err
returns-in_err-piece-clause-err g c =
    let p = err_from_is_err_and c.from_residual.result c.from_residual.ensures.1 in
    rw p.1 (never_started c.args.output_mode (g.R.Read.remaining c.args.reader.now) (g.W.Write.contents c.args.writer.now))
