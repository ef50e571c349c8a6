use Rattle.std.proofs.Common.{subst}
use Rattle.std.proofs.lemmas.Result.{err_from_is_err_and}
use Rattle.scrib_core.specs.Held.{state_of}
use Rattle.scrib_script_reader.specs.declared.limits.Limits.{Limits}
use Rattle.scrib_cli.specs.declared.output_mode.OutputMode.TheVariants.{Silent}
use Rattle.scrib_cli.specs.Progress.{RunSucceeds}
use Rattle.scrib_cli.proofs.SilentRunLemmas.{run_stopped, wrote_nothing}
use Rattle.scrib_cli.proofs.explain_script.run_silently.Goals as goal

pub returns-in_err-core-clause-err : goal.returns-in_err-core-clause-err
returns-in_err-core-clause-err g c =
    let p = err_from_is_err_and c.from_residual.result c.from_residual.ensures.1 in
    rw p.1 (run_stopped (g.R.Read.remaining c.args.reader.now) (g.W.Write.contents c.args.writer.now) (g.W.Write.contents c.run_whole.new.writer) c.in_err-core.ensures.err)

pub returns-in_err-printed-clause-err : goal.returns-in_err-printed-clause-err
returns-in_err-printed-clause-err g c =
    let p = err_from_is_err_and c.from_residual-in_err-printed.result c.from_residual-in_err-printed.ensures.1 in
    let r = g.R.Read.remaining c.args.reader.now in
    let was = g.W.Write.contents c.args.writer.now in
    let now = g.W.Write.contents c.run_whole.new.writer in
    rw p.1 (wrote_nothing r (state_of c.in_ok-core.core) was now (subst (λ (m : Limits). RunSucceeds m Silent r (state_of c.in_ok-core.core) was now) c.of_scripts.ensures c.in_ok-core.ensures.ok))

pub returns-clause-ok : goal.returns-clause-ok
returns-clause-ok g c =
    let ran = subst (λ (m : Limits). RunSucceeds m Silent (g.R.Read.remaining c.args.reader.now) (state_of c.in_ok-core.core) (g.W.Write.contents c.args.writer.now) (g.W.Write.contents c.run_whole.new.writer)) c.of_scripts.ensures c.in_ok-core.ensures.ok in
    (state_of c.in_ok-core.core, ran, c.in_ok-printed.ensures.explained)
