use Rattle.scrib_core.specs.Held.{state_of}
use Rattle.scrib_cli.specs.declared.output_mode.OutputMode.TheVariants.{Printed}
use Rattle.scrib_cli.proofs.Results.{on_ok_any, on_err_any}
use Rattle.scrib_cli.proofs.InputLemmas.{flushed, flush_failed, ran_within}
use Rattle.scrib_cli.proofs.run_script.run_script_within.Goals as goal

pub returns-clause-ok : goal.returns-clause-ok
returns-clause-ok g c =
    on_ok_any c.flush_out.result
    (flushed c.args.limits c.args.format (g.R.Read.remaining c.args.reader.now) (state_of c.in_ok-core.core) (g.W.Write.contents c.args.writer.now) (g.W.Write.contents c.run_whole.new.writer) (g.W.Write.contents c.flush_out.new.writer) c.in_ok-core.ensures.ok c.flush_out.ensures.kept)

pub returns-clause-err : goal.returns-clause-err
returns-clause-err g c =
    on_err_any c.flush_out.result
    (flush_failed c.args.limits c.args.format (g.R.Read.remaining c.args.reader.now) (state_of c.in_ok-core.core) (g.W.Write.contents c.args.writer.now) (g.W.Write.contents c.run_whole.new.writer) (g.W.Write.contents c.flush_out.new.writer) c.in_ok-core.ensures.ok c.flush_out.ensures.kept)

pub returns-clause-within : goal.returns-clause-within
returns-clause-within g c =
    on_ok_any c.flush_out.result (ran_within c.args.limits (Printed c.args.format) (g.R.Read.remaining c.args.reader.now) (state_of c.in_ok-core.core) (g.W.Write.contents c.args.writer.now) (g.W.Write.contents c.run_whole.new.writer) c.in_ok-core.ensures.ok)
