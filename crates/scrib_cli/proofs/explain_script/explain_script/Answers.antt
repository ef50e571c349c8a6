use Rattle.std.proofs.Common.{ℕ, List, subst}
use Rattle.std.specs.Io.KnownBytes.{Appends}
use Rattle.std.proofs.lemmas.Result.{err_from_is_err_and}
use Rattle.scrib_script_io.specs.Writes.{AppendsPart}
use Rattle.scrib_cli.specs.declared.output_mode.OutputMode.TheVariants.{Silent}
use Rattle.scrib_script_reader.specs.Limits.{of_scripts}
use Rattle.scrib_cli.proofs.InputLemmas.{ran_within}
use Rattle.scrib_cli.specs.Explanations.{Explanation}
use Rattle.scrib_cli.proofs.SilentRunLemmas.{text_unwritten, text_part, text_all, text_unflushed}
use Rattle.scrib_cli.proofs.explain_script.explain_script.Goals as goal

pub returns-in_err-explained-clause-err : goal.returns-in_err-explained-clause-err
returns-in_err-explained-clause-err g c =
    let p = err_from_is_err_and c.from_residual.result c.from_residual.ensures.1 in
    rw p.1 (text_unwritten (λ w. Explanation w c.args.id) (g.R.Read.remaining c.args.reader.now) (g.W.Write.contents c.args.writer.now) (g.W.Write.contents c.run_silently.new.writer) c.in_err-explained.ensures.err)

pub returns-in_err-write_out-clause-err : goal.returns-in_err-write_out-clause-err
returns-in_err-write_out-clause-err g c =
    let p = err_from_is_err_and c.from_residual-in_err-write_out.result c.from_residual-in_err-write_out.ensures.1 in
    let part = subst (λ (t : List ℕ). AppendsPart (g.W.Write.contents c.run_silently.new.writer) (g.W.Write.contents c.write_out.new.writer) t) c.as_slice.ensures.value c.in_err-write_out.ensures.err in
    rw p.1 (text_part (λ w. Explanation w c.args.id) (g.R.Read.remaining c.args.reader.now) c.in_ok-explained.ensures.ok.0 c.in_ok-explained.explained c.in_ok-explained.text.items (g.W.Write.contents c.args.writer.now) (g.W.Write.contents c.run_silently.new.writer) (g.W.Write.contents c.write_out.new.writer)
    c.in_ok-explained.ensures.ok.1 c.in_ok-explained.ensures.ok.2 part)

pub returns-clause-ok : goal.returns-clause-ok
returns-clause-ok g c =
    let all = subst (λ (t : List ℕ). Appends (g.W.Write.contents c.run_silently.new.writer) (g.W.Write.contents c.write_out.new.writer) t) c.as_slice.ensures.value c.in_ok-write_out.ensures.ok in
    text_all (λ w. Explanation w c.args.id) (g.R.Read.remaining c.args.reader.now) c.in_ok-explained.ensures.ok.0 c.in_ok-explained.explained c.in_ok-explained.text.items (g.W.Write.contents c.args.writer.now) (g.W.Write.contents c.run_silently.new.writer) (g.W.Write.contents c.write_out.new.writer) (g.W.Write.contents c.flush_out.new.writer)
    c.in_ok-explained.ensures.ok.1 c.in_ok-explained.ensures.ok.2 all c.flush_out.ensures.kept

pub returns-in_err-flush_out-clause-err : goal.returns-in_err-flush_out-clause-err
returns-in_err-flush_out-clause-err g c =
    let p = err_from_is_err_and c.from_residual-in_err-flush_out.result c.from_residual-in_err-flush_out.ensures.1 in
    let all = subst (λ (t : List ℕ). Appends (g.W.Write.contents c.run_silently.new.writer) (g.W.Write.contents c.write_out.new.writer) t) c.as_slice.ensures.value c.in_ok-write_out.ensures.ok in
    rw p.1 (text_unflushed (λ w. Explanation w c.args.id) (g.R.Read.remaining c.args.reader.now) c.in_ok-explained.ensures.ok.0 c.in_ok-explained.explained c.in_ok-explained.text.items (g.W.Write.contents c.args.writer.now) (g.W.Write.contents c.run_silently.new.writer) (g.W.Write.contents c.write_out.new.writer) (g.W.Write.contents c.flush_out.new.writer)
    c.in_ok-explained.ensures.ok.1 c.in_ok-explained.ensures.ok.2 all c.flush_out.ensures.kept)

pub returns-clause-within : goal.returns-clause-within
returns-clause-within g c =
    ran_within of_scripts Silent (g.R.Read.remaining c.args.reader.now) c.in_ok-explained.ensures.ok.0 (g.W.Write.contents c.args.writer.now) (g.W.Write.contents c.run_silently.new.writer) c.in_ok-explained.ensures.ok.1
