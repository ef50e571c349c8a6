use Rattle.std.proofs.Common.{ℕ, List, subst}
use Rattle.std.specs.Io.KnownBytes.{Appends}
use Rattle.std.proofs.lemmas.Result.{err_from_is_err_and}
use Rattle.scrib_script_io.specs.Writes.{AppendsPart}
use Rattle.scrib_labelled.specs.LabelledQueries.{IsLabelledExplanation}
use Rattle.scrib_labelled.proofs.QueryLemmas.{text_all, text_part, text_unflushed, text_unwritten, text_within}
use Rattle.scrib_labelled.proofs.explain_labelled_script.explain_labelled_script.Goals as goal

pub returns-in_err-explained-clause-err : goal.returns-in_err-explained-clause-err
returns-in_err-explained-clause-err g c =
    let p = err_from_is_err_and c.from_residual.result c.from_residual.ensures.1 in
    rw p.1 (text_unwritten (λ input. IsLabelledExplanation c.args.labels input c.args.key) (g.R.Read.remaining c.args.reader.now) (g.W.Write.contents c.args.writer.now))

pub returns-in_err-write_out-clause-err : goal.returns-in_err-write_out-clause-err
returns-in_err-write_out-clause-err g c =
    let p = err_from_is_err_and c.from_residual-in_err-write_out.result c.from_residual-in_err-write_out.ensures.1 in
    let part = subst (λ (t : List ℕ). AppendsPart (g.W.Write.contents c.args.writer.now) (g.W.Write.contents c.write_out.new.writer) t) c.as_slice.ensures.value c.in_err-write_out.ensures.err in
    rw p.1 (text_part (λ input. IsLabelledExplanation c.args.labels input c.args.key) (g.R.Read.remaining c.args.reader.now) c.in_ok-explained.explained c.in_ok-explained.text.items (g.W.Write.contents c.args.writer.now) (g.W.Write.contents c.write_out.new.writer) c.in_ok-explained.ensures.ok part)

pub returns-clause-ok : goal.returns-clause-ok
returns-clause-ok g c =
    let all = subst (λ (t : List ℕ). Appends (g.W.Write.contents c.args.writer.now) (g.W.Write.contents c.write_out.new.writer) t) c.as_slice.ensures.value c.in_ok-write_out.ensures.ok in
    text_all (λ input. IsLabelledExplanation c.args.labels input c.args.key) (g.R.Read.remaining c.args.reader.now) c.in_ok-explained.explained c.in_ok-explained.text.items (g.W.Write.contents c.args.writer.now) (g.W.Write.contents c.write_out.new.writer) (g.W.Write.contents c.flush_out.new.writer) c.in_ok-explained.ensures.ok all c.flush_out.ensures.kept

pub returns-in_err-flush_out-clause-err : goal.returns-in_err-flush_out-clause-err
returns-in_err-flush_out-clause-err g c =
    let p = err_from_is_err_and c.from_residual-in_err-flush_out.result c.from_residual-in_err-flush_out.ensures.1 in
    let all = subst (λ (t : List ℕ). Appends (g.W.Write.contents c.args.writer.now) (g.W.Write.contents c.write_out.new.writer) t) c.as_slice.ensures.value c.in_ok-write_out.ensures.ok in
    rw p.1 (text_unflushed (λ input. IsLabelledExplanation c.args.labels input c.args.key) (g.R.Read.remaining c.args.reader.now) c.in_ok-explained.explained c.in_ok-explained.text.items (g.W.Write.contents c.args.writer.now) (g.W.Write.contents c.write_out.new.writer) (g.W.Write.contents c.flush_out.new.writer) c.in_ok-explained.ensures.ok all c.flush_out.ensures.kept)

pub returns-clause-within : goal.returns-clause-within
returns-clause-within g c = text_within (λ input. IsLabelledExplanation c.args.labels input c.args.key) (g.R.Read.remaining c.args.reader.now) c.in_ok-explained.explained c.in_ok-explained.text.items c.in_ok-explained.ensures.ok
