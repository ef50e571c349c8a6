use Rattle.std.proofs.Common.{ℕ, List, subst}
use Rattle.std.specs.Io.KnownBytes.{Appends}
use Rattle.std.proofs.lemmas.Result.{err_from_is_err_and, on_ok_weaker}
use Rattle.scrib_script_io.specs.Writes.{AppendsPart}
use Rattle.scrib_hold_lines.proofs.RunLemmas.{taken_cut}
use Rattle.scrib_hold_lines.proofs.line_run.LineRun.take_piece.Goals as goal

pub returns-in_err-write_out-clause-err : goal.returns-in_err-write_out-clause-err
returns-in_err-write_out-clause-err g c =
    let p = err_from_is_err_and c.from_residual.result c.from_residual.ensures.1 in
    let part = subst (λ (b : List ℕ). AppendsPart (g.W.Write.contents c.args.writer.now) (g.W.Write.contents c.write_out.new.writer) b) c.as_slice.ensures.value c.in_err-write_out.ensures.err in
    rw p.1 (taken_cut c.gather_piece-taken.result c.args.self.now c.gather_piece-taken.new.self c.args.piece.now c.gather_piece-taken.new.self.lines.output.items (g.W.Write.contents c.args.writer.now) (g.W.Write.contents c.write_out.new.writer)
    c.gather_piece-taken.ensures.ok c.gather_piece-taken.ensures.err part)

pub returns-clause-ok : goal.returns-clause-ok
returns-clause-ok g c =
    let whole = subst (λ (b : List ℕ). Appends (g.W.Write.contents c.args.writer.now) (g.W.Write.contents c.write_out.new.writer) b) c.as_slice.ensures.value c.in_ok-write_out.ensures.ok in
    on_ok_weaker c.gather_piece-taken.result
    (λ went. (c.gather_piece-taken.new.self.lines.output.items, went, whole))
    c.gather_piece-taken.ensures.ok
