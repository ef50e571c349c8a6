use Rattle.std.proofs.Common.{inr, ℕ, List, [], sym, subst}
use Rattle.std.specs.Io.KnownBytes.{Appends}
use Rattle.std.proofs.lemmas.List.{append-nil}
use Rattle.std.proofs.lemmas.Result.{err_from_is_err_and}
use Rattle.scrib_script_io.specs.Writes.{AppendsPart}
use Rattle.scrib_cli.specs.Projections.{IsQueryOutput, FaultImplies}
use Rattle.scrib_script_io.proofs.WriterLemmas.{appends_kept}
use Rattle.scrib_cli.proofs.role_query.write_projection.Goals as goal

pub returns-in_err-write_out-clause-err : goal.returns-in_err-write_out-clause-err
returns-in_err-write_out-clause-err g c =
    let p = err_from_is_err_and c.from_residual-in_err-write_out.result c.from_residual-in_err-write_out.ensures.1 in
    let line = c.in_ok-has_projection.written.items in
    let part = subst (λ (t : List ℕ). AppendsPart (g.W.Write.contents c.args.writer.now) (g.W.Write.contents c.write_out.new.writer) t) c.as_slice.ensures.value c.in_err-write_out.ensures.err in
    let projecting : IsQueryOutput c.args.query.now c.args.texts.now c.in_ok-has_projection.has_projection line = (c.in_ok-projection.projection, c.in_ok-projection.ensures.ok, c.in_ok-has_projection.ensures.0, c.in_ok-has_projection.ensures.1) in
    rw p.1 (inr (c.in_ok-has_projection.has_projection, line, projecting, part))

pub returns-in_err-flush_out-clause-err : goal.returns-in_err-flush_out-clause-err
returns-in_err-flush_out-clause-err g c =
    let p = err_from_is_err_and c.from_residual-in_err-flush_out.result c.from_residual-in_err-flush_out.ensures.1 in
    let line = c.in_ok-has_projection.written.items in
    let all = subst (λ (t : List ℕ). Appends (g.W.Write.contents c.args.writer.now) (g.W.Write.contents c.write_out.new.writer) t) c.as_slice.ensures.value c.in_ok-write_out.ensures.ok in
    let kept : Appends (g.W.Write.contents c.args.writer.now) (g.W.Write.contents c.flush_out.new.writer) line =
    appends_kept (g.W.Write.contents c.args.writer.now) (g.W.Write.contents c.write_out.new.writer) (g.W.Write.contents c.flush_out.new.writer) line all c.flush_out.ensures.kept in
    let projecting : IsQueryOutput c.args.query.now c.args.texts.now c.in_ok-has_projection.has_projection line = (c.in_ok-projection.projection, c.in_ok-projection.ensures.ok, c.in_ok-has_projection.ensures.0, c.in_ok-has_projection.ensures.1) in
    rw p.1 (inr (c.in_ok-has_projection.has_projection, line, projecting, (line, [], sym (append-nil line), kept)))

pub returns-in_err-write_out-clause-fault : goal.returns-in_err-write_out-clause-fault
returns-in_err-write_out-clause-fault g c =
    let p = err_from_is_err_and c.from_residual-in_err-write_out.result c.from_residual-in_err-write_out.ensures.1 in
    let line = c.in_ok-has_projection.written.items in
    let projecting : IsQueryOutput c.args.query.now c.args.texts.now c.in_ok-has_projection.has_projection line = (c.in_ok-projection.projection, c.in_ok-projection.ensures.ok, c.in_ok-has_projection.ensures.0, c.in_ok-has_projection.ensures.1) in
    rw (p.1, p.2) (subst (λ e. FaultImplies c.args.query.now c.args.texts.now e) (sym c.in_err-write_out.ensures.fault) (c.in_ok-has_projection.has_projection, line, projecting))
