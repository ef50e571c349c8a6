use Rattle.std.proofs.Common.{List, ℕ, sym, subst, ◌∙◌}
use Rattle.std.specs.Io.KnownBytes.{append_known}
use Rattle.std.proofs.lemmas.Result.{err_from_is_err_and}
use Rattle.scrib_cli.specs.Progress.{FailsWithin, PassesLimitIn}
use Rattle.scrib_cli.proofs.RunLemmas.{stopped_past}
use Rattle.scrib_cli.proofs.GatherLemmas.{gathered_further, gathered_written, fails_within, fails_written}
use Rattle.scrib_cli.proofs.run.ScriptRun.gather_piece.Goals as goal

pub returns-in_err-rest-clause-cut : goal.returns-in_err-rest-clause-cut
returns-in_err-rest-clause-cut g c =
    subst (λ (u : List ℕ). FailsWithin c.args.self.now c.args.piece.now u (g.W.Write.contents c.args.writer.now) (g.W.Write.contents c.loop-rest.writer)) (sym c.in_err-rest.ensures.err)
    (fails_within c.args.self.now c.loop-rest.self c.args.piece.now c.loop-rest.rest.now (g.W.Write.contents c.args.writer.now) (g.W.Write.contents c.loop-rest.writer) c.loop-rest.invariant)

pub returns-in_err-rest-clause-limit : goal.returns-in_err-rest-clause-limit
returns-in_err-rest-clause-limit g c =
    let p = err_from_is_err_and c.from_residual.result c.from_residual.ensures.1 in
    rw p.1 (λ e.
    subst (λ (u : List ℕ). PassesLimitIn c.args.self.now c.args.piece.now (g.W.Write.contents c.args.writer.now) (append_known (g.W.Write.contents c.loop-rest.writer) u)) (sym c.in_err-rest.ensures.err)
    (stopped_past c.args.self.now c.loop-rest.self c.args.piece.now c.loop-rest.rest.now (g.W.Write.contents c.args.writer.now) (append_known (g.W.Write.contents c.loop-rest.writer) c.loop-rest.self.gathered.bytes.items) c.loop-rest.invariant.consumed (c.in_err-rest.ensures.limit (sym p.2 ∙ e))))

pub loop-rest-preserved : goal.loop-rest-preserved
loop-rest-preserved g c =
    gathered_written c.args.self.now c.gather_next.new.self c.write_long.new.self c.args.piece.now c.in_ok-rest.rest.now (g.W.Write.contents c.args.writer.now) (g.W.Write.contents c.loop-rest.writer) (g.W.Write.contents c.write_long.new.writer)
    (gathered_further c.args.self.now c.loop-rest.self c.gather_next.new.self c.args.piece.now c.loop-rest.rest.now c.in_ok-rest.rest.now (g.W.Write.contents c.args.writer.now) (g.W.Write.contents c.loop-rest.writer) c.loop-rest.invariant c.in_ok-rest.ensures.ok)
    c.in_ok-write_long.ensures.ok

pub returns-in_err-write_long-clause-cut : goal.returns-in_err-write_long-clause-cut
returns-in_err-write_long-clause-cut g c =
    fails_written c.args.self.now c.args.piece.now c.gather_next.new.self.gathered.bytes.items c.write_long.new.self.bytes.items (g.W.Write.contents c.args.writer.now) (g.W.Write.contents c.loop-rest.writer) (g.W.Write.contents c.write_long.new.writer)
    (fails_within c.args.self.now c.gather_next.new.self c.args.piece.now c.in_ok-rest.rest.now (g.W.Write.contents c.args.writer.now) (g.W.Write.contents c.loop-rest.writer)
    (gathered_further c.args.self.now c.loop-rest.self c.gather_next.new.self c.args.piece.now c.loop-rest.rest.now c.in_ok-rest.rest.now (g.W.Write.contents c.args.writer.now) (g.W.Write.contents c.loop-rest.writer) c.loop-rest.invariant c.in_ok-rest.ensures.ok))
    c.in_err-write_long.ensures.err c.in_err-write_long.ensures.none

pub returns-clause-cut : goal.returns-clause-cut
returns-clause-cut g c =
    fails_within c.args.self.now c.loop-rest.self c.args.piece.now c.loop-rest.rest.now (g.W.Write.contents c.args.writer.now) (g.W.Write.contents c.loop-rest.writer) c.loop-rest.invariant
