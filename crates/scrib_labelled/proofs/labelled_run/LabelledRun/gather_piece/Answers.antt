use Rattle.std.proofs.lemmas.Result.{err_from_is_err_and}
use Rattle.scrib_labelled.proofs.PieceLemmas.{consumed_none, consumed_more, consumed_fails, consumed_written, consumed_cut}
use Rattle.scrib_labelled.proofs.labelled_run.LabelledRun.gather_piece.Goals as goal

pub loop-rest-init : goal.loop-rest-init
loop-rest-init g c =
    consumed_none g.S.EntryStage.Took g.S.EntryStage.gathered c.args.self.now c.clear.new.self c.args.piece.now (g.W.Write.contents c.args.writer.now) c.clear.ensures.kept c.clear.ensures.none

pub returns-in_err-rest-clause-err : goal.returns-in_err-rest-clause-err
returns-in_err-rest-clause-err g c =
    let p = err_from_is_err_and c.from_residual.result c.from_residual.ensures.1 in
    rw p.1
    (consumed_fails g.S.EntryStage.Took g.S.EntryStage.TookPart g.S.EntryStage.gathered c.args.self.now c.loop-rest.self c.gather_next.new.self c.args.piece.now c.loop-rest.rest.now (g.W.Write.contents c.args.writer.now) (g.W.Write.contents c.loop-rest.writer)
    c.loop-rest.invariant c.in_err-rest.ensures.err)

pub loop-rest-preserved : goal.loop-rest-preserved
loop-rest-preserved g c =
    consumed_written g.S.EntryStage.Took g.S.EntryStage.gathered c.args.self.now c.gather_next.new.self c.write_long.new.self c.args.piece.now c.in_ok-rest.rest.now (g.W.Write.contents c.args.writer.now) (g.W.Write.contents c.loop-rest.writer) (g.W.Write.contents c.write_long.new.writer)
    c.write_long.ensures.kept
    (consumed_more g.S.EntryStage.Took g.S.EntryStage.gathered c.args.self.now c.loop-rest.self c.gather_next.new.self c.args.piece.now c.loop-rest.rest.now c.in_ok-rest.rest.now (g.W.Write.contents c.args.writer.now) (g.W.Write.contents c.loop-rest.writer)
    c.loop-rest.invariant c.in_ok-rest.ensures.ok)
    c.in_ok-write_long.ensures.ok

pub returns-in_err-write_long-clause-err : goal.returns-in_err-write_long-clause-err
returns-in_err-write_long-clause-err g c =
    let p = err_from_is_err_and c.from_residual-in_err-write_long.result c.from_residual-in_err-write_long.ensures.1 in
    rw p.1
    (consumed_cut g.S.EntryStage.Took g.S.EntryStage.TookPart g.S.EntryStage.gathered g.met.S.EntryStage.is_part g.met.S.EntryStage.less_is_part c.args.self.now c.gather_next.new.self c.args.piece.now c.in_ok-rest.rest.now (g.S.EntryStage.gathered c.write_long.new.self)
    (g.W.Write.contents c.args.writer.now) (g.W.Write.contents c.loop-rest.writer) (g.W.Write.contents c.write_long.new.writer)
    (consumed_more g.S.EntryStage.Took g.S.EntryStage.gathered c.args.self.now c.loop-rest.self c.gather_next.new.self c.args.piece.now c.loop-rest.rest.now c.in_ok-rest.rest.now (g.W.Write.contents c.args.writer.now) (g.W.Write.contents c.loop-rest.writer)
    c.loop-rest.invariant c.in_ok-rest.ensures.ok)
    c.in_err-write_long.ensures.err c.in_err-write_long.ensures.none)
