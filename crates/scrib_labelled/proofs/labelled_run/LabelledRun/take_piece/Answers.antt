use Rattle.std.proofs.lemmas.Result.{err_from_is_err_and, on_ok_weaker, on_err_weaker}
use Rattle.scrib_labelled.specs.Readings.{RunAdvances, PieceFails}
use Rattle.scrib_labelled.proofs.PieceLemmas.{taken_cut, all_written, advances_moved}
use Rattle.scrib_labelled.proofs.labelled_run.LabelledRun.take_piece.Goals as goal

pub returns-in_err-write_all-clause-err : goal.returns-in_err-write_all-clause-err
returns-in_err-write_all-clause-err g c =
    let p = err_from_is_err_and c.from_residual.result c.from_residual.ensures.1 in
    rw p.1
    (taken_cut g.S.EntryStage.Took g.S.EntryStage.TookPart g.met.S.EntryStage.is_part g.met.S.EntryStage.less_is_part c.gather_piece-taken.result c.args.self.now c.gather_piece-taken.new.self c.args.piece.now (g.S.EntryStage.gathered c.gather_piece-taken.new.self.stage)
    (g.W.Write.contents c.args.writer.now) (g.W.Write.contents c.gather_piece-taken.new.writer) (g.W.Write.contents c.write_all.new.writer)
    c.gather_piece-taken.ensures.ok c.gather_piece-taken.ensures.err c.in_err-write_all.ensures.err)

pub returns-clause-ok : goal.returns-clause-ok
returns-clause-ok g c =
    let was = g.W.Write.contents c.args.writer.now in
    let mid = g.W.Write.contents c.gather_piece-taken.new.writer in
    let now = g.W.Write.contents c.write_all.new.writer in
    on_ok_weaker c.gather_piece-taken.result
    (λ went.
    let all = all_written (RunAdvances g.S.EntryStage.Took c.args.self.now c.gather_piece-taken.new.self c.args.piece.now) (g.S.EntryStage.gathered c.gather_piece-taken.new.self.stage) was mid now went c.in_ok-write_all.ensures.ok in
    (all.0, advances_moved g.S.EntryStage.Took c.args.self.now c.gather_piece-taken.new.self c.write_all.new.self c.args.piece.now all.0 c.write_all.ensures.kept all.1, all.2))
    c.gather_piece-taken.ensures.ok

pub returns-clause-err : goal.returns-clause-err
returns-clause-err g c =
    on_err_weaker c.gather_piece-taken.result
    (λ fails.
    all_written (PieceFails g.S.EntryStage.Took g.S.EntryStage.TookPart c.args.self.now c.args.piece.now) (g.S.EntryStage.gathered c.gather_piece-taken.new.self.stage) (g.W.Write.contents c.args.writer.now) (g.W.Write.contents c.gather_piece-taken.new.writer)
    (g.W.Write.contents c.write_all.new.writer) fails c.in_ok-write_all.ensures.ok)
    c.gather_piece-taken.ensures.err
