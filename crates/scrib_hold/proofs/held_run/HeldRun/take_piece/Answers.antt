use Rattle.std.proofs.lemmas.Result.{err_from_is_err_and, on_ok_weaker, on_err_weaker}
use Rattle.scrib_hold.specs.Progress.{HeldRunAdvances, HeldPieceFails}
use Rattle.scrib_hold.proofs.HeldRunLemmas.{taken_cut, all_written, advances_moved}
use Rattle.scrib_hold.proofs.held_run.HeldRun.take_piece.Goals as goal

pub returns-in_err-write_all-clause-err : goal.returns-in_err-write_all-clause-err
returns-in_err-write_all-clause-err g c =
    let p = err_from_is_err_and c.from_residual.result c.from_residual.ensures.1 in
    rw p.1 (taken_cut c.gather_piece-taken.result c.args.self.now c.gather_piece-taken.new.self c.args.piece.now c.gather_piece-taken.new.self.monitor.sink.gathered.bytes.items (g.W.Write.contents c.args.writer.now) (g.W.Write.contents c.gather_piece-taken.new.writer) (g.W.Write.contents c.write_all.new.writer)
    c.gather_piece-taken.ensures.ok c.gather_piece-taken.ensures.err c.in_err-write_all.ensures.err)

pub returns-clause-ok : goal.returns-clause-ok
returns-clause-ok g c =
    on_ok_weaker c.gather_piece-taken.result
    (λ went.
    let all = all_written (HeldRunAdvances c.args.self.now c.gather_piece-taken.new.self c.args.piece.now) c.gather_piece-taken.new.self.monitor.sink.gathered.bytes.items (g.W.Write.contents c.args.writer.now) (g.W.Write.contents c.gather_piece-taken.new.writer) (g.W.Write.contents c.write_all.new.writer) went c.in_ok-write_all.ensures.ok in
    (all.0, advances_moved c.args.self.now c.gather_piece-taken.new.self c.write_all.new.self c.args.piece.now all.0 all.1, all.2))
    c.gather_piece-taken.ensures.ok

pub returns-clause-err : goal.returns-clause-err
returns-clause-err g c =
    on_err_weaker c.gather_piece-taken.result
    (λ fails. all_written (HeldPieceFails c.args.self.now c.args.piece.now) c.gather_piece-taken.new.self.monitor.sink.gathered.bytes.items (g.W.Write.contents c.args.writer.now) (g.W.Write.contents c.gather_piece-taken.new.writer) (g.W.Write.contents c.write_all.new.writer) fails c.in_ok-write_all.ensures.ok)
    c.gather_piece-taken.ensures.err
