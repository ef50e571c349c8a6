use Rattle.std.proofs.Common.{◌<◌, length, take, arith}
use Rattle.std.specs.Io.KnownBytes.{IsAtEnd}
use Rattle.std.proofs.lemmas.Result.{err_from_is_err_and, on_ok_weaker, on_err_weaker}
use Rattle.scrib_labelled.proofs.InputLemmas.{reaches_none, reaches_flushed, reaches_end, reaches_went, reached_end, end_failed, read_failed, piece_failed}
use Rattle.scrib_labelled.specs.Readings.{beginning}
use Rattle.scrib_labelled.proofs.run_labelled_script.run_by_pieces.Goals as goal

pub loop-init : goal.loop-init
loop-init g c =
    reaches_none g.S.EntryStage.Took (beginning c.args.run.now) c.args.run.now (g.R.Read.remaining c.args.reader.now) (g.W.Write.contents c.args.writer.now) c.requires.new

pub returns-in_err-n-clause-err : goal.returns-in_err-n-clause-err
returns-in_err-n-clause-err g c =
    let p = err_from_is_err_and c.from_residual.result c.from_residual.ensures.1 in
    rw p.1 (read_failed g.S.EntryStage.Took g.S.EntryStage.TookPart g.met.S.EntryStage.is_part (beginning c.args.run.now) c.loop.run (g.R.Read.remaining c.args.reader.now) (g.R.Read.remaining c.loop.reader) (g.W.Write.contents c.args.writer.now) (g.W.Write.contents c.loop.writer) c.loop.invariant)

pub returns-then-n-eq0-clause-ok : goal.returns-then-n-eq0-clause-ok
returns-then-n-eq0-clause-ok g c =
    let r0 = g.R.Read.remaining c.args.reader.now in
    let w0 = g.W.Write.contents c.args.writer.now in
    let some : 0 < length c.read_piece.new.piece = omega (arith, c.read_piece.auto.piece, c.loop.auto.piece, c.requires.some) in
    let at_end : IsAtEnd (g.R.Read.remaining c.read_piece.new.reader) = c.in_ok-n.ensures.bytes.1 c.if-n-eq0.true some in
    let reached = reaches_end g.S.EntryStage.Took (beginning c.args.run.now) c.loop.run r0 (g.R.Read.remaining c.loop.reader) (g.R.Read.remaining c.read_piece.new.reader) w0 (g.W.Write.contents c.loop.writer) c.in_ok-n.n c.read_piece.new.piece c.loop.invariant c.in_ok-n.ensures.bytes.0 c.if-n-eq0.true in
    on_ok_weaker c.finish.result
    (λ ended. reached_end g.S.EntryStage.Took g.S.EntryStage.TookAll (beginning c.args.run.now) c.loop.run c.finish.new.self.stage (g.R.Read.remaining c.args.reader.now) (g.R.Read.remaining c.read_piece.new.reader) (g.W.Write.contents c.args.writer.now) (g.W.Write.contents c.loop.writer) (g.W.Write.contents c.finish.new.writer) reached at_end ended)
    c.finish.ensures.ok

pub returns-then-n-eq0-clause-err : goal.returns-then-n-eq0-clause-err
returns-then-n-eq0-clause-err g c =
    let r0 = g.R.Read.remaining c.args.reader.now in
    let w0 = g.W.Write.contents c.args.writer.now in
    let some : 0 < length c.read_piece.new.piece = omega (arith, c.read_piece.auto.piece, c.loop.auto.piece, c.requires.some) in
    let at_end : IsAtEnd (g.R.Read.remaining c.read_piece.new.reader) = c.in_ok-n.ensures.bytes.1 c.if-n-eq0.true some in
    let reached = reaches_end g.S.EntryStage.Took (beginning c.args.run.now) c.loop.run r0 (g.R.Read.remaining c.loop.reader) (g.R.Read.remaining c.read_piece.new.reader) w0 (g.W.Write.contents c.loop.writer) c.in_ok-n.n c.read_piece.new.piece c.loop.invariant c.in_ok-n.ensures.bytes.0 c.if-n-eq0.true in
    on_err_weaker c.finish.result
    (λ failed. end_failed g.S.EntryStage.Took g.S.EntryStage.TookPart (beginning c.args.run.now) c.loop.run (g.R.Read.remaining c.args.reader.now) (g.R.Read.remaining c.read_piece.new.reader) (g.W.Write.contents c.args.writer.now) (g.W.Write.contents c.loop.writer) (g.W.Write.contents c.finish.new.writer) reached at_end failed)
    c.finish.ensures.err

pub returns-in_err-take_piece-clause-err : goal.returns-in_err-take_piece-clause-err
returns-in_err-take_piece-clause-err g c =
    let p = err_from_is_err_and c.from_residual-in_err-take_piece.result c.from_residual-in_err-take_piece.ensures.1 in
    rw p.1 (piece_failed g.S.EntryStage.Took g.S.EntryStage.TookPart (beginning c.args.run.now) c.loop.run (g.R.Read.remaining c.args.reader.now) (g.R.Read.remaining c.loop.reader) (g.R.Read.remaining c.read_piece.new.reader) (g.W.Write.contents c.args.writer.now) (g.W.Write.contents c.loop.writer) (g.W.Write.contents c.take_piece.new.writer) (take c.in_ok-n.n c.read_piece.new.piece)
    c.loop.invariant c.in_ok-n.ensures.bytes.0 c.in_err-take_piece.ensures.err)

pub returns-in_err-flush_out-clause-err : goal.returns-in_err-flush_out-clause-err
returns-in_err-flush_out-clause-err g c =
    let p = err_from_is_err_and c.from_residual-in_err-flush_out.result c.from_residual-in_err-flush_out.ensures.1 in
    let went = reaches_went g.S.EntryStage.Took (beginning c.args.run.now) c.loop.run c.take_piece.new.self (g.R.Read.remaining c.args.reader.now) (g.R.Read.remaining c.loop.reader) (g.R.Read.remaining c.read_piece.new.reader) (g.W.Write.contents c.args.writer.now) (g.W.Write.contents c.loop.writer) (g.W.Write.contents c.take_piece.new.writer) (take c.in_ok-n.n c.read_piece.new.piece)
    c.loop.invariant c.in_ok-n.ensures.bytes.0 c.in_ok-take_piece.ensures.ok in
    let flushed = reaches_flushed g.S.EntryStage.Took (beginning c.args.run.now) c.take_piece.new.self (g.R.Read.remaining c.args.reader.now) (g.R.Read.remaining c.read_piece.new.reader) (g.W.Write.contents c.args.writer.now) (g.W.Write.contents c.take_piece.new.writer) (g.W.Write.contents c.flush_out.new.writer) went c.flush_out.ensures.kept in
    rw p.1 (read_failed g.S.EntryStage.Took g.S.EntryStage.TookPart g.met.S.EntryStage.is_part (beginning c.args.run.now) c.take_piece.new.self (g.R.Read.remaining c.args.reader.now) (g.R.Read.remaining c.read_piece.new.reader) (g.W.Write.contents c.args.writer.now) (g.W.Write.contents c.flush_out.new.writer) flushed)

pub loop-preserved : goal.loop-preserved
loop-preserved g c =
    let went = reaches_went g.S.EntryStage.Took (beginning c.args.run.now) c.loop.run c.take_piece.new.self (g.R.Read.remaining c.args.reader.now) (g.R.Read.remaining c.loop.reader) (g.R.Read.remaining c.read_piece.new.reader) (g.W.Write.contents c.args.writer.now) (g.W.Write.contents c.loop.writer) (g.W.Write.contents c.take_piece.new.writer) (take c.in_ok-n.n c.read_piece.new.piece)
    c.loop.invariant c.in_ok-n.ensures.bytes.0 c.in_ok-take_piece.ensures.ok in
    reaches_flushed g.S.EntryStage.Took (beginning c.args.run.now) c.take_piece.new.self (g.R.Read.remaining c.args.reader.now) (g.R.Read.remaining c.read_piece.new.reader) (g.W.Write.contents c.args.writer.now) (g.W.Write.contents c.take_piece.new.writer) (g.W.Write.contents c.flush_out.new.writer) went c.flush_out.ensures.kept

pub returns-clause-err : goal.returns-clause-err
returns-clause-err g c =
    read_failed g.S.EntryStage.Took g.S.EntryStage.TookPart g.met.S.EntryStage.is_part (beginning c.args.run.now) c.loop.run (g.R.Read.remaining c.args.reader.now) (g.R.Read.remaining c.loop.reader) (g.W.Write.contents c.args.writer.now) (g.W.Write.contents c.loop.writer) c.loop.invariant
