use Rattle.std.proofs.Common.{◌<◌, ◌∙◌, length, take, sym, arith}
use Rattle.std.specs.Io.KnownBytes.{IsAtEnd}
use Rattle.std.proofs.lemmas.Result.{err_from_is_err_and}
use Rattle.scrib_run_service.proofs.ScriptLemmas.{reached_none, reached_more, reached_end, reader_failed, piece_failed}
use Rattle.scrib_run_service.proofs.reading.run_by_pieces.Goals as goal

pub loop-init : goal.loop-init
loop-init g c = reached_none c.args.connection.now c.new-script.result (g.R.Read.remaining c.args.reader.now) c.requires.none c.new-script.ensures.holds c.new-script.ensures.lines c.new-script.ensures.bytes c.new-script.ensures.limits

pub returns-in_err-n-clause-read : goal.returns-in_err-n-clause-read
returns-in_err-n-clause-read g c =
    let p = err_from_is_err_and c.from_residual.result c.from_residual.ensures.1 in
    rw p.1 (λ _. reader_failed c.args.connection.now c.loop.connection c.loop.script (g.R.Read.remaining c.args.reader.now) (g.R.Read.remaining c.loop.reader) c.loop.invariant)

pub returns-then-n-eq0-clause-ok : goal.returns-then-n-eq0-clause-ok
returns-then-n-eq0-clause-ok g c =
    let some : 0 < length c.read_piece.new.piece = omega (arith, c.read_piece.auto.piece, c.loop.auto.piece, c.requires.some) in
    let at_end : IsAtEnd (g.R.Read.remaining c.read_piece.new.reader) = c.in_ok-n.ensures.bytes.1 c.if-n-eq0.true some in
    reached_end c.args.connection.now c.loop.connection c.end_script.new.connection c.take_noted.new.self c.loop.script (g.R.Read.remaining c.args.reader.now) (g.R.Read.remaining c.loop.reader) (g.R.Read.remaining c.read_piece.new.reader) c.in_ok-n.n c.read_piece.new.piece
    c.loop.invariant c.in_ok-n.ensures.bytes.0 c.if-n-eq0.true at_end c.in_ok-end_script.ensures.ok c.take_noted.ensures.format c.take_noted.ensures.lines c.take_noted.ensures.pending

pub returns-in_err-take_piece-clause-read : goal.returns-in_err-take_piece-clause-read
returns-in_err-take_piece-clause-read g c =
    let p = err_from_is_err_and c.from_residual-in_err-take_piece.result c.from_residual-in_err-take_piece.ensures.1 in
    rw p.1 (λ e. piece_failed c.args.connection.now c.loop.connection c.take_piece.new.connection c.loop.script (g.R.Read.remaining c.args.reader.now) (g.R.Read.remaining c.loop.reader) (g.R.Read.remaining c.read_piece.new.reader) (take c.in_ok-n.n c.read_piece.new.piece)
    c.loop.invariant c.in_ok-n.ensures.bytes.0 (c.in_err-take_piece.ensures.read (sym p.2 ∙ e)))

pub loop-preserved : goal.loop-preserved
loop-preserved g c =
    reached_more c.args.connection.now c.loop.connection c.take_piece.new.connection c.take_noted-in-loop.new.self c.loop.script c.take_piece.new.script (g.R.Read.remaining c.args.reader.now) (g.R.Read.remaining c.loop.reader) (g.R.Read.remaining c.read_piece.new.reader) (take c.in_ok-n.n c.read_piece.new.piece)
    c.loop.invariant c.in_ok-n.ensures.bytes.0 c.in_ok-take_piece.ensures.ok c.take_noted-in-loop.ensures.format c.take_noted-in-loop.ensures.lines c.take_noted-in-loop.ensures.pending

pub returns-clause-read : goal.returns-clause-read
returns-clause-read g c = λ _. reader_failed c.args.connection.now c.loop.connection c.loop.script (g.R.Read.remaining c.args.reader.now) (g.R.Read.remaining c.loop.reader) c.loop.invariant
