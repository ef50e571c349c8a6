use Rattle.std.proofs.Common.{◌<◌, length, take, arith}
use Rattle.std.specs.Io.KnownBytes.{IsAtEnd}
use Rattle.std.proofs.lemmas.Result.{on_ok_weaker}
use Rattle.scrib_show.proofs.ReadingLemmas.{reads_none, reads_more, reads_end, reached_end}
use Rattle.scrib_show.proofs.show_script.run_by_pieces.Goals as goal

pub loop-init : goal.loop-init
loop-init g c = reads_none c.args.run.now (g.R.Read.remaining c.args.reader.now)

pub returns-then-n-eq0-clause-ok : goal.returns-then-n-eq0-clause-ok
returns-then-n-eq0-clause-ok g c =
    let r0 = g.R.Read.remaining c.args.reader.now in
    let some : 0 < length c.read_piece.new.piece = omega (arith, c.read_piece.auto.piece, c.loop.auto.piece, c.requires.some) in
    let at_end : IsAtEnd (g.R.Read.remaining c.read_piece.new.reader) = c.in_ok-n.ensures.bytes.1 c.if-n-eq0.true some in
    let reached = reads_end c.args.run.now c.loop.run r0 (g.R.Read.remaining c.loop.reader) (g.R.Read.remaining c.read_piece.new.reader) c.in_ok-n.n c.read_piece.new.piece c.loop.invariant c.in_ok-n.ensures.bytes.0 c.if-n-eq0.true in
    on_ok_weaker c.finish.result
    (λ ended. reached_end c.args.run.now.script.limits c.args.run.now.monitor.id c.args.run.now c.loop.run c.finish.new.self r0 (g.R.Read.remaining c.read_piece.new.reader) c.requires.new reached at_end ended)
    c.finish.ensures.ok

pub loop-preserved : goal.loop-preserved
loop-preserved g c =
    reads_more c.args.run.now c.loop.run c.take_piece.new.self (g.R.Read.remaining c.args.reader.now) (g.R.Read.remaining c.loop.reader) (g.R.Read.remaining c.read_piece.new.reader) (take c.in_ok-n.n c.read_piece.new.piece)
    c.loop.invariant c.in_ok-n.ensures.bytes.0 c.in_ok-take_piece.ensures.ok
