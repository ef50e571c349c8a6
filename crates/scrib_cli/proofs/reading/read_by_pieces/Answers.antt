use Rattle.std.proofs.Common.{◌<◌, length, take, arith}
use Rattle.std.specs.Io.KnownBytes.{IsAtEnd}
use Rattle.scrib_cli.proofs.KeptTexts.{has_read_few, has_read_more, has_read_all}
use Rattle.scrib_cli.proofs.reading.read_by_pieces.Goals as goal

pub returns-then-n-eq0-clause-text : goal.returns-then-n-eq0-clause-text
returns-then-n-eq0-clause-text g c =
    let some : 0 < length c.read_piece.new.piece = omega (arith, c.read_piece.auto.piece, c.loop.auto.piece, c.requires) in
    let at_end : IsAtEnd (g.R.Read.remaining c.read_piece.new.reader) = c.in_ok-n.ensures.bytes.1 c.if-n-eq0.true some in
    has_read_all (g.R.Read.remaining c.args.reader.now) (g.R.Read.remaining c.loop.reader) (g.R.Read.remaining c.read_piece.new.reader) c.loop.text.items c.read_piece.new.piece c.in_ok-n.n
    c.loop.invariant c.in_ok-n.ensures.bytes.0 c.if-n-eq0.true at_end

pub loop-preserved : goal.loop-preserved
loop-preserved g c =
    let few = has_read_few (g.R.Read.remaining c.args.reader.now) (g.R.Read.remaining c.loop.reader) c.loop.text c.loop.invariant in
    has_read_more (g.R.Read.remaining c.args.reader.now) (g.R.Read.remaining c.loop.reader) (g.R.Read.remaining c.read_piece.new.reader) c.loop.text.items c.append_up_to.new.kept.items (take c.in_ok-n.n c.read_piece.new.piece)
    c.loop.invariant c.in_ok-n.ensures.bytes.0 (c.in_ok-append_up_to.ensures few)
