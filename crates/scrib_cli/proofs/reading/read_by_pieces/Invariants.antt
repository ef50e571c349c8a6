use Rattle.scrib_cli.proofs.KeptTexts.{HasRead}
use Rattle.scrib_cli.proofs.reading.read_by_pieces.Given as goal

abbrev pub invariant-loop : goal.invariant-loop
invariant-loop g l = HasRead (g.R.Read.remaining l.fn.reader) (g.R.Read.remaining l.reader) l.text.items
