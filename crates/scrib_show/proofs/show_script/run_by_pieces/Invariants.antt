use Rattle.scrib_show.proofs.ReadingLemmas.{HasReadSome}
use Rattle.scrib_show.proofs.show_script.run_by_pieces.Given as goal

abbrev pub invariant-loop : goal.invariant-loop
invariant-loop g l = HasReadSome l.fn.run l.run (g.R.Read.remaining l.fn.reader) (g.R.Read.remaining l.reader)
