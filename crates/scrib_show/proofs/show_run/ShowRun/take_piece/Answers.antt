use Rattle.scrib_show.proofs.ReadingLemmas.{consumed_more}
use Rattle.scrib_show.proofs.show_run.ShowRun.take_piece.Goals as goal

pub loop-rest-preserved : goal.loop-rest-preserved
loop-rest-preserved c =
    consumed_more c.args.self.now c.loop-rest.self c.take_next.new.self c.args.piece.now c.loop-rest.rest.now c.in_ok-rest.rest.now c.loop-rest.invariant c.in_ok-rest.ensures.ok
