use Rattle.scrib_settlement.proofs.TallyLemmas.{counted_none}
use Rattle.scrib_settlement.proofs.tally.Tally.new.Goals as goal

pub returns : goal.returns
returns c = counted_none c.args.log.now c.in_ok-due.due.items (c.in_ok-due.ensures.items_if_clones_equal (λ y e. e))
