use Rattle.scrib_hold_stage.proofs.FirstLemmas.{here_at}
use Rattle.scrib_hold_stage.proofs.closings.PendingClosings.first_of.Goals as goal

pub returns-then-closing-conversation-clause-some : goal.returns-then-closing-conversation-clause-some
returns-then-closing-conversation-clause-some g c = record {
  x = c.in-Some.closing.now;
  at = here_at c.args.self.now.closings.items c.loop-closing.index c.in-Some.closing.now c.in-Some.ensures.item.3.0 c.in-Some.ensures.item.1;
  is = c.if-closing-conversation.true;
  before = c.loop-closing.invariant.1;
}
