use Rattle.scrib_hold_stage.specs.Deadlines.{IsOfConversation, IsOfOther}
use Rattle.scrib_hold_stage.proofs.FirstLemmas.{first_removed}
use Rattle.scrib_hold_stage.proofs.deadlines.take_first_of.Goals as goal

pub returns-in-Some-clause-some : goal.returns-in-Some-clause-some
returns-in-Some-clause-some c =
    first_removed (IsOfConversation c.args.conversation) (IsOfOther c.args.conversation) c.in-Some.index c.args.deadlines.now.items c.remove.new.self.items
    c.remove.result c.in-Some.ensures.some c.remove.ensures.value c.remove.ensures.items
