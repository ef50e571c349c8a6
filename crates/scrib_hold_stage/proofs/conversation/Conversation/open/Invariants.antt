use Rattle.std.proofs.Common.{length}
use Rattle.scrib_hold_stage.proofs.ConversationLemmas.{IsOpening}
use Rattle.scrib_hold_stage.proofs.conversation.Conversation.open.Given as goal

abbrev pub invariant-loop-noted : goal.invariant-loop-noted
invariant-loop-noted g l = IsOpening g.A.Arrival.event l.initial.self l.self l.initial.released.items l.released.items

abbrev pub decreases-loop-noted : goal.decreases-loop-noted
decreases-loop-noted g l = length l.self.early.items
