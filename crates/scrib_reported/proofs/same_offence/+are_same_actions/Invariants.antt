use Rattle.std.proofs.Common.{length}
use Rattle.scrib_reported.proofs.same_offence.+are_same_actions.Given as goal

abbrev pub decreases-are_same_actions : goal.decreases-are_same_actions
decreases-are_same_actions l = length l.a.now
