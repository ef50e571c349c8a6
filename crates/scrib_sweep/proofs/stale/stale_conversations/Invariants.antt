use Rattle.scrib_core.specs.Held.{state_of}
use Rattle.scrib_sweep.proofs.StaleLists.{AreStaleBelow}
use Rattle.scrib_sweep.proofs.stale.stale_conversations.Given as goal

abbrev pub invariant-loop-index : goal.invariant-loop-index
invariant-loop-index l = AreStaleBelow (state_of l.core) l.index l.ids.items
