use Rattle.scrib_core.specs.Held.{state_of}
use Rattle.scrib_sweep.proofs.ConversationSweeps.{IsStillStale}
use Rattle.scrib_sweep.proofs.conversation_turns.turn_until_judged.Given as goal

abbrev pub invariant-loop-turns : goal.invariant-loop-turns
invariant-loop-turns l = IsStillStale (state_of l.fn.core) l.id l.turns (state_of l.core)
