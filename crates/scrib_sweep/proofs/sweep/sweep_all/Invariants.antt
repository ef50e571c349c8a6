use Rattle.std.proofs.Common.{ℕ}
use Rattle.scrib_core.specs.Held.{state_of}
use Rattle.scrib_sweep.proofs.SweptLists.{IsSweptSoFar}
use Rattle.scrib_sweep.proofs.sweep.sweep_all.Given as goal

abbrev pub invariant-loop-id : goal.invariant-loop-id
invariant-loop-id l = (turns : ℕ) × IsSweptSoFar (state_of l.fn.core) l.stale l.id-index turns l.id-index (state_of l.core)
