use Rattle.std.proofs.Common.{ℕ, ◌<◌}
use Rattle.scrib_queues.specs.Layout.{IsWaitingAt}
use Rattle.scrib_queues.proofs.queues.none_waits.Given as goal

abbrev pub invariant-loop-place : goal.invariant-loop-place
invariant-loop-place g l = (k : ℕ) → k < l.place → IsWaitingAt l.pairs l.queues k → ⊥
