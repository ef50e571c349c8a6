use Rattle.std.proofs.Common.{◌<◌, ℕ}
use Rattle.scrib_settlement.specs.Shares.{AddsUp}
use Rattle.scrib_settlement.proofs.shares.first_incomplete.Given as goal

abbrev pub invariant-loop-at : goal.invariant-loop-at
invariant-loop-at l = (k : ℕ) → k < l.at → AddsUp l.shards l.passes k
