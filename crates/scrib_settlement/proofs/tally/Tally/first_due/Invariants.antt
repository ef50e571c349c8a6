use Rattle.std.proofs.Common.{◌≡◌, ◌<◌, ℕ, false}
use Rattle.scrib_settlement.specs.Tallies.{is_due}
use Rattle.scrib_settlement.proofs.tally.Tally.first_due.Given as goal

abbrev pub invariant-loop-place : goal.invariant-loop-place
invariant-loop-place l = (k : ℕ) → k < l.place → is_due k l.self.due.items ≡ false
