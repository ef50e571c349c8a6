-- Counts that stay at their greatest value.
use Rattle.std.proofs.Common.{◌≡◌, ℕ, ◌+◌, Bool, true, false, min, ap, ◌∙◌, arith}
use Rattle.scrib_sweeping.specs.declared.sweep_counts.SweepCounts.{SweepCounts}
use Rattle.scrib_sweeping.specs.SweptRuns.{with_sweep}
use Rattle.scrib_sweeping.specs.SweptScripts.{capped}

cap_more : (n more : ℕ) → min (min n 18446744073709551615 + more) 18446744073709551615 ≡ min (n + more) 18446744073709551615
cap_more n more = grind arith

pub capped_more : (sums : SweepCounts) (judged : ℕ) (refused : Bool) → capped (with_sweep (capped sums) judged refused) ≡ capped (with_sweep sums judged refused)
capped_more sums judged false = ap (λ (n : ℕ). record { judged = n; refused = min (min sums.refused 18446744073709551615 + 0) 18446744073709551615 }) (cap_more sums.judged judged) ∙ ap (λ (n : ℕ). record { judged = min (sums.judged + judged) 18446744073709551615; refused = n }) (cap_more sums.refused 0)
capped_more sums judged true = ap (λ (n : ℕ). record { judged = n; refused = min (min sums.refused 18446744073709551615 + 1) 18446744073709551615 }) (cap_more sums.judged judged) ∙ ap (λ (n : ℕ). record { judged = min (sums.judged + judged) 18446744073709551615; refused = n }) (cap_more sums.refused 1)

pub capped_none : (sums : SweepCounts) → capped sums ≡ capped (with_sweep sums 0 false)
capped_none sums = grind arith
