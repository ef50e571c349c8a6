use Rattle.std.proofs.Common.{◌≡◌, ◌<◌, ℕ, true, get_or}
use Rattle.scrib_types.specs.Names.{is_digit}
use Rattle.scrib_report.proofs.put_back.digits_len.Given as goal

abbrev pub invariant-loop-at : goal.invariant-loop-at
invariant-loop-at l = (k : ℕ) → k < l.at → is_digit (get_or l.text k 0) ≡ true
