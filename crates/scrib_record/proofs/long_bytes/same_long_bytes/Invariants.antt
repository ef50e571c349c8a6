use Rattle.std.proofs.Common.{◌≡◌, ◌↔◌, length}
use Rattle.scrib_record.proofs.long_bytes.same_long_bytes.Given as goal

abbrev pub invariant-loop-left : goal.invariant-loop-left
invariant-loop-left l = (length l.left ≡ length l.right) × ((l.left ≡ l.right) ↔ (l.a ≡ l.b))

abbrev pub decreases-loop-left : goal.decreases-loop-left
decreases-loop-left l = length l.left
