use Rattle.std.proofs.Common.{◌≡◌, ◌<◌, ℕ, true, get_or}
use Rattle.scrib_labels.specs.Tags.{is_visible}
use Rattle.scrib_labels.proofs.visible.visible_end.Given as goal

abbrev pub invariant-loop-at : goal.invariant-loop-at
invariant-loop-at l = (k : ℕ) → k < l.at → is_visible (get_or l.bytes k 0) ≡ true
