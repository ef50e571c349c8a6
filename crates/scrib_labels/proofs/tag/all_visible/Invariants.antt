use Rattle.std.proofs.Common.{◌≡◌, drop}
use Rattle.scrib_labels.specs.Tags.{all_visible}
use Rattle.scrib_labels.proofs.tag.all_visible.Given as goal

abbrev pub invariant-loop-byte : goal.invariant-loop-byte
invariant-loop-byte l = all_visible (drop l.byte-index l.bytes) ≡ all_visible l.bytes
