use Rattle.std.proofs.Common.{◌≡◌, ◌<◌, ℕ, false, get_or}
use Rattle.scrib_script_reader.specs.Fields.{is_blank}
use Rattle.scrib_labels.proofs.field.field_len.Given as goal

abbrev pub invariant-loop-at : goal.invariant-loop-at
invariant-loop-at l = (k : ℕ) → k < l.at → is_blank (get_or l.bytes k 0) ≡ false
