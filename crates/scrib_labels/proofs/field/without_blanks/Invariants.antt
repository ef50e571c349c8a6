use Rattle.std.proofs.Common.{◌≡◌, drop}
use Rattle.scrib_script_reader.specs.Fields.{fields}
use Rattle.scrib_labels.proofs.field.without_blanks.Given as goal

abbrev pub invariant-loop-at : goal.invariant-loop-at
invariant-loop-at l = fields (drop l.at l.line) ≡ fields l.line
