use Rattle.std.proofs.Common.{◌≡◌, ◌++◌, drop}
use Rattle.scrib_why.specs.Texts.{indented}
use Rattle.scrib_why.proofs.printing.push_indented.Given as goal

abbrev pub invariant-loop-byte : goal.invariant-loop-byte
invariant-loop-byte l = l.out.items ++ indented (drop l.byte-index l.text) ≡ l.fn.out.items ++ indented l.text
