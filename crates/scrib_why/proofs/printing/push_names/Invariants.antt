use Rattle.std.proofs.Common.{◌≡◌, ◌++◌, drop}
use Rattle.scrib_why.specs.Names.{names_of}
use Rattle.scrib_why.specs.Texts.{lines_of}
use Rattle.scrib_why.proofs.printing.push_names.Given as goal

abbrev pub invariant-loop-kind : goal.invariant-loop-kind
invariant-loop-kind l = l.out.items ++ lines_of (names_of (drop l.kind-index l.kinds)) ≡ l.fn.out.items ++ lines_of (names_of l.kinds)
