use Rattle.std.proofs.Common.{◌≡◌, drop}
use Rattle.scrib_why.specs.Names.{names_of, has_name}
use Rattle.scrib_why.proofs.find.find_in.Given as goal

abbrev pub invariant-loop-kind : goal.invariant-loop-kind
invariant-loop-kind l = has_name (names_of (drop l.kind-index l.kinds)) l.name ≡ has_name (names_of l.kinds) l.name
