use Rattle.std.proofs.Common.{◌≡◌, ◌++◌, drop}
use Rattle.scrib_types.specs.Flat.{names_bytes}
use Rattle.scrib_types.proofs.flat.push_names.Given as goal

abbrev pub invariant-loop-name : goal.invariant-loop-name
invariant-loop-name l =
    l.out.items ++ names_bytes (drop l.name-index l.names) ≡ l.fn.out.items ++ names_bytes l.names
