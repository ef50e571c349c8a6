use Rattle.std.proofs.Common.{◌≡◌, ◌++◌, drop}
use Rattle.scrib_types.specs.Texts.{after_each}
use Rattle.scrib_types.proofs.text.push_names.Given as goal

abbrev pub invariant-loop-name : goal.invariant-loop-name
invariant-loop-name l =
    l.out.items ++ after_each 46 (drop l.name-index l.names) ≡ l.fn.out.items ++ after_each 46 l.names
