use Rattle.std.proofs.Common.{◌≡◌, ◌++◌, drop}
use Rattle.scrib_types.specs.Texts.{after_each, dotted_texts}
use Rattle.scrib_types.proofs.text.push_sorts.Given as goal

abbrev pub invariant-loop-sort : goal.invariant-loop-sort
invariant-loop-sort l =
    l.out.items ++ after_each 44 (dotted_texts (drop l.sort-index l.sorts)) ≡ l.fn.out.items ++ after_each 44 (dotted_texts l.sorts)
