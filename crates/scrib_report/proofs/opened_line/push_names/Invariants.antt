use Rattle.std.proofs.Common.{◌≡◌, ◌++◌, ℕ, List, drop}
use Rattle.scrib_types.specs.Texts.{after_each}
use Rattle.scrib_report.proofs.opened_line.push_names.Given as goal

abbrev pub invariant-loop-name : goal.invariant-loop-name
invariant-loop-name l = record {
  done : l.out.items ++ after_each 46 (drop l.name-index l.names) ≡ l.fn.out.items ++ after_each 46 l.names;
  kept : (more : List ℕ) × (l.out.items ≡ l.fn.out.items ++ more);
}
