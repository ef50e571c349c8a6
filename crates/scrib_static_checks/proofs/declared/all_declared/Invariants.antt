use Rattle.std.proofs.Common.{◌≡◌, take}
use Rattle.std.specs.List.{All}
use Rattle.scrib_static_checks.specs.Names.{declarations}
use Rattle.scrib_static_checks.specs.Table.{shown, HasCheckedNames}
use Rattle.scrib_static_checks.proofs.declared.all_declared.Given as goal

abbrev pub invariant-loop-i : goal.invariant-loop-i
invariant-loop-i l = record {
  shown : shown l.all.items ≡ declarations (take l.i l.modules);
  names_checked : All HasCheckedNames l.all.items;
}
