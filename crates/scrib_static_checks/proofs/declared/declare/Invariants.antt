use Rattle.std.proofs.Common.{◌≡◌, ◌++◌, take}
use Rattle.std.specs.List.{All}
use Rattle.scrib_static_checks.specs.Names.{declared_in}
use Rattle.scrib_static_checks.specs.Table.{shown, HasCheckedNames}
use Rattle.scrib_static_checks.proofs.declared.declare.Given as goal

abbrev pub invariant-loop-protocol : goal.invariant-loop-protocol
invariant-loop-protocol l = record {
  shown : shown l.all.items ≡ shown l.initial.all.items ++ declared_in l.home (take l.protocol-index l.protocol-items);
  names_checked : All HasCheckedNames l.all.items;
}
