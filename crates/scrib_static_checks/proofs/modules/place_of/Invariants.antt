use Rattle.std.proofs.Common.{◌≡◌, false, take}
use Rattle.scrib_static_checks.specs.Names.{has_name, module_names}
use Rattle.scrib_static_checks.proofs.modules.place_of.Given as goal

abbrev pub invariant-loop-i : goal.invariant-loop-i
invariant-loop-i l = has_name l.name (module_names (take l.i l.trees)) ≡ false
