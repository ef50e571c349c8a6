use Rattle.std.proofs.Common.{◌≡◌, false, take}
use Rattle.scrib_static_checks.specs.Names.{has_name, module_names}
use Rattle.scrib_library.proofs.summaries.place_of.Given as goal

abbrev pub invariant-loop-at : goal.invariant-loop-at
invariant-loop-at l = has_name l.name (module_names (take l.at l.modules)) ≡ false
