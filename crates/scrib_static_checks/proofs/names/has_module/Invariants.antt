use Rattle.std.proofs.Common.{◌≡◌, drop}
use Rattle.scrib_static_checks.specs.Names.{has_name, module_names}
use Rattle.scrib_static_checks.proofs.names.has_module.Given as goal

abbrev pub invariant-loop-tree : goal.invariant-loop-tree
invariant-loop-tree l = has_name l.name (module_names (drop l.tree-index l.modules)) ≡ has_name l.name (module_names l.modules)
