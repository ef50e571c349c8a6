use Rattle.std.proofs.Common.{◌≡◌, drop}
use Rattle.scrib_static_checks.specs.Names.{has_name, import_names}
use Rattle.scrib_static_checks.proofs.own_names.has_import.Given as goal

abbrev pub invariant-loop-import : goal.invariant-loop-import
invariant-loop-import l = has_name l.name (import_names (drop l.import-index l.imports)) ≡ has_name l.name (import_names l.imports)
