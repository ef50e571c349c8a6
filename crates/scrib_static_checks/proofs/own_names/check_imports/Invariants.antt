use Rattle.std.proofs.Common.{◌≡◌, true, take}
use Rattle.scrib_static_checks.specs.Names.{distinct_names, import_names}
use Rattle.scrib_static_checks.proofs.own_names.check_imports.Given as goal

abbrev pub invariant-loop-i : goal.invariant-loop-i
invariant-loop-i l = distinct_names (import_names (take l.i l.imports)) ≡ true
