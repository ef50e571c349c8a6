use Rattle.std.proofs.Common.{◌≡◌, drop}
use Rattle.scrib_types.specs.WellFormed.{distinct_roles}
use Rattle.scrib_static_checks.proofs.names.are_different.Given as goal

abbrev pub invariant-loop-i : goal.invariant-loop-i
invariant-loop-i l = distinct_roles (drop l.i l.names) ≡ distinct_roles l.names
