use Rattle.std.proofs.Common.{◌≡◌, drop}
use Rattle.scrib_types.specs.WellFormed.{has_role}
use Rattle.scrib_static_checks.proofs.names.is_among.Given as goal

abbrev pub invariant-loop-other : goal.invariant-loop-other
invariant-loop-other l = has_role l.name (drop l.other-index l.names) ≡ has_role l.name l.names
