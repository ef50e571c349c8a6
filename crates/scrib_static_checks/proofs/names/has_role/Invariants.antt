use Rattle.std.proofs.Common.{◌≡◌, drop}
use Rattle.scrib_types.specs.WellFormed.{has_role}
use Rattle.scrib_static_checks.specs.Names.{role_names}
use Rattle.scrib_static_checks.proofs.names.has_role.Given as goal

abbrev pub invariant-loop-role : goal.invariant-loop-role
invariant-loop-role l = has_role l.name (role_names (drop l.role-index l.roles)) ≡ has_role l.name (role_names l.roles)
