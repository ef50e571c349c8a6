use Rattle.std.proofs.Common.{◌≡◌, drop}
use Rattle.scrib_static_checks.specs.Names.{role_names}
use Rattle.scrib_static_checks.specs.Statements.{are_roles}
use Rattle.scrib_static_checks.proofs.names.are_roles.Given as goal

abbrev pub invariant-loop-name : goal.invariant-loop-name
invariant-loop-name l = are_roles (drop l.name-index l.names) (role_names l.roles) ≡ are_roles l.names (role_names l.roles)
