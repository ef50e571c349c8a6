use Rattle.std.proofs.Common.{◌≡◌, ◌≤◌, true, take}
use Rattle.scrib_types.specs.WellFormed.{distinct_roles}
use Rattle.scrib_static_checks.specs.Names.{role_names}
use Rattle.scrib_static_checks.proofs.own_names.check_roles.Given as goal

abbrev pub invariant-loop-i : goal.invariant-loop-i
invariant-loop-i l = record { few : l.i ≤ 64; distinct : distinct_roles (role_names (take l.i l.roles)) ≡ true }
