use Rattle.std.proofs.Common.{◌≡◌, drop}
use Rattle.scrib_types.specs.WellFormed.{has_role}
use Rattle.scrib_global.proofs.logs.has_role.Given as goal

abbrev pub invariant-loop-other : goal.invariant-loop-other
invariant-loop-other l = has_role l.role (drop l.other-index l.roles) ≡ has_role l.role l.roles
