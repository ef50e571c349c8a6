use Rattle.std.proofs.Common.{◌≡◌, take}
use Rattle.scrib_static_checks.specs.Names.{role_names}
use Rattle.scrib_type_builder.specs.Renaming.{named}
use Rattle.scrib_elaborate.proofs.scope.role_names.Given as goal

abbrev pub invariant-loop-role : goal.invariant-loop-role
invariant-loop-role l = named l.names.items ≡ role_names (take l.role-index l.roles)
