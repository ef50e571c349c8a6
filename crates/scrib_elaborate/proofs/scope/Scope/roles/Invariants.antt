use Rattle.std.proofs.Common.{◌≡◌, map, take}
use Rattle.scrib_static_checks.specs.Elaboration.{role_in}
use Rattle.scrib_type_builder.specs.Renaming.{named}
use Rattle.scrib_elaborate.specs.Scope.{scope_of}
use Rattle.scrib_elaborate.proofs.scope.Scope.roles.Given as goal

abbrev pub invariant-loop-role : goal.invariant-loop-role
invariant-loop-role l = named l.given.items ≡ map (role_in (scope_of l.self)) (take l.role-index l.roles)
