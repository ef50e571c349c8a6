use Rattle.std.proofs.Common.{◌≡◌, true, false, Some, rules}
use Rattle.scrib_types.specs.LocalView.{local_of}
use Rattle.scrib_types.specs.Projection.{projection}
use Rattle.scrib_types.specs.WellFormed.{has_role}
use Rattle.scrib_elaborate.specs.Meaning.{elaborated_meaning}
use Rattle.scrib_project.specs.Faults.{IsPlaced, IsUnmergeable}
use Rattle.scrib_cli.specs.ProjectionSteps.{role_projects, role_undeclared, role_unmerged}
use Rattle.scrib_cli.proofs.ProjectionLemmas.{has_machine}
use Rattle.scrib_cli.proofs.projection.projection_on.Goals as goal

pub returns-in-Ok-clause-machine : goal.returns-in-Ok-clause-machine
returns-in-Ok-clause-machine c =
    let a = elaborated_meaning c.args.elaborated.now in
    has_machine c.args.profile a.roles c.in-Some.role.now a.global (local_of c.in-Ok.local) c.roles.ensures.sound c.requires c.in-Ok.ensures.value

pub returns-in-Err-Unmergeable-clause-place : goal.returns-in-Err-Unmergeable-clause-place
returns-in-Err-Unmergeable-clause-place c = λ modules home name sites.
    let placed : IsPlaced c.args.profile modules home name (elaborated_meaning c.args.elaborated.now).global c.in-Err-Unmergeable.fault = rw c.in-Err-Unmergeable.field-0-is at (c.in-Err-Unmergeable.ensures.place modules home name sites) in
    placed

pub returns-in_default-clause-ok : goal.returns-in_default-clause-ok
returns-in_default-clause-ok c =
    let none : has_role c.args.role.now (elaborated_meaning c.args.elaborated.now).roles ≡ false = search rules in
    role_undeclared none

pub returns-in-Ok-clause-ok : goal.returns-in-Ok-clause-ok
returns-in-Ok-clause-ok c =
    let declared : has_role c.args.role.now (elaborated_meaning c.args.elaborated.now).roles ≡ true = search rules in
    let projected : projection c.args.profile c.args.role.now (elaborated_meaning c.args.elaborated.now).global ≡ Some (local_of c.in-Ok.local) = search rules in
    role_projects c.in-Ok.local declared projected

pub returns-in-Err-Unmergeable-clause-ok : goal.returns-in-Err-Unmergeable-clause-ok
returns-in-Err-Unmergeable-clause-ok c =
    let declared : has_role c.args.role.now (elaborated_meaning c.args.elaborated.now).roles ≡ true = search rules in
    let unmerged : IsUnmergeable c.args.profile (elaborated_meaning c.args.elaborated.now).global c.args.role.now c.in-Err-Unmergeable.fault = search rules in
    role_unmerged c.in-Err-Unmergeable.fault declared unmerged
