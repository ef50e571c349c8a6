use Rattle.std.proofs.Common.{◌≡◌, true, drop, take}
use Rattle.scrib_elaborate.specs.Meaning.{elaborated_meaning}
use Rattle.scrib_projection.specs.Projections.{are_projections}
use Rattle.scrib_project.specs.Faults.{first_without}
use Rattle.scrib_project.proofs.protocol.protocol_with_projections.Given as goal

abbrev pub invariant-loop-role : goal.invariant-loop-role
invariant-loop-role l =
    let a = elaborated_meaning l.fn.elaborated in
    record {
      without : first_without l.profile a.global (drop l.role-index l.role-items) ≡ first_without l.profile a.global a.roles;
      made : are_projections a.global (take l.role-index l.role-items) l.locals.items ≡ true;
    }
