use Rattle.std.proofs.Common.{◌≡◌, drop}
use Rattle.scrib_types.specs.Meaning.{agreement_of}
use Rattle.scrib_types.specs.WellFormed.{projects}
use Rattle.scrib_library.proofs.profiles.has_projections.Given as goal

abbrev pub invariant-loop-role : goal.invariant-loop-role
invariant-loop-role l =
    let a = agreement_of l.protocol in
    projects l.profile a.global (drop l.role-index l.role-items) ≡ projects l.profile a.global a.roles
