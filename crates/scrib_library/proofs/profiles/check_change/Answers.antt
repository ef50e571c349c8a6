use Rattle.std.proofs.Common.{rules, subst}
use Rattle.scrib_types.specs.declared.profile.Profile.{Profile}
use Rattle.scrib_library.specs.Lacking.{AllVersionsProject}
use Rattle.scrib_library.proofs.ProjectionLemmas.{all_wanted}
use Rattle.scrib_library.proofs.profiles.check_change.Goals.{then-eq-via-then-eq, then-eq-via-else-eq+then-eq-2}
use Rattle.scrib_library.proofs.profiles.check_change.Goals as goal

pub returns-then-eq-clause-ok : goal.returns-then-eq-clause-ok
returns-then-eq-clause-ok c =
    let P : Profile → Type 0 = λ x. AllVersionsProject x c.args.versions.now in
    elim c.then-eq.branch [
      | then-eq-via-then-eq w ↦ (λ h. subst P (search rules) h)
      | then-eq-via-else-eq+then-eq-2 w ↦ (λ h. all_wanted c.args.held c.args.wanted c.args.versions.now (search rules) h)
    ]
