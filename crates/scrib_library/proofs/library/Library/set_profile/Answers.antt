use Rattle.std.proofs.Common.{List, subst}
use Rattle.std.proofs.lemmas.Result.{err_from_is_err_and}
use Rattle.scrib_library.specs.declared.versions.NamedVersion.{NamedVersion}
use Rattle.scrib_library.specs.Modules.{AllProject}
use Rattle.scrib_library.specs.Holdings.{Holdings}
use Rattle.scrib_library.specs.Lacking.{AllVersionsProject, StopsChange}
use Rattle.scrib_library.specs.Profiles.{ProfileFails}
use Rattle.scrib_library.proofs.ProjectionLemmas.{change_refused, follows}
use Rattle.scrib_library.proofs.library.Library.set_profile.Goals as goal

pub returns-in_err-check_change-clause-fault : goal.returns-in_err-check_change-clause-fault
returns-in_err-check_change-clause-fault c =
    let held = c.self.inside.profile in
    let wanted = c.args.profile in
    let f = c.in_err-check_change.field-0.0 in
    let p = err_from_is_err_and c.from_residual.result c.from_residual.ensures.1 in
    let P : List NamedVersion → Type 0 = λ l. StopsChange held wanted l f in
    let Q : Holdings → Type 0 = λ h. ProfileFails h.profile wanted h.modules f in
    rw (p.1, p.2) (subst Q c.self.view_is (change_refused wanted c.self.inside.modules c.self.inside.versions.items c.self.invariant.stored c.self.invariant.spelled held f (subst P c.deref.ensures.value c.in_err-check_change.ensures.fault)))

pub invariant_of-self : goal.invariant_of-self
invariant_of-self c =
    let held = c.self.inside.profile in
    let wanted = c.args.profile in
    let library = c.self.invariant in
    let P : List NamedVersion → Type 0 = λ l. AllVersionsProject held l → AllVersionsProject wanted l in
    record {
      few = library.few;
      distinct = library.distinct;
      imports = library.imports;
      spelled = library.spelled;
      stored = library.stored;
      projected = follows held wanted c.self.inside.modules c.self.inside.versions.items library.stored library.projected (subst P c.deref.ensures.value c.in_ok-check_change.ensures.ok);
      counted = library.counted;
    }

pub returns-clause-projected : goal.returns-clause-projected
returns-clause-projected c =
    let held = c.self.inside.profile in
    let wanted = c.args.profile in
    let library = c.self.invariant in
    let P : List NamedVersion → Type 0 = λ l. AllVersionsProject held l → AllVersionsProject wanted l in
    let Q : Holdings → Type 0 = λ h. AllProject wanted h.modules in
    subst Q c.self.view_is (follows held wanted c.self.inside.modules c.self.inside.versions.items library.stored library.projected (subst P c.deref.ensures.value c.in_ok-check_change.ensures.ok))
