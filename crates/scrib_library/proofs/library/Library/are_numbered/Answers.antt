use Rattle.std.proofs.Common.{subst}
use Rattle.scrib_library.specs.Modules.{MeansOnce}
use Rattle.scrib_library.specs.Holdings.{Holdings, AreNumbered}
use Rattle.scrib_library.proofs.MeaningLemmas.{are_numbered, means_once}
use Rattle.scrib_library.proofs.library.Library.are_numbered.Goals as goal

pub returns-clause-once : goal.returns-clause-once
returns-clause-once c =
    let Q : Holdings → Type 0 = λ h. MeansOnce h.modules in
    subst Q c.self.view_is (means_once c.self.inside.modules)

pub returns-clause-numbers : goal.returns-clause-numbers
returns-clause-numbers c =
    let Q : Holdings → Type 0 = λ h. AreNumbered h in
    subst Q c.self.view_is (are_numbered c.self.inside.profile c.self.inside.modules c.self.inside.versions.items c.self.inside.used c.self.invariant.stored c.self.invariant.counted)
