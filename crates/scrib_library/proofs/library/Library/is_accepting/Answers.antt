use Rattle.std.proofs.Common.{subst}
use Rattle.scrib_library.specs.Holdings.{Holdings, IsAccepting}
use Rattle.scrib_library.proofs.MeaningLemmas.{is_accepting}
use Rattle.scrib_library.proofs.library.Library.is_accepting.Goals as goal

pub returns : goal.returns
returns c =
    let Q : Holdings → Type 0 = λ h. IsAccepting h in
    subst Q c.self.view_is (is_accepting c.self.inside.profile c.self.inside.modules c.self.inside.versions.items c.self.inside.used c.self.invariant)
