use Rattle.std.proofs.Common.{subst}
use Rattle.scrib_library.specs.Modules.{MeansProtocols}
use Rattle.scrib_library.specs.Holdings.{Holdings}
use Rattle.scrib_library.proofs.MeaningLemmas.{protocols}
use Rattle.scrib_library.proofs.library.Library.means_protocols.Goals as goal

pub returns : goal.returns
returns c =
    let Q : Holdings → Type 0 = λ h. MeansProtocols h.modules in
    subst Q c.self.view_is (protocols c.self.inside.modules c.self.inside.versions.items c.self.invariant.stored)
