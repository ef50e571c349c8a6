use Rattle.std.proofs.Common.{List, subst}
use Rattle.std.specs.Option.{IfSome}
use Rattle.scrib_record.specs.Versions.{meaning_of, number_of}
use Rattle.scrib_library.specs.declared.versions.NamedVersion.{NamedVersion}
use Rattle.scrib_library.specs.Holdings.{Holdings, IsStamp}
use Rattle.scrib_library.specs.Stored.{IsStored}
use Rattle.scrib_library.proofs.MeaningLemmas.{stamp_now}
use Rattle.scrib_library.proofs.library.Library.numbered_at.Goals as goal

pub returns-clause-stamp : goal.returns-clause-stamp
returns-clause-stamp c =
    let r = c.numbered_at.result in
    let P : List NamedVersion → Type 0 = λ l. IfSome r (λ v. IsStored l v.now) in
    let Q : Holdings → Type 0 = λ h. IfSome r (λ v. IsStamp h (meaning_of v.now) (number_of v.now)) in
    subst Q c.self.view_is (stamp_now c.self.inside.profile c.self.inside.modules c.self.inside.versions.items c.self.inside.used c.self.invariant.stored r (subst P c.deref.ensures.value c.numbered_at.ensures.stored))
