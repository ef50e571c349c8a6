use Rattle.std.proofs.Common.{List, subst}
use Rattle.std.specs.Option.{option_map}
use Rattle.scrib_record.specs.Versions.{meaning_of, number_of}
use Rattle.scrib_library.specs.declared.versions.NamedVersion.{NamedVersion}
use Rattle.scrib_library.specs.Modules.{IsMeaning}
use Rattle.scrib_library.specs.Holdings.{Holdings, IsNumber}
use Rattle.scrib_library.specs.Stored.{IsVersion}
use Rattle.scrib_library.proofs.MeaningLemmas.{answered_shared, numbered_shared}
use Rattle.scrib_library.proofs.library.Library.present_shared.Goals as goal

pub returns-clause-meaning : goal.returns-clause-meaning
returns-clause-meaning c =
    let r = c.named_at_hint.result in
    let P : List NamedVersion → Type 0 = λ l. IsVersion l c.args.name.now (option_map (λ found. found.1.now) r) in
    let Q : Holdings → Type 0 = λ h. IsMeaning h.modules c.args.name.now (option_map (λ found. meaning_of found.1.now) r) in
    subst Q c.self.view_is (answered_shared c.self.inside.modules c.self.inside.versions.items c.self.invariant.stored c.args.name.now r (subst P c.deref.ensures.value c.named_at_hint.ensures.version))

pub returns-clause-number : goal.returns-clause-number
returns-clause-number c =
    let r = c.named_at_hint.result in
    let P : List NamedVersion → Type 0 = λ l. IsVersion l c.args.name.now (option_map (λ found. found.1.now) r) in
    let Q : Holdings → Type 0 = λ h. IsNumber h c.args.name.now (option_map (λ found. number_of found.1.now) r) in
    subst Q c.self.view_is (numbered_shared c.self.inside.profile c.self.inside.modules c.self.inside.versions.items c.self.inside.used c.args.name.now r (subst P c.deref.ensures.value c.named_at_hint.ensures.version))
