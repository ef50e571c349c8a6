use Rattle.std.proofs.Common.{List, subst}
use Rattle.std.specs.Option.{option_map, option_copied}
use Rattle.scrib_record.specs.Versions.{meaning_of, number_of}
use Rattle.scrib_library.specs.declared.versions.NamedVersion.{NamedVersion}
use Rattle.scrib_library.specs.Modules.{IsMeaning}
use Rattle.scrib_library.specs.Holdings.{Holdings, IsNumber}
use Rattle.scrib_library.specs.Stored.{IsVersion}
use Rattle.scrib_library.proofs.MeaningLemmas.{answered_now, numbered_now}
use Rattle.scrib_library.proofs.library.Library.present_at_hint.Goals as goal

pub returns-clause-meaning : goal.returns-clause-meaning
returns-clause-meaning c =
    let r = c.found_at_hint.result.1 in
    let P : List NamedVersion → Type 0 = λ l. IsVersion l c.args.name.now (option_copied r) in
    let Q : Holdings → Type 0 = λ h. IsMeaning h.modules c.args.name.now (option_map (λ v. meaning_of v.now) r) in
    subst Q c.self.view_is (answered_now c.self.inside.modules c.self.inside.versions.items c.self.invariant.stored c.args.name.now r (subst P c.deref.ensures.value c.found_at_hint.ensures))

pub returns-clause-number : goal.returns-clause-number
returns-clause-number c =
    let r = c.found_at_hint.result.1 in
    let P : List NamedVersion → Type 0 = λ l. IsVersion l c.args.name.now (option_copied r) in
    let Q : Holdings → Type 0 = λ h. IsNumber h c.args.name.now (option_map (λ v. number_of v.now) r) in
    subst Q c.self.view_is (numbered_now c.self.inside.profile c.self.inside.modules c.self.inside.versions.items c.self.inside.used c.args.name.now r (subst P c.deref.ensures.value c.found_at_hint.ensures))
