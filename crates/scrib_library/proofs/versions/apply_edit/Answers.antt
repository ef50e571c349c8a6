use Rattle.std.proofs.Common.{◌≡◌, List, Some, refl, sym, ap, ◌∙◌, subst}
use Rattle.std.specs.List.{insert}
use Rattle.scrib_library.specs.declared.versions.NamedVersion.{NamedVersion}
use Rattle.scrib_library.specs.Listed.{IsAt, IsGap}
use Rattle.scrib_library.specs.Stored.{version_names}
use Rattle.scrib_library.specs.Drafts.{IsApplied}
use Rattle.scrib_library.proofs.VersionEditLemmas.{made_set, made_remove, made_insert, made_nothing}
use Rattle.scrib_library.proofs.versions.apply_edit.Goals as goal

pub returns-in-Ok-Some-clause-made : goal.returns-in-Ok-Some-clause-made
returns-in-Ok-Some-clause-made c =
    let vs = c.args.versions.now.items in
    let P : List NamedVersion → Type 0 = λ l. IsAt (version_names l) c.args.edit.name c.in-Ok-Some.at in
    let at = subst P c.deref.ensures.value c.in-Ok-Some.ensures.found in
    made_set vs c.requires.versions c.args.edit c.in-Ok-Some.at at c.replace-before.new.dest (ap (λ (v : NamedVersion). v.name) c.replace-before.ensures.after) (c.in-Ok-Some.is-1 ∙ ap (λ (v : NamedVersion). Some v.version) (sym c.replace-before.ensures.after))

pub returns-in-Ok-None-clause-made : goal.returns-in-Ok-None-clause-made
returns-in-Ok-None-clause-made c =
    let vs = c.args.versions.now.items in
    let P : List NamedVersion → Type 0 = λ l. IsAt (version_names l) c.args.edit.name c.in-Ok-None.at in
    let Q : List NamedVersion → Type 0 = λ l. IsApplied vs c.args.edit l in
    subst Q (sym c.remove-before.ensures.items) (made_remove vs c.requires.versions c.args.edit c.in-Ok-None.at (subst P c.deref.ensures.value c.in-Ok-None.ensures.found) c.in-Ok-None.is-1)

pub returns-in-Err-Some-clause-made : goal.returns-in-Err-Some-clause-made
returns-in-Err-Some-clause-made c =
    let vs = c.args.versions.now.items in
    let x : NamedVersion = record { name = c.args.edit.name; version = c.in-Err-Some.version } in
    let P : List NamedVersion → Type 0 = λ l. IsGap (version_names l) c.args.edit.name c.in-Err-Some.at in
    let Q : List NamedVersion → Type 0 = λ l. IsApplied vs c.args.edit l in
    let items : c.insert.new.self.items ≡ insert vs c.in-Err-Some.at x = rw (c.insert.ensures.succeeds c.requires.room) at c.insert.ensures.items in
    subst Q (sym items) (made_insert vs c.requires.versions c.args.edit c.in-Err-Some.at (subst P c.deref.ensures.value c.in-Err-Some.ensures.gap) x refl c.in-Err-Some.is-1)

pub returns-in-Err-None-clause-made : goal.returns-in-Err-None-clause-made
returns-in-Err-None-clause-made c =
    let vs = c.args.versions.now.items in
    let P : List NamedVersion → Type 0 = λ l. IsGap (version_names l) c.args.edit.name c.in-Err-None.field-0-0 in
    made_nothing vs c.requires.versions c.args.edit c.in-Err-None.field-0-0 (subst P c.deref.ensures.value c.in-Err-None.ensures.gap) c.in-Err-None.is-1
