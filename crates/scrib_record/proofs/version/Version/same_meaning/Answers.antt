use Rattle.std.proofs.Common.{◌≡◌, ◌∙◌, ap}
use Rattle.scrib_record.specs.declared.version.Edition.{Edition}
use Rattle.scrib_record.specs.Flat.{flat_form}
use Rattle.scrib_record.specs.Versions.{meaning_of}
use Rattle.scrib_record.proofs.FlatFormLemmas.{same_by_form}
use Rattle.scrib_record.proofs.version.Version.same_meaning.Goals as goal

pub returns : goal.returns
returns c =
    let flat = λ (e : Edition). e.flat in
    let x : c.as_slice.result.now ≡ flat_form (meaning_of c.args.self.now) = c.as_slice.ensures ∙ ap flat (c.deref.ensures ∙ c.self.view_is) ∙ c.args.self.now.flattened in
    let y : c.as_slice-2.result.now ≡ flat_form (meaning_of c.args.other.now) = c.as_slice-2.ensures ∙ ap flat (c.deref-2.ensures ∙ c.other.view_is) ∙ c.args.other.now.flattened in
    same_by_form c.same_long_bytes.result c.as_slice.result.now c.as_slice-2.result.now (meaning_of c.args.self.now) (meaning_of c.args.other.now) c.same_long_bytes.ensures x y
