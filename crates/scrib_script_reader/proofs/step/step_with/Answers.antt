use Rattle.std.proofs.Common.{◌≡◌, map, length, refl, ap, ◌∙◌, arith}
use Rattle.std.proofs.lemmas.Bool.Decides.{Decides-eqb, nat_tests}
use Rattle.std.proofs.lemmas.Slice.Eq.{slice_eq-Decides}
use Rattle.std.proofs.lemmas.List.{nil_from_length}
use Rattle.scrib_script_reader.proofs.step.step_with.Goals as goal

pub returns-then-is_empty : goal.returns-then-is_empty
returns-then-is_empty c =
    let empty : length c.args.fields.now ≡ 0 = grind (arith, nat_tests, c.is_empty.ensures, c.if-is_empty.true) in
    let same = slice_eq-Decides Decides-eqb _ _ _ c.eq-5.ensures in
    (same.0 c.if-eq-5.true ∙ c.as_slice-5.ensures, refl, ap (map (λ field. field.now)) (nil_from_length c.args.fields.now empty))

pub returns-then-is_empty-2 : goal.returns-then-is_empty-2
returns-then-is_empty-2 c =
    let empty : length c.args.fields.now ≡ 0 = grind (arith, nat_tests, c.is_empty-then-eq-6.ensures, c.if-is_empty-2.true) in
    let same = slice_eq-Decides Decides-eqb _ _ _ c.eq-6.ensures in
    (same.0 c.if-eq-6.true ∙ c.as_slice-6.ensures, refl, ap (map (λ field. field.now)) (nil_from_length c.args.fields.now empty))

pub returns-then-is_empty-3 : goal.returns-then-is_empty-3
returns-then-is_empty-3 c =
    let empty : length c.args.fields.now ≡ 0 = grind (arith, nat_tests, c.is_empty-then-eq-7.ensures, c.if-is_empty-3.true) in
    let same = slice_eq-Decides Decides-eqb _ _ _ c.eq-7.ensures in
    (same.0 c.if-eq-7.true ∙ c.as_slice-7.ensures, refl, ap (map (λ field. field.now)) (nil_from_length c.args.fields.now empty))
