use Rattle.std.proofs.Common.{◌∙◌, map, sym, arith}
use Rattle.std.proofs.lemmas.Bool.{false≢true}
use Rattle.std.proofs.lemmas.Bool.Decides.{Decides-eqb}
use Rattle.std.proofs.lemmas.Slice.Eq.{slice_eq-Decides}
use Rattle.std.proofs.lemmas.List.{length-map}
use Rattle.std.proofs.lemmas.Result.{IfOk-weaker}
use Rattle.scrib_script_reader.proofs.Steps.{no-short, two-fields, no-withdraw, no-profile, found-edit, found-step}
use Rattle.scrib_script_reader.proofs.step.step_of.Goals as goal

pub returns-in_default : goal.returns-in_default
returns-in_default c =
    no-short (map (λ field. field.now) c.args.fields.now) (omega (arith, length-map c.args.fields.now (λ field. field.now), c.in_default.len_below))

pub returns-then-eq : goal.returns-then-eq
returns-then-eq c =
    let here = two-fields (λ field. field.now) c.args.fields.now _ c.in-len2-up.len_at_least in
    let same = slice_eq-Decides Decides-eqb _ _ _ c.eq.ensures in
    rw here (IfOk-weaker c.withdraw_of.result _ _ (λ o. found-edit _ _ _ _ no-withdraw (same.0 c.if-eq.true ∙ c.as_slice.ensures) o) c.withdraw_of.ensures)

pub returns-then-eq-2 : goal.returns-then-eq-2
returns-then-eq-2 c =
    let here = two-fields (λ field. field.now) c.args.fields.now _ c.in-len2-up.len_at_least in
    let same = slice_eq-Decides Decides-eqb _ _ _ c.eq-2.ensures in
    rw here (found-edit _ _ _ _ no-profile (same.0 c.if-eq-2.true ∙ c.as_slice-2.ensures) c.profile_of.result c.profile_of.ensures)

pub returns : goal.returns
returns c =
    let here = two-fields (λ field. field.now) c.args.fields.now _ c.in-len2-up.len_at_least in
    let same = slice_eq-Decides Decides-eqb _ _ _ c.eq.ensures in
    let like = slice_eq-Decides Decides-eqb _ _ _ c.eq-2.ensures in
    rw here (IfOk-weaker c.step_with.result _ _ (λ o. found-step _ _ _ _ (λ e. false≢true (sym c.if-eq.false ∙ same.1 (e ∙ sym c.as_slice.ensures))) (λ e. false≢true (sym c.if-eq-2.false ∙ like.1 (e ∙ sym c.as_slice-2.ensures))) c.in-Some.ensures o) c.step_with.ensures)
