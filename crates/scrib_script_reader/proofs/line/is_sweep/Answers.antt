use Rattle.std.proofs.Common.{◌≡◌, ◌∷◌, [], sym, ap, ◌∙◌, codes}
use Rattle.std.proofs.lemmas.Slice.Eq.{slice_eq-Decides}
use Rattle.std.proofs.lemmas.Bool.Decides.{Decides-eqb}
use Rattle.scrib_script_reader.proofs.Steps.{one-field}
use Rattle.scrib_script_reader.proofs.line.is_sweep.Goals as goal

pub returns-in-len1 : goal.returns-in-len1
returns-in-len1 c =
    let here = one-field (λ field. field.now) c.args.fields.now _ c.in-len1.len_at_least c.in-len1.len_below in
    let same = slice_eq-Decides Decides-eqb _ _ _ c.eq.ensures in
    (λ t. here ∙ ap (λ word. word ∷ []) (same.0 t ∙ c.as_slice.ensures), λ e. same.1 (let h : _ ∷ [] ≡ codes "sweep" ∷ [] = sym here ∙ e in let k = c.as_slice.ensures in cc))
