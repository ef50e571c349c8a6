use Rattle.std.proofs.Common.{◌∷◌, ◌∙◌, map, length, take, drop, ◌-◌, ap}
use Rattle.std.proofs.lemmas.Bool.Decides.{Decides-eqb}
use Rattle.std.proofs.lemmas.Slice.Eq.{slice_eq-Decides}
use Rattle.scrib_script_reader.proofs.Steps.{first-field}
use Rattle.scrib_script_reader.proofs.line.format_of.Goals as goal

pub returns-in-len1-up : goal.returns-in-len1-up
returns-in-len1-up c =
    let same = slice_eq-Decides Decides-eqb _ _ _ c.eq.ensures in
    let rest = map (λ field. field.now) (take (length c.args.fields.now - 1) (drop 1 c.args.fields.now)) in
    first-field (λ field. field.now) c.args.fields.now _ c.in-len1-up.len_at_least ∙ ap (λ word. word ∷ rest) (same.0 c.if-eq.true ∙ c.as_slice.ensures)
