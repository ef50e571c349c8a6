use Rattle.std.proofs.Common.{◌≡◌, ◌∙◌, ◌∷◌, [], ℕ, List, take, drop, sym, ap, arith}
use Rattle.std.proofs.lemmas.Bool.Decides.{nat_tests}
use Rattle.std.specs.List.{position_or_len}
use Rattle.scrib_script_reader.specs.Fields.{fields, is_blank}
use Rattle.scrib_labels.proofs.FieldLemmas.{first_cut, no_fields}
use Rattle.scrib_labels.proofs.field.next_field.Goals as goal

pub returns-then-is_empty : goal.returns-then-is_empty
returns-then-is_empty c =
    let none : c.without_blanks-bytes.result.now ≡ [] = grind (arith, nat_tests) in
    sym c.without_blanks-bytes.ensures.same ∙ ap fields none ∙ no_fields

pub returns : goal.returns
returns c =
    let cut = first_cut c.without_blanks-bytes.result.now (λ e. grind (arith, nat_tests)) c.without_blanks-bytes.ensures.begins in
    let front = c.split_at.ensures.front ∙ ap (λ (n : ℕ). take n c.without_blanks-bytes.result.now) c.field_len-end.ensures.is in
    let back = c.split_at.ensures.back ∙ ap (λ (n : ℕ). drop n c.without_blanks-bytes.result.now) c.field_len-end.ensures.is in
    sym c.without_blanks-bytes.ensures.same ∙ cut ∙ sym (ap (λ (t : List ℕ). t ∷ fields c.split_at.result.1.now) front ∙ ap (λ (t : List ℕ). take (position_or_len is_blank c.without_blanks-bytes.result.now) c.without_blanks-bytes.result.now ∷ fields t) back)
