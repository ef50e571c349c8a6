use Rattle.std.proofs.Common.{◌≡◌, ◌≢◌, ◌∙◌, Some, None, [], ◌∷◌, sym, subst}
use Rattle.std.proofs.lemmas.Bool.{false≢true}
use Rattle.std.proofs.lemmas.Result.{err_from_is_err_and}
use Rattle.scrib_script_reader.specs.declared.entry.Entry.TheVariants as entry
use Rattle.scrib_script_reader.specs.declared.item.Item.{Item}
use Rattle.scrib_script_reader.specs.Scripts.{text_end}
use Rattle.scrib_script_reader.specs.Positions.{as_text, text_of, EndGives}
use Rattle.scrib_script_reader.proofs.ScriptLemmas.{text_inside, text_outside, line_is_empty, line_is_some, ends_empty, ends_inside, ends_put, last_line}
use Rattle.scrib_script_reader.proofs.script.Script.last_entry.Goals as goal

pub returns-then-is_empty-clause-ends : goal.returns-then-is_empty-clause-ends
returns-then-is_empty-clause-ends c =
    let outside : text_of c.args.self.now ≡ None = text_outside c.args.self.now (sym c.take.ensures.value ∙ c.in_default.is) in
    ends_empty c.args.self.now outside (line_is_empty c.args.self.now.line c.if-is_empty.ensures)

pub returns-in_default-clause-ends : goal.returns-in_default-clause-ends
returns-in_default-clause-ends c =
    let outside : text_of c.args.self.now ≡ None = text_outside c.args.self.now (sym c.take.ensures.value ∙ c.in_default.is) in
    let some = line_is_some c.args.self.now.line c.if-is_empty.ensures in
    last_line c.args.self.now c.in_ok-line.line _ c.as_slice.result.now outside some c.as_slice.ensures.value c.in_ok-line.ensures c.last_entry_of.ensures

pub returns-then-is_text_end-clause-ends : goal.returns-then-is_text_end-clause-ends
returns-then-is_text_end-clause-ends c =
    let inside : text_of c.args.self.now ≡ Some (as_text c.in-Some.text) = text_inside c.args.self.now c.in-Some.text (sym c.take.ensures.value ∙ c.in-Some.is) in
    let is_end : c.args.self.now.line.items ≡ text_end = sym c.as_slice-2.ensures.value ∙ c.is_text_end.ensures.0 c.if-is_text_end.true in
    subst (λ (i : Item). EndGives c.args.self.now (entry.Item i ∷ [])) (sym c.put_of.ensures) (ends_put c.args.self.now (as_text c.in-Some.text) inside is_end)

pub returns-clause-ends : goal.returns-clause-ends
returns-clause-ends c =
    let inside : text_of c.args.self.now ≡ Some (as_text c.in-Some.text) = text_inside c.args.self.now c.in-Some.text (sym c.take.ensures.value ∙ c.in-Some.is) in
    let ne : c.args.self.now.line.items ≢ text_end = λ e. false≢true (sym c.if-is_text_end.false ∙ c.is_text_end.ensures.1 (c.as_slice-2.ensures.value ∙ e)) in
    ends_inside c.args.self.now (as_text c.in-Some.text) inside ne

pub returns-in_err-line-clause-limit : goal.returns-in_err-line-clause-limit
returns-in_err-line-clause-limit c =
    let p = err_from_is_err_and c.from_residual.result c.from_residual.ensures.1 in
    rw p.1 p.2
