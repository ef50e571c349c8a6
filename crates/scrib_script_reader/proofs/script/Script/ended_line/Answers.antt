use Rattle.std.proofs.Common.{◌≡◌, ◌∙◌, ◌∷◌, ◌++◌, [], ℕ, List, None, Some, sym, ap}
use Rattle.scrib_script_reader.specs.Scripts.{bare}
use Rattle.scrib_script_reader.specs.Positions.{as_text, text_of}
use Rattle.scrib_script_reader.proofs.ScriptLemmas.{text_inside, text_outside, ended_text, ended_outside}
use Rattle.scrib_script_reader.proofs.script.Script.ended_line.Goals as goal

pub returns-in-Some-clause-ended : goal.returns-in-Some-clause-ended
returns-in-Some-clause-ended c =
    let inside : text_of c.args.self.now ≡ Some (as_text c.in-Some.text) = text_inside c.args.self.now c.in-Some.text (sym c.take.ensures.value ∙ c.in-Some.is) in
    ended_text c.text_line_entry.result c.args.self.now (as_text c.in-Some.text) c.as_slice.result.now inside c.as_slice.ensures.value c.text_line_entry.ensures

pub returns-in_ok-line-in-None-clause-ended : goal.returns-in_ok-line-in-None-clause-ended
returns-in_ok-line-in-None-clause-ended c =
    let outside : text_of c.args.self.now ≡ None = text_outside c.args.self.now (sym c.take.ensures.value ∙ c.in-None.is) in
    let bytes : c.without_cr.result.now ≡ bare (c.args.self.now.line.items ++ 10 ∷ []) = c.without_cr.ensures ∙ ap (λ (t : List ℕ). bare (t ++ 10 ∷ [])) c.as_slice-in-None.ensures.value in
    ended_outside c.args.self.now c.in_ok-line-in-None.line _ _ c.without_cr.result.now outside bytes c.in_ok-line-in-None.ensures c.entry_of.ensures.text c.entry_of.ensures.entry
