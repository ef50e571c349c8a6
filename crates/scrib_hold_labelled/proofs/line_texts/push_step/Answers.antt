use Rattle.std.proofs.Common.{ℕ, List, ◌++◌, ◌∙◌, ap, sym}
use Rattle.std.proofs.lemmas.Result.{on_ok_weaker}
use Rattle.scrib_hold_labelled.proofs.TextLemmas.{other_step}
use Rattle.scrib_hold_labelled.proofs.line_texts.push_step.Goals as goal

pub returns-in_default : goal.returns-in_default
returns-in_default c =
    on_ok_weaker c.push_line.result
    (λ h. h ∙ ap (λ (t : List ℕ). c.args.out.now.items ++ t) (sym (other_step c.args.objects c.args.text.now c.args.step.now c.in_default.not-Put)))
    c.push_line.ensures
