use Rattle.std.proofs.Common.{◌∙◌, ℕ, List, ap}
use Rattle.std.proofs.lemmas.Result.{IfOk-weaker}
use Rattle.scrib_record.specs.Turns.{new_record}
use Rattle.scrib_core.proofs.conversation_steps.begin.Goals as goal

pub returns : goal.returns
returns c =
    let v = c.in_ok-numbering.numbering.version in
    IfOk-weaker c.with_numbering.result _ _ (λ new e. (v, c.in_ok-numbering.ensures, e ∙ ap (λ (n : List (List ℕ)). new_record n v) c.in_ok-name.ensures)) c.with_numbering.ensures
