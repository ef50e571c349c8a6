use Rattle.std.proofs.Common.{◌≡◌, List, ℕ, Option, true, subst}
use Rattle.std.specs.Borrow.{Bor}
use Rattle.std.specs.Prelude.{IfSome}
use Rattle.scrib_labels.specs.SessionNames.{is_session_name}
use Rattle.scrib_labelled.proofs.NameLemmas.{name_text}
use Rattle.scrib_hold_labelled.proofs.line_stage.session_with.Goals as goal

pub unreachable-requires : goal.unreachable-requires
unreachable-requires c =
    let name = c.in_ok-name.field-0 in
    let named : is_session_name name.now ≡ true = subst (λ (n : Option (Bor (List ℕ))). IfSome n (λ name. is_session_name name.now ≡ true)) c.in_ok-name.was c.requires in
    c.in_default.ensures.cases.0 (name_text name.now named)
