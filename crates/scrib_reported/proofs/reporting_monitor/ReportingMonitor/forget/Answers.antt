use Rattle.std.proofs.Common.{◌≡◌, ℕ, List, Option, true, subst}
use Rattle.std.specs.Borrow.{Bor}
use Rattle.std.specs.Prelude.{IfSome}
use Rattle.scrib_labels.specs.SessionNames.{is_session_name}
use Rattle.scrib_labelled.proofs.NameLemmas.{name_text}
use Rattle.scrib_reported.proofs.reporting_monitor.ReportingMonitor.forget.Goals as goal

pub unreachable-requires : goal.unreachable-requires
unreachable-requires c =
    let named : is_session_name c.in-Some.name.now ≡ true = subst (λ (n : Option (Bor (List ℕ))). IfSome n (λ name. is_session_name name.now ≡ true)) c.in-Some.is c.requires in
    c.in_default-from_utf8.ensures.cases.0 (name_text c.in-Some.name.now named)
