use Rattle.std.proofs.Common.{◌∙◌, ◌++◌, ℕ, List, ap, subst, sym}
use Rattle.std.proofs.lemmas.Result.{on_ok_weaker}
use Rattle.scrib_labelled.specs.NamedLines.{IsNumbersOf, label_of, session_of}
use Rattle.scrib_reported.specs.declared.reporting_monitor.ReportingMonitor.{ReportingMonitor}
use Rattle.scrib_reported.proofs.StepLemmas.{carries_item}
use Rattle.scrib_reported.proofs.reporting_monitor.ReportingMonitor.carry_out.Goals as goal

pub rename-requires : goal.rename-requires
rename-requires c = subst (λ (m : ReportingMonitor). IsNumbersOf m.names (session_of c.args.parts.session)) (sym c.push_item.ensures.same) c.requires

pub returns-clause-ok : goal.returns-clause-ok
returns-clause-ok c =
    on_ok_weaker c.add_bytes.result
    (λ g. carries_item c.args.self.now c.push_item.new.self c.rename.new.self c.add_bytes.new.self (label_of c.args.parts) c.args.item c.in_ok-change.change c.in_ok-change.ensures.ok c.push_item.ensures.same
    c.rename.ensures.same c.in_ok-rename.ensures.named (g ∙ ap (λ (t : List ℕ). c.rename.new.self.gathered.bytes.items ++ t) c.as_slice.ensures.value))
    c.add_bytes.ensures.ok
