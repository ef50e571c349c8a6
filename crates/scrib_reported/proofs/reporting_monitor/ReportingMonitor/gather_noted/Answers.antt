use Rattle.std.proofs.Common.{◌∙◌, ◌++◌, ℕ, List, ap}
use Rattle.std.proofs.lemmas.Result.{on_ok_weaker}
use Rattle.scrib_core.specs.ReplyValues.{note_reply_of}
use Rattle.scrib_core.specs.declared.step.Step.TheVariants.{Note}
use Rattle.scrib_reported.proofs.StepLemmas.{gathers_reply}
use Rattle.scrib_reported.proofs.reporting_monitor.ReportingMonitor.gather_noted.Goals as goal

pub returns-clause-ok : goal.returns-clause-ok
returns-clause-ok c =
    on_ok_weaker c.add_bytes.result
    (λ g. λ e. gathers_reply c.args.head c.args.self.now _ c.clear.new.self (Note c.args.id e) (note_reply_of c.args.id c.args.noted) c.clear.ensures.items (c.in_ok-push_noted.ensures e) (g ∙ ap (λ (t : List ℕ). c.args.self.now.gathered.bytes.items ++ t) c.as_slice.ensures.value))
    c.add_bytes.ensures.ok
