use Rattle.std.proofs.Common.{◌∙◌, inl, inr, ap, sym}
use Rattle.scrib_labels.specs.Naming.{number_of}
use Rattle.scrib_labelled.specs.declared.labelled_monitor.Change.{Change}
use Rattle.scrib_labelled.specs.Changes.{after_change}
use Rattle.scrib_labelled.specs.ExchangeLines.{named_id}
use Rattle.scrib_reported.proofs.StepLemmas.{unchanged}
use Rattle.scrib_reported.proofs.reporting_monitor.ReportingMonitor.release.Goals as goal

pub returns-in-Closed-clause-named : goal.returns-in-Closed-clause-named
returns-in-Closed-clause-named c = λ o id n.
    c.forget.ensures.named id n ∙ ap (λ (x : Change). after_change (number_of c.args.self.now.names) (named_id c.args.name id) x n) (sym c.in-Closed.is)

pub returns-in-Opened-clause-named : goal.returns-in-Opened-clause-named
returns-in-Opened-clause-named c = λ o id n. elim c.in-Opened.is [
  | inl opened ↦ absurd (o opened)
  | inr same ↦ unchanged (number_of c.args.self.now.names) (named_id c.args.name id) n ∙ ap (λ (x : Change). after_change (number_of c.args.self.now.names) (named_id c.args.name id) x n) (sym same)
]
