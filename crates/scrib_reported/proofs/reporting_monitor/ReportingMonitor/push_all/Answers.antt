use Rattle.std.proofs.Common.{◌∙◌, ap, sym}
use Rattle.scrib_reported.specs.declared.reporting_monitor.ReportingMonitor.{ReportingMonitor}
use Rattle.scrib_reported.proofs.StepLemmas.{all_alone, all_closed}
use Rattle.scrib_reported.proofs.reporting_monitor.ReportingMonitor.push_all.Goals as goal

pub returns-in_ok-closed-in-Some-clause-ok : goal.returns-in_ok-closed-in-Some-clause-ok
returns-in_ok-closed-in-Some-clause-ok c =
    let style = ap (λ (m : ReportingMonitor). m.style.closes) c.push_step.ensures.same in
    all_closed c.args.head c.args.self.now c.push_step.new.self c.args.step c.in_ok-made.made c.in_ok-made.ensures.ok c.judged_by-judged.result c.judged_by-judged.ensures
    _ c.in_ok-closed-in-Some.closed c.in-Some.id (sym style ∙ c.in-Some.ensures.0) c.in-Some.ensures.1.0 c.in-Some.ensures.1.1 c.in-Some.ensures.1.2 c.in_ok-closed-in-Some.ensures.ok

pub returns-in-None-clause-ok : goal.returns-in-None-clause-ok
returns-in-None-clause-ok c =
    let style = ap (λ (m : ReportingMonitor). m.style.closes) c.push_step.ensures.same in
    all_alone c.args.head c.args.self.now c.push_step.new.self c.args.step c.in_ok-made.made c.in_ok-made.ensures.ok c.judged_by-judged.result c.judged_by-judged.ensures
    (λ on. c.in-None.ensures (style ∙ on))
