use Rattle.std.proofs.Common.{sym, subst}
use Rattle.std.proofs.lemmas.Result.{IfOk-weaker}
use Rattle.scrib_core.specs.declared.step.Step.{Step}
use Rattle.scrib_reported.specs.Monitors.{MakesStep}
use Rattle.scrib_reported.proofs.StepLemmas.{other_step}
use Rattle.scrib_reported.proofs.reporting_monitor.ReportingMonitor.push_step.Goals as goal

pub returns-in-Note-clause-ok : goal.returns-in-Note-clause-ok
returns-in-Note-clause-ok c =
    IfOk-weaker c.push_note.result _ _ (λ o m. subst (λ (s : Step). MakesStep c.args.head c.args.self.now c.push_note.new.self s o) (sym c.in-Note.is) m) c.push_note.ensures.ok

pub returns-in-Turn-clause-ok : goal.returns-in-Turn-clause-ok
returns-in-Turn-clause-ok c =
    IfOk-weaker c.push_turn.result _ _ (λ o m. subst (λ (s : Step). MakesStep c.args.head c.args.self.now c.push_turn.new.self s o) (sym c.in-Turn.is) m) c.push_turn.ensures.ok

pub push_other-requires : goal.push_other-requires
push_other-requires c = other_step c.args.step c.in_default.not-Note c.in_default.not-Turn
