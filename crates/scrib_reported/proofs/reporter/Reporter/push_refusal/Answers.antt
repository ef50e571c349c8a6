use Rattle.std.proofs.Common.{refl}
use Rattle.std.proofs.lemmas.Result.{on_ok_weaker}
use Rattle.scrib_reported.proofs.ReportLemmas.{refusal_adds}
use Rattle.scrib_reported.proofs.reporter.Reporter.push_refusal.Goals as goal

pub returns : goal.returns
returns c =
    on_ok_weaker c.push_finding.result
    (λ h. λ s made is. refusal_adds c.args.head s c.args.self.now _ made c.args.refusal c.args.id _ is refl c.conversation_of_step.ensures refl refl h)
    c.push_finding.ensures
