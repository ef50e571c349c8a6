use Rattle.std.proofs.Common.{subst, sym}
use Rattle.scrib_types.specs.declared.event.Told.{Told}
use Rattle.scrib_types.specs.declared.event.Told.TheVariants as tell
use Rattle.scrib_core.specs.Held.{state_of}
use Rattle.scrib_core.specs.declared.reply.Reply.TheVariants as reply
use Rattle.scrib_core.specs.declared.step.Step.TheVariants as step
use Rattle.scrib_reported.specs.Kept.{keeping}
use Rattle.scrib_reported.specs.Monitors.{Adds}
use Rattle.scrib_reported.specs.ReportedReplies as replies
use Rattle.scrib_reported.proofs.ReportLemmas.{adds_nothing}
use Rattle.scrib_reported.proofs.reporter.Reporter.push_turned.Goals as goal

pub returns-in-Stale : goal.returns-in-Stale
returns-in-Stale c = λ i events.
    subst (λ (t : Told). Adds c.args.head (state_of c.args.core.now) c.args.self.now c.args.self.now (step.Turn c.args.id) (reply.Judged i c.args.turned.name events t)) (sym c.in-Stale.is)
    (adds_nothing c.args.head (state_of c.args.core.now) c.args.self.now (step.Turn c.args.id) (reply.Judged i c.args.turned.name events tell.Stale) (replies.waits c.args.id i events c.args.turned.name (keeping c.args.self.now.kept c.args.id)))
