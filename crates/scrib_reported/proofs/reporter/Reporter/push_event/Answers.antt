use Rattle.std.proofs.Common.{◌∙◌, ap, refl, subst, sym}
use Rattle.std.proofs.lemmas.Result.{on_ok_weaker}
use Rattle.scrib_types.specs.declared.event.Told.{Told}
use Rattle.scrib_types.specs.declared.event.Told.TheVariants as tell
use Rattle.scrib_types.specs.declared.event.Verdict.{Verdict}
use Rattle.scrib_core.specs.Answers.{IsReportedIn}
use Rattle.scrib_core.specs.Held.{state_of}
use Rattle.scrib_core.specs.declared.reply.Reply.TheVariants as reply
use Rattle.scrib_core.specs.declared.step.Step.TheVariants as step
use Rattle.scrib_reported.specs.Monitors.{Adds}
use Rattle.scrib_reported.specs.ReportedReplies.{IsNoOffence}
use Rattle.scrib_reported.proofs.ReportLemmas.{event_offends, event_silent, not_reported, was_reported}
use Rattle.scrib_reported.proofs.reporter.Reporter.push_event.Goals as goal

pub returns-then-reported : goal.returns-then-reported
returns-then-reported c = λ e place.
    event_silent c.args.head (state_of c.args.core.now) c.args.id c.args.self.now _ refl c.in_ok-add_line.ensures c.args.told
    (λ none. absurd (was_reported c.offence.result _ (sym c.is_some-reported.ensures ∙ c.if-reported.true) c.offence.ensures none)) e place

pub returns-in-Judged-Offence : goal.returns-in-Judged-Offence
returns-in-Judged-Offence c =
    let whole = c.in-Judged-Offence.is ∙ ap (λ (v : Verdict). tell.Judged v) c.in-Judged-Offence.field-0-is in
    let a = c.in-Judged-Offence in
    on_ok_weaker c.push_offence.result
    (λ added. λ e place.
    subst (λ (t : Told). Adds c.args.head (state_of c.args.core.now) c.args.self.now c.push_offence.new.self (step.Note c.args.id e) (reply.Noted c.args.id place t)) (sym whole)
    (event_offends c.args.head (state_of c.args.core.now) c.args.id c.args.self.now (record c.args.self.now { kept = c.add_line.new.self }) refl c.in_ok-add_line.ensures c.push_offence.new.self a.field-0-0 a.field-0-1 a.allowed c.in_ok-found-in-Judged-Offence.found
    (not_reported c.offence.result _ (sym c.is_some-reported.ensures ∙ c.if-reported.false) c.offence.ensures)
    (c.in_ok-found-in-Judged-Offence.ensures a.field-0-0 a.field-0-1 (subst (λ (t : Told). IsReportedIn (state_of c.args.core.now) c.args.id t) whole c.requires)) added e place))
    c.push_offence.ensures

pub returns-in-Stale : goal.returns-in-Stale
returns-in-Stale c = λ e place.
    event_silent c.args.head (state_of c.args.core.now) c.args.id c.args.self.now _ refl c.in_ok-add_line.ensures c.args.told (λ none. subst (λ (t : Told). IsNoOffence t) (sym c.in-Stale.is) tt) e place

pub returns-in-Judged-Permitted : goal.returns-in-Judged-Permitted
returns-in-Judged-Permitted c = λ e place.
    event_silent c.args.head (state_of c.args.core.now) c.args.id c.args.self.now _ refl c.in_ok-add_line.ensures c.args.told
    (λ none. subst (λ (t : Told). IsNoOffence t) (sym (c.in-Judged-Permitted.is ∙ ap (λ (v : Verdict). tell.Judged v) c.in-Judged-Permitted.field-0-is)) tt) e place

pub returns : goal.returns
returns c = λ e place.
    event_silent c.args.head (state_of c.args.core.now) c.args.id c.args.self.now _ refl c.in_ok-add_line.ensures c.args.told
    (λ none. subst (λ (t : Told). IsNoOffence t) (sym (c.in-Judged-Withdrawn.is ∙ ap (λ (v : Verdict). tell.Judged v) c.in-Judged-Withdrawn.field-0-is)) tt) e place
