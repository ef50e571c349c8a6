use Rattle.std.proofs.Common.{◌∙◌, not, ap, subst}
use Rattle.std.specs.Option.{option_copied}
use Rattle.scrib_types.specs.declared.event.Verdict.TheVariants.{Permitted, Offence}
use Rattle.scrib_record.specs.Stale.{Recorded}
use Rattle.scrib_record.proofs.ResultLemmas.{is_fresh, fresh_at, not_stale, Answers, answered}
use Rattle.scrib_record.proofs.record.Record.ask.Goals as goal

pub returns-in-Permitted : goal.returns-in-Permitted
returns-in-Permitted c =
    let present = option_copied c.args.present in
    let r = c.self.inside in
    let test = c.is_stale.ensures ∙ ap not (fresh_at present r.log.items r.judging c.len.result (c.len.ensures ∙ r.log.ok.0)) in
    let fresh = not_stale (is_fresh present r.log.items r.judging) c.is_stale.result test c.if-is_stale.false in
    subst (λ (x : Recorded). Answers present x Permitted) c.self.view_is (answered present r.name r.log.items r.judging Permitted c.self.invariant.kept fresh c.in-Permitted.is)

pub returns-in-Offence : goal.returns-in-Offence
returns-in-Offence c =
    let present = option_copied c.args.present in
    let r = c.self.inside in
    let test = c.is_stale.ensures ∙ ap not (fresh_at present r.log.items r.judging c.len.result (c.len.ensures ∙ r.log.ok.0)) in
    let fresh = not_stale (is_fresh present r.log.items r.judging) c.is_stale.result test c.if-is_stale.false in
    subst (λ (x : Recorded). Answers present x (Offence c.in-Offence.place c.in-Offence.role c.in-Offence.allowed)) c.self.view_is
    (answered present r.name r.log.items r.judging (Offence c.in-Offence.place c.in-Offence.role c.in-Offence.allowed) c.self.invariant.kept fresh c.in-Offence.is)
