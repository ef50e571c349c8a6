use Rattle.std.proofs.Common.{◌∙◌, ap, refl, sym}
use Rattle.std.specs.Option.{option_copied}
use Rattle.std.proofs.lemmas.Result.{on_ok_weaker}
use Rattle.scrib_reported.proofs.ReportLemmas.{turn_clean, turn_ends}
use Rattle.scrib_reported.proofs.reporter.Reporter.push_clean.Goals as goal

pub returns-in_default : goal.returns-in_default
returns-in_default c = λ s i events v clean.
    turn_clean c.args.head s c.args.id c.args.self.now c.args.name.now v c.args.verdict clean (sym c.offence.ensures ∙ ap option_copied c.in_default.is) i events

pub returns : goal.returns
returns c =
    on_ok_weaker c.set_offence.result
    (λ k. λ s i events v clean. turn_ends c.args.head s c.args.id c.args.self.now _ c.args.name.now v c.args.verdict c.in-Some.was.now _ clean (sym c.offence.ensures ∙ ap option_copied c.in-Some.is)
    (record { of = c.conversation_of.ensures; protocol_is = refl; was_is = refl; verdict_is = refl; found_at = refl }) k c.in_ok-push_finding.ensures i events)
    c.set_offence.ensures
