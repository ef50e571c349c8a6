use Rattle.std.proofs.Common.{◌≡◌, Some, length, sym, ap, ◌∙◌}
use Rattle.std.specs.Option.{option_copied}
use Rattle.scrib_core.specs.Held.{record_at}
use Rattle.scrib_core.proofs.ComparisonLemmas.{serves_for, serves_record}
use Rattle.scrib_core.proofs.VerdictLemmas.{verdict_from}
use Rattle.scrib_core.proofs.conversation_steps.ask.Goals as goal

pub present_of-requires : goal.present_of-requires
present_of-requires c =
    let there : record_at c.args.records.now.entries c.args.key.id ≡ Some c.in-Some.record.now = sym c.record_of.ensures ∙ ap option_copied c.in-Some.is in
    serves_record c.args.comparison c.args.library.now c.args.records.now.entries c.args.key.id c.in-Some.record.now c.requires there

pub ask-answer-requires : goal.ask-answer-requires
ask-answer-requires c =
    let there : record_at c.args.records.now.entries c.args.key.id ≡ Some c.in-Some.record.now = sym c.record_of.ensures ∙ ap option_copied c.in-Some.is in
    serves_for c.args.comparison c.args.library.now c.args.records.now.entries c.args.key.id c.in-Some.record.now (option_copied c.present_of.result.1) c.requires there c.present_of.ensures

pub returns-in-Ok-verdict_of-clause-ok : goal.returns-in-Ok-verdict_of-clause-ok
returns-in-Ok-verdict_of-clause-ok c =
    let there : record_at c.args.records.now.entries c.args.key.id ≡ Some c.in-Some.record.now = sym c.record_of.ensures ∙ ap option_copied c.in-Some.is in
    record {
      of = c.in-Some.record.now;
      there = there;
      present = option_copied c.present_of.result.1;
      is_present = c.present_of.ensures;
      told = verdict_from (option_copied c.present_of.result.1) c.in-Some.record.now c.ask-answer.result c.in-Ok-verdict_of.verdict c.ask-answer.ensures c.in-Ok-verdict_of.ensures;
      lawful = c.log.ensures.lawful;
      name_is = c.in-Ok.ensures ∙ c.name.ensures;
      events_are = ap length c.log.ensures.log;
    }
