use Rattle.std.proofs.Common.{◌≡◌, Some, Ok, Err, length, refl, sym, ap, ◌∙◌}
use Rattle.std.specs.Option.{option_copied}
use Rattle.scrib_core.specs.Held.{record_at}
use Rattle.scrib_core.specs.ReplyValues.{told_of}
use Rattle.scrib_core.specs.declared.reply.Refusal.TheVariants as refusal
use Rattle.scrib_core.proofs.ComparisonLemmas.{serves_for, serves_record}
use Rattle.scrib_core.proofs.VerdictLemmas.{verdict_from}
use Rattle.scrib_core.proofs.conversation_steps.is_permitted.Goals as goal

pub present_of-requires : goal.present_of-requires
present_of-requires c =
    let there : record_at c.args.records.now.entries c.args.key.id ≡ Some c.in-Some.record.now = sym c.record_of.ensures ∙ ap option_copied c.in-Some.is in
    serves_record c.args.comparison c.args.library.now c.args.records.now.entries c.args.key.id c.in-Some.record.now c.requires there

pub ask-requires : goal.ask-requires
ask-requires c =
    let there : record_at c.args.records.now.entries c.args.key.id ≡ Some c.in-Some.record.now = sym c.record_of.ensures ∙ ap option_copied c.in-Some.is in
    serves_for c.args.comparison c.args.library.now c.args.records.now.entries c.args.key.id c.in-Some.record.now (option_copied c.present_of.result.1) c.requires there c.present_of.ensures

pub returns-in_default : goal.returns-in_default
returns-in_default c = record {
  outcome = Err refusal.NoConversation;
  ok = tt;
  fault = sym c.record_of.ensures ∙ ap option_copied c.in_default.is;
  is = refl;
}

pub returns : goal.returns
returns c =
    let there : record_at c.args.records.now.entries c.args.key.id ≡ Some c.in-Some.record.now = sym c.record_of.ensures ∙ ap option_copied c.in-Some.is in
    let r = c.in-Some.record.now in
    let present = option_copied c.present_of.result.1 in
    record {
      outcome = Ok (record { name = r.name; events = length r.log; told = told_of c.ask.result });
      ok = record {
        of = r;
        there = there;
        present = present;
        is_present = c.present_of.ensures;
        told = verdict_from present r c.ask.result (told_of c.ask.result) c.ask.ensures refl;
        lawful = c.log-log.ensures.lawful;
        name_is = refl;
        events_are = refl;
      };
      fault = tt;
      is = c.is_permitted_answer.ensures;
    }
