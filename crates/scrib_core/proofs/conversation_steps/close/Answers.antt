use Rattle.std.proofs.Common.{◌≡◌, Some, length, sym, ap, ◌∙◌}
use Rattle.std.specs.Option.{option_copied}
use Rattle.scrib_core.specs.Held.{record_at}
use Rattle.scrib_core.proofs.ComparisonLemmas.{serves_for, serves_record}
use Rattle.scrib_core.proofs.LentRecordLemmas.{some_there}
use Rattle.scrib_core.proofs.PlaceLemmas.{taken_out}
use Rattle.scrib_core.proofs.conversation_steps.close.Goals as goal

pub returns-in_default-clause-fault : goal.returns-in_default-clause-fault
returns-in_default-clause-fault c = sym c.record_of.ensures ∙ ap option_copied c.in_default.is

pub present_of-requires : goal.present_of-requires
present_of-requires c =
    let there : record_at c.args.records.now.entries c.args.key.id ≡ Some c.in-Some.record.now = sym c.record_of.ensures ∙ ap option_copied c.in-Some.is in
    serves_record c.args.comparison c.args.library.now c.args.records.now.entries c.args.key.id c.in-Some.record.now c.requires there

pub judge_whole-requires : goal.judge_whole-requires
judge_whole-requires c =
    let there : record_at c.args.records.now.entries c.args.key.id ≡ Some c.in-Some.record.now = sym c.record_of.ensures ∙ ap option_copied c.in-Some.is in
    serves_for c.args.comparison c.args.library.now c.args.records.now.entries c.args.key.id c.in-Some.record.now (option_copied c.present_of.result.1) c.requires there c.present_of.ensures

pub returns-in_default-copy-clause-fault : goal.returns-in_default-copy-clause-fault
returns-in_default-copy-clause-fault c =
    let there : record_at c.args.records.now.entries c.args.key.id ≡ Some c.in-Some.record.now = sym c.record_of.ensures ∙ ap option_copied c.in-Some.is in
    some_there c.args.records.now.entries c.args.key.id c.in-Some.record.now there

pub returns-in_default-judge_whole-clause-fault : goal.returns-in_default-judge_whole-clause-fault
returns-in_default-judge_whole-clause-fault c =
    let there : record_at c.args.records.now.entries c.args.key.id ≡ Some c.in-Some.record.now = sym c.record_of.ensures ∙ ap option_copied c.in-Some.is in
    some_there c.args.records.now.entries c.args.key.id c.in-Some.record.now there

pub returns-clause-ok : goal.returns-clause-ok
returns-clause-ok c =
    let rs = c.args.records.now.entries in
    let r = c.in-Some.record.now in
    let there : record_at c.args.records.now.entries c.args.key.id ≡ Some c.in-Some.record.now = sym c.record_of.ensures ∙ ap option_copied c.in-Some.is in
    record {
      before = r;
      present = option_copied c.present_of.result.1;
      is_present = c.present_of.ensures;
      whole = c.in-Ok-judge_whole.ensures;
      name_is = c.in-Ok.ensures ∙ c.name.ensures;
      events_are = ap length c.log-events.ensures.log;
      taken = taken_out rs c.swap_remove-record.new.self.entries c.args.key.id r there c.swap_remove-record.ensures.entries c.swap_remove-record.ensures.updates.1 c.swap_remove-record.ensures.updates.2;
    }
