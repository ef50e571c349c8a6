use Rattle.std.proofs.Common.{length, refl, sym, ap, subst, ◌∙◌}
use Rattle.std.specs.Option.{option_copied}
use Rattle.scrib_record.specs.Stale.{Recorded}
use Rattle.scrib_record.specs.Told.{IsTurned}
use Rattle.scrib_core.proofs.ComparisonLemmas.{serves_for, serves_record}
use Rattle.scrib_core.proofs.LentRecordLemmas.{kept, some_there}
use Rattle.scrib_core.proofs.PlaceLemmas.{set_there, there_read, within_records}
use Rattle.scrib_core.proofs.conversation_steps.turn.Goals as goal

pub pair_mut-record-requires : goal.pair_mut-record-requires
pair_mut-record-requires c = within_records c.args.records.now.entries c.in-Some.at c.args.key.id c.in-Some.ensures.found

pub present_of-hint-requires : goal.present_of-hint-requires
present_of-hint-requires c =
    let rs = c.args.records.now.entries in
    let there = there_read rs c.in-Some.at c.args.key.id c.pair_mut-record.result.0.now c.pair_mut-record.result.1.now c.pair_mut-record.ensures.unique c.in-Some.ensures.found c.pair_mut-record.ensures.value in
    serves_record c.args.comparison c.args.library.now rs c.args.key.id c.pair_mut-record.result.1.now c.requires there

pub turn-requires : goal.turn-requires
turn-requires c =
    let rs = c.args.records.now.entries in
    let there = there_read rs c.in-Some.at c.args.key.id c.pair_mut-record.result.0.now c.pair_mut-record.result.1.now c.pair_mut-record.ensures.unique c.in-Some.ensures.found c.pair_mut-record.ensures.value in
    serves_for c.args.comparison c.args.library.now rs c.args.key.id c.pair_mut-record.result.1.now (option_copied c.present_of-hint.result.1) c.requires there c.present_of-hint.ensures

pub returns-in_default-copy-clause-fault : goal.returns-in_default-copy-clause-fault
returns-in_default-copy-clause-fault c =
    let rs = c.args.records.now.entries in
    let there = there_read rs c.in-Some.at c.args.key.id c.pair_mut-record.result.0.now c.pair_mut-record.result.1.now c.pair_mut-record.ensures.unique c.in-Some.ensures.found c.pair_mut-record.ensures.value in
    some_there rs c.args.key.id c.pair_mut-record.result.1.now there

pub returns-in_default-copy-clause-err : goal.returns-in_default-copy-clause-err
returns-in_default-copy-clause-err c =
    let rs = c.args.records.now.entries in
    let there = there_read rs c.in-Some.at c.args.key.id c.pair_mut-record.result.0.now c.pair_mut-record.result.1.now c.pair_mut-record.ensures.unique c.in-Some.ensures.found c.pair_mut-record.ensures.value in
    let r = c.pair_mut-record.result.1.now in
    kept rs _ c.args.key.id r r there (set_there rs c.in-Some.at c.args.key.id r c.pair_mut-record.ensures.unique c.in-Some.ensures.found) refl

pub returns-in-Err-clause-fault : goal.returns-in-Err-clause-fault
returns-in-Err-clause-fault c =
    let rs = c.args.records.now.entries in
    let there = there_read rs c.in-Some.at c.args.key.id c.pair_mut-record.result.0.now c.pair_mut-record.result.1.now c.pair_mut-record.ensures.unique c.in-Some.ensures.found c.pair_mut-record.ensures.value in
    some_there rs c.args.key.id c.pair_mut-record.result.1.now there

pub returns-in-Err-clause-err : goal.returns-in-Err-clause-err
returns-in-Err-clause-err c =
    let rs = c.args.records.now.entries in
    let there = there_read rs c.in-Some.at c.args.key.id c.pair_mut-record.result.0.now c.pair_mut-record.result.1.now c.pair_mut-record.ensures.unique c.in-Some.ensures.found c.pair_mut-record.ensures.value in
    kept rs _ c.args.key.id c.pair_mut-record.result.1.now c.turn.new.self there (set_there rs c.in-Some.at c.args.key.id c.turn.new.self c.pair_mut-record.ensures.unique c.in-Some.ensures.found) c.in-Err.ensures.err

pub returns-in-Ok-turn-clause-ok : goal.returns-in-Ok-turn-clause-ok
returns-in-Ok-turn-clause-ok c =
    let rs = c.args.records.now.entries in
    let r = c.pair_mut-record.result.1.now in
    let after = c.set_hint.new.self in
    let there = there_read rs c.in-Some.at c.args.key.id c.pair_mut-record.result.0.now r c.pair_mut-record.ensures.unique c.in-Some.ensures.found c.pair_mut-record.ensures.value in
    let present = option_copied c.present_of-hint.result.1 in
    let turned : IsTurned present r after c.in-Ok-turn.verdict = subst (λ (w : Recorded). IsTurned present r w c.in-Ok-turn.verdict) (sym c.set_hint.ensures) c.in-Ok-turn.ensures.ok in
    record {
      before = r;
      there = there;
      present = present;
      is_present = c.present_of-hint.ensures;
      after = after;
      turned = turned;
      lawful = c.log-events.ensures.lawful;
      put = set_there rs c.in-Some.at c.args.key.id after c.pair_mut-record.ensures.unique c.in-Some.ensures.found;
      name_is = c.in-Ok.ensures ∙ c.name.ensures ∙ sym turned.name;
      events_are = ap length c.log-events.ensures.log;
    }
