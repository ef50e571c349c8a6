use Rattle.std.proofs.Common.{length, sym, ap, subst}
use Rattle.std.specs.Option.{option_copied}
use Rattle.std.proofs.lemmas.Result.{err_from_is_err_and}
use Rattle.scrib_record.specs.Stale.{Recorded}
use Rattle.scrib_record.specs.Told.{IsNoted}
use Rattle.scrib_core.proofs.ComparisonLemmas.{serves_for, serves_record}
use Rattle.scrib_core.proofs.LentRecordLemmas.{kept, fails_at}
use Rattle.scrib_core.proofs.PlaceLemmas.{set_there, there_read, within_records}
use Rattle.scrib_core.proofs.NoteTestLemmas.{test_of_told}
use Rattle.scrib_core.proofs.conversation_steps.note_and_test.Goals as goal

pub pair_mut-record-requires : goal.pair_mut-record-requires
pair_mut-record-requires c = within_records c.args.records.now.entries c.in-Some.at c.args.key.id c.in-Some.ensures.found

pub present_of-hint-requires : goal.present_of-hint-requires
present_of-hint-requires c =
    let rs = c.args.records.now.entries in
    let there = there_read rs c.in-Some.at c.args.key.id c.pair_mut-record.result.0.now c.pair_mut-record.result.1.now c.pair_mut-record.ensures.unique c.in-Some.ensures.found c.pair_mut-record.ensures.value in
    serves_record c.args.comparison c.args.library.now rs c.args.key.id c.pair_mut-record.result.1.now c.requires there

pub note-requires : goal.note-requires
note-requires c =
    let rs = c.args.records.now.entries in
    let there = there_read rs c.in-Some.at c.args.key.id c.pair_mut-record.result.0.now c.pair_mut-record.result.1.now c.pair_mut-record.ensures.unique c.in-Some.ensures.found c.pair_mut-record.ensures.value in
    serves_for c.args.comparison c.args.library.now rs c.args.key.id c.pair_mut-record.result.1.now (option_copied c.present_of-hint.result.1) c.requires there c.present_of-hint.ensures

pub returns-in_err-verdict-clause-fault : goal.returns-in_err-verdict-clause-fault
returns-in_err-verdict-clause-fault c =
    let rs = c.args.records.now.entries in
    let there = there_read rs c.in-Some.at c.args.key.id c.pair_mut-record.result.0.now c.pair_mut-record.result.1.now c.pair_mut-record.ensures.unique c.in-Some.ensures.found c.pair_mut-record.ensures.value in
    let p = err_from_is_err_and c.from_residual.result c.from_residual.ensures.1 in
    rw (p.1, p.2) (fails_at rs c.args.key.id c.pair_mut-record.result.1.now c.in_err-verdict.field-0.0 there c.in_err-verdict.ensures.fault)

pub returns-in_err-verdict-clause-err : goal.returns-in_err-verdict-clause-err
returns-in_err-verdict-clause-err c =
    let rs = c.args.records.now.entries in
    let there = there_read rs c.in-Some.at c.args.key.id c.pair_mut-record.result.0.now c.pair_mut-record.result.1.now c.pair_mut-record.ensures.unique c.in-Some.ensures.found c.pair_mut-record.ensures.value in
    let p = err_from_is_err_and c.from_residual.result c.from_residual.ensures.1 in
    rw p.1 (kept rs _ c.args.key.id c.pair_mut-record.result.1.now c.note.new.self there (set_there rs c.in-Some.at c.args.key.id c.note.new.self c.pair_mut-record.ensures.unique c.in-Some.ensures.found) c.in_err-verdict.ensures.err)

pub returns-clause-ok : goal.returns-clause-ok
returns-clause-ok c =
    let rs = c.args.records.now.entries in
    let r = c.pair_mut-record.result.1.now in
    let after = c.set_hint.new.self in
    let there = there_read rs c.in-Some.at c.args.key.id c.pair_mut-record.result.0.now r c.pair_mut-record.ensures.unique c.in-Some.ensures.found c.pair_mut-record.ensures.value in
    let present = option_copied c.present_of-hint.result.1 in
    record {
      before = r;
      there = there;
      room = c.in_ok-verdict.ensures.room;
      present = present;
      is_present = c.present_of-hint.ensures;
      after = after;
      noted = subst (λ (w : Recorded). IsNoted present r c.args.event w c.in_ok-verdict.verdict) (sym c.set_hint.ensures) c.in_ok-verdict.ensures.ok;
      lawful = c.log-place.ensures.lawful;
      put = set_there rs c.in-Some.at c.args.key.id after c.pair_mut-record.ensures.unique c.in-Some.ensures.found;
      place_is = ap length c.log-place.ensures.log;
    }

pub returns-clause-complete : goal.returns-clause-complete
returns-clause-complete c =
    let rs = c.args.records.now.entries in
    let r = c.pair_mut-record.result.1.now in
    let after = c.set_hint.new.self in
    let there = there_read rs c.in-Some.at c.args.key.id c.pair_mut-record.result.0.now r c.pair_mut-record.ensures.unique c.in-Some.ensures.found c.pair_mut-record.ensures.value in
    let present = option_copied c.present_of-hint.result.1 in
    let put = set_there rs c.in-Some.at c.args.key.id after c.pair_mut-record.ensures.unique c.in-Some.ensures.found in
    let noted = subst (λ (w : Recorded). IsNoted present r c.args.event w c.in_ok-verdict.verdict) (sym c.set_hint.ensures) c.in_ok-verdict.ensures.ok in
    test_of_told c.args.library.now rs _ c.args.key.id r after there put present c.present_of-hint.ensures c.args.event c.in_ok-verdict.verdict noted c.log-place.ensures.lawful c.is_complete_then-complete.result c.is_complete_then-complete.ensures.holds c.is_complete_then-complete.ensures.fails
