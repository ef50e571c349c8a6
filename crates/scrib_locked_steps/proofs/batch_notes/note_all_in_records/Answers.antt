use Rattle.std.proofs.Common.{◌≡◌, ◌∙◌, Some, refl, sym, ap, subst}
use Rattle.std.specs.Option.{option_copied}
use Rattle.indexmap.specs.IndexMap.{set_value_at}
use Rattle.scrib_record.specs.Stale.{Recorded}
use Rattle.scrib_core.specs.ConversationSteps.{IsPresent}
use Rattle.scrib_core.specs.Held.{IsRecordAt, Records, record_at}
use Rattle.scrib_locked_steps.specs.OneByOne.{OneByOne}
use Rattle.scrib_locked_steps.specs.Passes.{PassHeld}
use Rattle.scrib_locked_steps.specs.Passing.{AnswersBy}
use Rattle.scrib_locked_steps.proofs.NoteAllLemmas.{all_answered_there}
use Rattle.scrib_core.proofs.PlaceLemmas.{set_there, there_read, within_records}
use Rattle.scrib_locked_steps.proofs.batch_notes.note_all_in_records.Goals as goal

pub pair_mut-conversation-requires : goal.pair_mut-conversation-requires
pair_mut-conversation-requires c = within_records c.args.records.now.entries c.in-Some.at c.conversation.result c.in-Some.ensures.found

pub returns : goal.returns
returns c =
    let rs = c.args.records.now.entries in
    let p = c.set_hint.new.self in
    let r = c.pair_mut-conversation.result.1.now in
    let u = c.present_of-present.new.conversation in
    let after = c.note_all_in_record.new.conversation in
    let q = c.note_all_in_record.new.pass in
    let id : c.conversation.result ≡ p.conversation = c.conversation.ensures ∙ ap (λ (x : PassHeld). x.conversation) (sym c.set_hint.ensures) in
    let at : IsRecordAt rs c.in-Some.at p.conversation = subst (IsRecordAt rs c.in-Some.at) id c.in-Some.ensures.found in
    let there = there_read rs c.in-Some.at p.conversation c.pair_mut-conversation.result.0.now r c.pair_mut-conversation.ensures.unique at c.pair_mut-conversation.ensures.value in
    let u_there : record_at rs p.conversation ≡ Some u = there ∙ ap Some (sym c.present_of-present.ensures.same) in
    let is : IsPresent c.args.library.now u.name (option_copied c.present_of-present.result) =
    subst (λ (w : Recorded). IsPresent c.args.library.now w.name (option_copied c.present_of-present.result)) (sym c.present_of-present.ensures.same) c.present_of-present.ensures.present in
    subst (λ (x : PassHeld). OneByOne (AnswersBy c.args.library.now) (rs, x) c.args.batch.events.items c.note_all_in_record.result.items (set_value_at rs c.in-Some.at after, q)) c.set_hint.ensures
    (subst (λ (l : Records). OneByOne (AnswersBy c.args.library.now) (rs, p) c.args.batch.events.items c.note_all_in_record.result.items (l, q)) (sym (set_there rs c.in-Some.at p.conversation after c.pair_mut-conversation.ensures.unique at))
    (all_answered_there c.args.library.now (option_copied c.present_of-present.result) rs p.conversation (u, p) (after, q) c.args.batch.events.items c.note_all_in_record.result.items refl u_there is c.note_all_in_record.ensures))
