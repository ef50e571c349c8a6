use Rattle.std.proofs.Common.{◌≡◌, ◌∙◌, ◌++◌, ◌∷◌, [], List, Result, refl, sym, ap, subst, length, arith}
use Rattle.std.specs.Option.{option_copied}
use Rattle.std.proofs.lemmas.List.{length_push}
use Rattle.scrib_locked_steps.specs.declared.pass_calls.PassRefusal.{PassRefusal}
use Rattle.scrib_core.specs.declared.conversation_steps.Noted.{Noted}
use Rattle.scrib_locked_steps.specs.Noting.{AnswersIn}
use Rattle.scrib_locked_steps.specs.OneByOne.{OneByOne}
use Rattle.scrib_locked_steps.proofs.Notes.{compared_in, held_after}
use Rattle.scrib_locked_steps.proofs.OneByOne.{none_yet, one_more}
use Rattle.scrib_locked_steps.proofs.ServingLemmas.{serves_on}
use Rattle.scrib_locked_steps.proofs.batch_notes.note_all_in_record.Goals as goal

pub loop-event-init : goal.loop-event-init
loop-event-init c =
    let none : length c.args.batch.room.items ≡ 0 = omega (arith, c.args.batch.room.ok.0, c.args.batch.empty) in
    record {
      answered = none_yet (AnswersIn (option_copied c.args.present)) (c.args.conversation.now, c.args.pass.now) c.args.batch.room.items none;
      mismatch = compared_in c.args.pass.now c.args.conversation.now c.log.result.now c.newest.result.now c.first_mismatch.result c.log.ensures.log c.newest.ensures c.first_mismatch.ensures;
      serves = c.comparison_for.ensures.serves;
      each = none;
      room = refl;
    }

pub loop-event-preserved : goal.loop-event-preserved
loop-event-preserved c =
    let l = c.loop-event in
    let n = c.note_unless_mismatch-answer in
    let more = one_more (AnswersIn (option_copied c.args.present)) (c.args.conversation.now, c.args.pass.now) (l.conversation, l.pass) (n.new.conversation, n.new.pass)
    l.yielded l.answers.items c.in-Some.event n.result l.invariant.answered n.ensures.answered in
    record {
      answered = subst (λ (xs : List (Result Noted PassRefusal)). OneByOne (AnswersIn (option_copied c.args.present)) (c.args.conversation.now, c.args.pass.now) (l.yielded ++ c.in-Some.event ∷ []) xs (n.new.conversation, n.new.pass))
          (sym c.push_reserved.ensures.items) more;
      mismatch = n.ensures.mismatch;
      serves = serves_on c.comparison_for.result (option_copied c.args.present) l.conversation n.new.conversation
          (held_after (option_copied c.args.present) (l.conversation, l.pass) (n.new.conversation, n.new.pass) c.in-Some.event n.result n.ensures.answered) l.invariant.serves;
      each = omega (arith, ap length c.push_reserved.ensures.items, length_push l.answers.items n.result, length_push l.yielded c.in-Some.event, l.invariant.each);
      room = c.push_reserved.ensures.capacity ∙ l.invariant.room;
    }
