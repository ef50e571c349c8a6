use Rattle.std.proofs.Common.{◌≡◌, ◌∙◌, ◌++◌, ◌∷◌, [], List, Result, refl, sym, ap, subst, length, arith}
use Rattle.std.proofs.lemmas.List.{length_push}
use Rattle.scrib_locked_steps.specs.declared.pass_calls.PassRefusal.{PassRefusal}
use Rattle.scrib_core.specs.declared.conversation_steps.Noted.{Noted}
use Rattle.scrib_locked_steps.specs.OneByOne.{OneByOne}
use Rattle.scrib_locked_steps.specs.Passing.{AnswersBy}
use Rattle.scrib_locked_steps.proofs.OneByOne.{none_yet, one_more}
use Rattle.scrib_locked_steps.proofs.batch_notes.refuse_all.Goals as goal

pub loop-event-init : goal.loop-event-init
loop-event-init c =
    let none : length c.args.batch.room.items ≡ 0 = omega (arith, c.args.batch.room.ok.0, c.args.batch.empty) in
    record {
      answered = λ h rs absent. none_yet (AnswersBy h) (rs, c.args.pass.now) c.args.batch.room.items none;
      each = none;
      room = refl;
    }

pub loop-event-preserved : goal.loop-event-preserved
loop-event-preserved c =
    let l = c.loop-event in
    let p = c.args.pass.now in
    let x = c.refuse-answer.result in
    record {
      answered = λ h rs absent.
          subst (λ (xs : List (Result Noted PassRefusal)). OneByOne (AnswersBy h) (rs, p) (l.yielded ++ c.in-Some.event ∷ []) xs (rs, p)) (sym c.push_reserved.ensures.items)
          (one_more (AnswersBy h) (rs, p) (rs, p) (rs, p) l.yielded l.answers.items c.in-Some.event x (l.invariant.answered h rs absent) (c.refuse-answer.ensures h rs absent));
      each = omega (arith, ap length c.push_reserved.ensures.items, length_push l.answers.items x, length_push l.yielded c.in-Some.event, l.invariant.each);
      room = c.push_reserved.ensures.capacity ∙ l.invariant.room;
    }
