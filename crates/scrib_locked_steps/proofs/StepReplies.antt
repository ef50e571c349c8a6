-- The reply to a step of a shard, from the clauses of the step's result.
use Rattle.std.proofs.Common.{◌≡◌, ℕ, List, Result, Ok, Err, IfOk, IfErr, OnErr, refl}
use Rattle.std.specs.Prelude.{OnOk}
use Rattle.scrib_types.specs.declared.event.Event.{Event}
use Rattle.scrib_library.specs.Holdings.{Holdings}
use Rattle.scrib_core.specs.declared.conversation_steps.Judged.{Judged}
use Rattle.scrib_core.specs.declared.conversation_steps.Noted.{Noted}
use Rattle.scrib_core.specs.declared.conversation_steps.Closed.{Closed}
use Rattle.scrib_core.specs.declared.reply.Refusal.{Refusal}
use Rattle.scrib_core.specs.Held.{Records}
use Rattle.scrib_core.specs.ConversationSteps.{IsOpened, OpenFails, IsNotedAt, NoteFails, IsTurnedAt, IsAskedAt, VerdictFails, IsClosedAt, CloseFails}
use Rattle.scrib_core.specs.ReplyValues.{open_reply_of, note_reply_of, verdict_reply_of, close_reply_of}
use Rattle.scrib_locked_steps.specs.Locked.{AnswersOpen, AnswersNote, AnswersTurn, AnswersAsk, AnswersClose}

module _ (h : Holdings) (old new : Records) (id : ℕ) where
  pub open_answers : (limit : ℕ) (name : List (List ℕ)) (r : Result (List (List ℕ)) Refusal) → IfOk r (λ n. n ≡ name) → OnOk r (IsOpened limit h old id name new)
      → IfErr r (OpenFails limit h old id name) → OnErr r (new ≡ old) → AnswersOpen limit h old id name (open_reply_of id r) new
  open_answers limit name (Ok n) named opened fails same = (refl, named, opened)
  open_answers limit name (Err f) named opened fails same = (fails, same)

  pub note_answers : (e : Event) (r : Result Noted Refusal) → IfOk r (λ n. IsNotedAt h old id e n.place n.told new)
      → IfErr r (NoteFails old id) → OnErr r (new ≡ old) → AnswersNote h old id e (note_reply_of id r) new
  note_answers e (Ok n) noted fails same = (refl, noted)
  note_answers e (Err f) noted fails same = (fails, same)

  pub turn_answers : (r : Result Judged Refusal) → IfOk r (λ j. IsTurnedAt h old id j.name j.events j.told new)
      → IfErr r (VerdictFails old id) → OnErr r (new ≡ old) → AnswersTurn h old id (verdict_reply_of id r) new
  turn_answers (Ok j) turned fails same = (refl, turned)
  turn_answers (Err f) turned fails same = (fails, same)

  pub close_answers : (r : Result Closed Refusal) → IfOk r (λ c. IsClosedAt h old id c new)
      → IfErr r (CloseFails old id) → OnErr r (new ≡ old) → AnswersClose h old id (close_reply_of id r) new
  close_answers (Ok c) closed fails same = (refl, closed)
  close_answers (Err f) closed fails same = (fails, same)

module _ (h : Holdings) (rs : Records) (id : ℕ) where
  pub ask_answers : (r : Result Judged Refusal) → IfOk r (λ j. IsAskedAt h rs id j.name j.events j.told)
      → IfErr r (VerdictFails rs id) → AnswersAsk h rs id (verdict_reply_of id r)
  ask_answers (Ok j) asked fails = (refl, asked)
  ask_answers (Err f) asked fails = fails
