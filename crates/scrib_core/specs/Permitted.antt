-- Whether the verdict on a conversation is `Permitted`, without the rest of the reply (this project's own).
use Rattle.std.specs.Prelude.{◌≡◌, ℕ, Bool, true, false, Result, Ok, Err, IfOk, IfErr}
use Rattle.scrib_types.specs.declared.event.Told.{Told}
use Rattle.scrib_types.specs.declared.event.Told.TheVariants.{Stale, Judged}
use Rattle.scrib_types.specs.declared.event.Verdict.TheVariants.{Permitted, Offence, Withdrawn}
use Rattle.scrib_library.specs.Holdings.{Holdings}
use Rattle.scrib_core.specs.declared.conversation_steps.Judged as outcome
use Rattle.scrib_core.specs.declared.step.Step.TheVariants.{Ask}
use Rattle.scrib_core.specs.declared.reply.Refusal.{Refusal}
use Rattle.scrib_core.specs.Answers.{State, IsAnswered}
use Rattle.scrib_core.specs.ConversationSteps.{IsAskedAt, VerdictFails}
use Rattle.scrib_core.specs.Held.{Records}
use Rattle.scrib_core.specs.ReplyValues.{verdict_reply_of}

-- whether the verdict is `Permitted`, and not stale
abbrev pub is_permitted_verdict : Told → Bool
is_permitted_verdict Stale = false
is_permitted_verdict (Judged Permitted) = true
is_permitted_verdict (Judged (Offence place role allowed)) = false
is_permitted_verdict (Judged Withdrawn) = false

-- whether a question has this outcome and the verdict is `Permitted`
abbrev pub is_permitted_outcome : Result outcome.Judged Refusal → Bool
is_permitted_outcome (Ok j) = is_permitted_verdict j.told
is_permitted_outcome (Err f) = false

-- an outcome of a question about the records, whose verdict is `Permitted` exactly if the test holds
pub record IsOutcomeTest (h : Holdings) (rs : Records) (id : ℕ) (test : Bool) : Type 0 where
  pub outcome : Result outcome.Judged Refusal
  pub ok : IfOk outcome (λ j. IsAskedAt h rs id j.name j.events j.told)
  pub fault : IfErr outcome (VerdictFails rs id)
  pub is : test ≡ is_permitted_outcome outcome

-- an outcome of the question whose reply is that of the state; its verdict is `Permitted` exactly if the test holds
pub record IsReplyTest (s : State) (id : ℕ) (test : Bool) : Type 0 where
  pub outcome : Result outcome.Judged Refusal
  pub answered : IsAnswered s (Ask id) (verdict_reply_of id outcome) s
  pub is : test ≡ is_permitted_outcome outcome
