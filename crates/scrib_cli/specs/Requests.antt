-- The replies to what the items of a script ask for (this project's own).
use Rattle.std.specs.Prelude.{◌≡◌, ◌≢◌, ℕ, List, [], ◌∷◌, Option, Some, None, IsSome}
use Rattle.scrib_core.specs.declared.format.Format.{Format}
use Rattle.scrib_core.specs.declared.reply.Reply.{Reply}
use Rattle.scrib_core.specs.declared.reply.Reply.TheVariants.{Refused}
use Rattle.scrib_core.specs.declared.reply.Refusal.TheVariants.{OutOfMemory}
use Rattle.scrib_core.specs.Answers.{State, IsAnswered}
use Rattle.scrib_report.specs.ReplyTexts.{reply_text, swept_text}
use Rattle.scrib_script_reader.specs.Scripts.{Request, ToMake, ToSweep}
use Rattle.scrib_sweep.specs.Sweeps.{IsSwept}

-- the reply to a step, or to a sweep: how many conversations it judged, or none where a turn was refused memory
pub data RequestReply : Type 0 where
  OfStep : Reply → RequestReply
  OfSweep : Option ℕ → RequestReply

-- what is written for it in this format
abbrev pub request_reply_text : Format → RequestReply → List ℕ
request_reply_text f (OfStep r) = reply_text f r
request_reply_text f (OfSweep judged) = swept_text f judged

-- the request was not refused memory
abbrev pub HasMemory : RequestReply → Type 0
HasMemory (OfStep r) = r ≢ Refused OutOfMemory
HasMemory (OfSweep judged) = IsSome judged

-- The reply to one request. A sweep is the turns that it makes.
abbrev pub IsRequestAnswered : State → Request → RequestReply → State → Type 0
IsRequestAnswered s (ToMake step) (OfStep r) t = IsAnswered s step r t
IsRequestAnswered s ToSweep (OfSweep judged) t = IsSwept s judged t
IsRequestAnswered s _ _ t = ⊥

-- Answered: a state follows each request such that each reply is that of its request.
abbrev pub AnswersRequests : State → List Request → List RequestReply → State → Type 0
AnswersRequests s [] [] t = t ≡ s
AnswersRequests s (request ∷ requests) (r ∷ rs) t =
    (u : State) × IsRequestAnswered s request r u × AnswersRequests u requests rs t
AnswersRequests s _ _ t = ⊥
