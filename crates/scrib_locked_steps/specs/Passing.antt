-- Notes and questions by a pass in a shard, and their refusals (this project's own).
use Rattle.std.specs.Prelude.{◌≡◌, ℕ, Some, All, Result, Ok, Err}
use Rattle.scrib_types.specs.declared.event.Event.{Event}
use Rattle.scrib_types.specs.declared.event.Told.{Told}
use Rattle.scrib_library.specs.Holdings.{Holdings}
use Rattle.scrib_core.specs.Held.{Records}
use Rattle.scrib_core.specs.ConversationSteps.{IsNotedAt, NoteFails, VerdictFails}
use Rattle.scrib_core.specs.declared.conversation_steps.Noted.{Noted}
use Rattle.scrib_locked_steps.specs.declared.pass_calls.PassRefusal.{PassRefusal}
use Rattle.scrib_locked_steps.specs.declared.pass_calls.PassRefusal.TheVariants.{Mismatch, Step}
use Rattle.scrib_locked_steps.specs.Shards.{ShardHeld, log_at}
use Rattle.scrib_locked_steps.specs.Locked.{IsAskedFor}
use Rattle.scrib_locked_steps.specs.Receipts.{AgreesWith, IsFirstMismatch}
use Rattle.scrib_locked_steps.specs.Passes.{PassHeld, IsReceipted, newest_of}

-- the newest receipt of the pass agrees with the log
abbrev pub NewestAgrees : Records → PassHeld → Type 0
NewestAgrees rs p = All (AgreesWith (log_at rs p.conversation)) (newest_of p.receipts)

-- the newest receipt agreed with the log, and the event was appended to it
pub record IsNotedBy (h : Holdings) (old : ShardHeld) (p : PassHeld) (e : Event) (n : Noted)
    (new : ShardHeld) : Type 0 where
  pub stood : All (AgreesWith (log_at old.records p.conversation)) (newest_of p.receipts)
  pub noted : IsNotedAt h old.records p.conversation e n.place n.told new.records
  pub limit : new.capacity ≡ old.capacity

-- the note is refused: the newest receipt differs from the log, or else the step is refused
abbrev pub PassNoteFails : Records → PassHeld → PassRefusal → Type 0
PassNoteFails rs p (Mismatch id place) =
    (id ≡ p.conversation) × IsFirstMismatch (log_at rs p.conversation) (newest_of p.receipts) (Some place)
PassNoteFails rs p (Step f) =
    All (AgreesWith (log_at rs p.conversation)) (newest_of p.receipts) × NoteFails rs p.conversation f

-- each receipt agreed with the log, and this is the verdict on the pass's conversation
pub record IsAskedBy (h : Holdings) (rs : Records) (p : PassHeld) (answer : Told) : Type 0 where
  pub stood : All (AgreesWith (log_at rs p.conversation)) p.receipts
  pub asked : IsAskedFor h rs p.conversation answer

-- the question is refused: a receipt differs from the log, first at this place, or else the step is refused
abbrev pub PassAskFails : Records → PassHeld → PassRefusal → Type 0
PassAskFails rs p (Mismatch id place) =
    (id ≡ p.conversation) × IsFirstMismatch (log_at rs p.conversation) p.receipts (Some place)
PassAskFails rs p (Step f) = All (AgreesWith (log_at rs p.conversation)) p.receipts × VerdictFails rs p.conversation f

-- the reply to a note by the pass, and the records and the pass after it
abbrev pub AnswersBy : Holdings → Records × PassHeld → Event → Result Noted PassRefusal → Records × PassHeld → Type 0
AnswersBy h s e (Ok n) t =
    NewestAgrees s.0 s.1 × IsNotedAt h s.0 s.1.conversation e n.place n.told t.0 × IsReceipted s.1 e n t.1
AnswersBy h s e (Err f) t = PassNoteFails s.0 s.1 f × (t ≡ s)

-- the number of entries that a note by a pass adds to a log
abbrev pub added_notes : Result Noted PassRefusal → ℕ
added_notes (Ok n) = 1
added_notes (Err f) = 0
