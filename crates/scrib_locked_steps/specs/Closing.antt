-- Closes by the passes of a conversation, and their refusals (this project's own).
use Rattle.std.specs.Prelude.{◌≡◌, ◌≢◌, ℕ, ◌<◌, List, length, Option, Some, None, IsSome, All, Contains}
use Rattle.std.specs.List.{sum_by}
use Rattle.scrib_types.specs.declared.event.Event.{Event}
use Rattle.scrib_library.specs.Holdings.{Holdings}
use Rattle.scrib_core.specs.declared.conversation_steps.Closed.{Closed}
use Rattle.scrib_core.specs.declared.reply.Refusal.TheVariants.{NoConversation, OutOfMemory}
use Rattle.scrib_core.specs.Held.{Records, record_at}
use Rattle.scrib_core.specs.ConversationSteps.{IsClosedAt}
use Rattle.scrib_locked_steps.specs.declared.close_calls.CloseRefusal.{CloseRefusal}
use Rattle.scrib_locked_steps.specs.declared.close_calls.CloseRefusal.TheVariants.{PassesMissing, Mismatch, Step}
use Rattle.scrib_locked_steps.specs.declared.pass.Receipt.{Receipt}
use Rattle.scrib_locked_steps.specs.Shards.{ShardHeld, log_at}
use Rattle.scrib_locked_steps.specs.Receipts.{AgreesWith}
use Rattle.scrib_locked_steps.specs.Passes.{PassHeld}
use Rattle.scrib_locked_steps.specs.Openings.{records_for, IsUnnumbered}

-- the number of receipts of the passes
abbrev pub receipts_in : List PassHeld → ℕ
receipts_in passes = sum_by (λ p. length p.receipts) passes

-- the log of the pass's conversation, empty where the pass isn't of the present opening
abbrev pub log_for : ShardHeld → PassHeld → List Event
log_for s p = log_at (records_for s p) p.conversation

-- the receipt agrees with the log of the pass's conversation
abbrev pub AgreesIn : ShardHeld → PassHeld → Receipt → Type 0
AgreesIn s p r = AgreesWith (log_for s p) r

-- each receipt of the pass agrees with the log of its conversation
abbrev pub AllAgree : ShardHeld → PassHeld → Type 0
AllAgree s p = All (AgreesIn s p) p.receipts

-- each receipt of the pass at a lesser place agrees with the log of its conversation
abbrev pub AllAgreeBelow : ℕ → ShardHeld → PassHeld → Type 0
AllAgreeBelow place s p = All (λ r. r.place < place → AgreesIn s p r) p.receipts

-- a receipt of the pass for the place differs from the log of its conversation
abbrev pub DiffersAt : ShardHeld → ℕ → PassHeld → Type 0
DiffersAt s place p = (r : Receipt) × Contains p.receipts r × (r.place ≡ place) × (AgreesIn s p r → ⊥)

-- the least place of a receipt of the passes that differs from the log of its conversation, or none if all agree
abbrev pub IsLeastMismatch : ShardHeld → List PassHeld → Option ℕ → Type 0
IsLeastMismatch s passes None = All (AllAgree s) passes
IsLeastMismatch s passes (Some place) =
    ((p : PassHeld) × Contains passes p × DiffersAt s place p) × All (AllAgreeBelow place s) passes

-- the conversation is open, and the passes have as many receipts as its log has events
abbrev pub AreCounted : Records → ℕ → List PassHeld → Type 0
AreCounted rs id passes = IsSome (record_at rs id) × (receipts_in passes ≡ length (log_at rs id))

-- the same, and each receipt agrees with the log of its conversation
abbrev pub AreReceipted : ShardHeld → ℕ → List PassHeld → Type 0
AreReceipted s id passes = AreCounted s.records id passes × All (AllAgree s) passes

-- The conversation is taken out, with the verdict on its whole log. The passes had as many receipts as the log had
-- events, and each agreed with it.
pub record IsClosedBy (h : Holdings) (old : ShardHeld) (id : ℕ) (passes : List PassHeld) (closed : Closed)
    (new : ShardHeld) : Type 0 where
  pub receipted : AreReceipted old id passes
  pub taken : IsClosedAt h old.records id closed new.records
  pub limit : new.capacity ≡ old.capacity
  pub opened : new.opened ≡ old.opened
  pub openings : IsUnnumbered old.openings id new.openings

-- the close is refused for this, and for nothing before it in this list
abbrev pub CloseByFails : ShardHeld → ℕ → List PassHeld → CloseRefusal → Type 0
CloseByFails s id passes (Step NoConversation) = record_at s.records id ≡ None
CloseByFails s id passes PassesMissing =
    IsSome (record_at s.records id) × (receipts_in passes ≢ length (log_at s.records id))
CloseByFails s id passes (Mismatch conversation place) =
    (conversation ≡ id) × AreCounted s.records id passes × IsLeastMismatch s passes (Some place)
CloseByFails s id passes (Step OutOfMemory) = AreReceipted s id passes
CloseByFails s id passes (Step _) = ⊥
