-- The reply of a service to a step of a connection (this project's own).
use Rattle.std.specs.Prelude.{◌≡◌, ℕ, Bool, true, false, List, Result, IfOk, IfErr, OnOk}
use Rattle.scrib_types.specs.declared.event.Told.{Told}
use Rattle.scrib_library.specs.declared.changes.Changes.{Changes}
use Rattle.scrib_library.specs.declared.fault.EditFault.{EditFault}
use Rattle.scrib_core.specs.declared.reply.Edit.TheVariants as edit
use Rattle.scrib_core.specs.declared.reply.Refusal.{Refusal}
use Rattle.scrib_core.specs.declared.step.Step.{Step}
use Rattle.scrib_core.specs.declared.step.Step.TheVariants as step
use Rattle.scrib_locked_steps.specs.declared.pass_calls.PassRefusal.{PassRefusal}
use Rattle.scrib_core.specs.declared.conversation_steps.Noted.{Noted}
use Rattle.scrib_locked_steps.specs.Passes.{PassHeld}
use Rattle.scrib_shards.specs.Called.{IsPutSome, PutFailsSome, IsWithdrawnSome, WithdrawFailsSome, IsProfiledSome, ProfileFailsSome, IsOpenedSome, OpenFailsSome, IsNotedSome, IsTurnedSome, TurnFailsSome, IsAskedSome}
use Rattle.scrib_client.specs.declared.service_reply.ServiceReply.{ServiceReply}
use Rattle.scrib_client.specs.ServiceReplies.{edit_reply, profile_reply, open_reply, noted_reply, turn_reply, ask_reply}
use Rattle.scrib_client.specs.ConnectionPasses.{pass_for, IsNoteRefused, IsAskRefused}

-- whether the step closes a conversation
abbrev pub is_close : Step → Bool
is_close (step.Put text) = false
is_close (step.Withdraw name) = false
is_close (step.Profile p) = false
is_close (step.Open id name) = false
is_close (step.Note id e) = false
is_close (step.Turn id) = false
is_close (step.Ask id) = false
is_close (step.Close id) = true

-- The reply is that of the service to the step, over some library and shard. A note and a question are made by the pass
-- of their conversation. A connection makes no close.
abbrev pub IsMadeSome : List (ℕ × PassHeld) → Step → ServiceReply → Type 0
IsMadeSome kept (step.Put text) a =
    (r : Result Changes EditFault) × (a ≡ edit_reply edit.Put r)
    × IfOk r (IsPutSome text) × IfErr r (PutFailsSome text)
IsMadeSome kept (step.Withdraw name) a =
    (r : Result Changes EditFault) × (a ≡ edit_reply edit.Withdraw r)
    × IfOk r (IsWithdrawnSome name) × IfErr r (WithdrawFailsSome name)
IsMadeSome kept (step.Profile p) a =
    (r : Result (Unit {0}) EditFault) × (a ≡ profile_reply p r)
    × OnOk r (IsProfiledSome p) × IfErr r (ProfileFailsSome p)
IsMadeSome kept (step.Open id name) a =
    (r : Result (Unit {0}) Refusal) × (a ≡ open_reply id name r)
    × OnOk r (IsOpenedSome id name) × IfErr r (OpenFailsSome id name)
IsMadeSome kept (step.Note id e) a =
    (opening : ℕ) × (r : Result Noted PassRefusal) × (a ≡ noted_reply id r)
    × IfOk r (IsNotedSome (pass_for opening kept id) e) × IfErr r (IsNoteRefused id (pass_for opening kept id))
IsMadeSome kept (step.Turn id) a =
    (r : Result Told Refusal) × (a ≡ turn_reply id r)
    × IfOk r (IsTurnedSome id) × IfErr r (TurnFailsSome id)
IsMadeSome kept (step.Ask id) a =
    (opening : ℕ) × (r : Result Told PassRefusal) × (a ≡ ask_reply id r)
    × IfOk r (IsAskedSome (pass_for opening kept id)) × IfErr r (IsAskRefused id (pass_for opening kept id))
IsMadeSome kept (step.Close id) a = ⊥
