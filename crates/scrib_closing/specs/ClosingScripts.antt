-- Scripts whose conversations are closed once they are complete (this project's own).
use Rattle.std.specs.Prelude.{◌≡◌, ℕ, Bool, true, false, List, [], ◌∷◌, ◌++◌, Option, Some, None}
use Rattle.scrib_types.specs.declared.event.Event.{Event}
use Rattle.scrib_types.specs.declared.event.Event.TheVariants.{Join, Sent, Received}
use Rattle.scrib_core.specs.declared.format.Format.{Format}
use Rattle.scrib_core.specs.declared.step.Step.{Step}
use Rattle.scrib_core.specs.declared.step.Step.TheVariants.{Note, Turn, Close}
use Rattle.scrib_core.specs.declared.reply.Reply.{Reply}
use Rattle.scrib_core.specs.declared.reply.Reply.TheVariants.{Refused}
use Rattle.scrib_core.specs.Answers.{State, initial, IsCompleteIn, IsAnswered}
use Rattle.scrib_script_reader.specs.declared.item.Item.{Item}
use Rattle.scrib_script_reader.specs.declared.item.Item.TheVariants as item
use Rattle.scrib_script_reader.specs.Scripts.{Spells, lines, requests_of}
use Rattle.scrib_sweep.specs.Sweeps.{IsSwept}
use Rattle.scrib_cli.specs.Requests.{RequestReply, OfStep, OfSweep}
use Rattle.scrib_cli.specs.Scripts.{written}

-- whether the event is a send
abbrev pub is_send : Event → Bool
is_send (Join r) = false
is_send (Sent p q m) = true
is_send (Received p q m) = false

-- the conversation in which the step notes an event, or makes a turn
abbrev pub judged_by : Step → Option ℕ
judged_by (Note id e) = Some id
judged_by (Turn id) = Some id
judged_by _ = None

-- whether the reply accepts its step
abbrev pub is_accepted : Reply → Bool
is_accepted (Refused f) = false
is_accepted _ = true

-- the step noted an event of this conversation or made a turn in it, and the conversation is complete in the state
-- after the step
abbrev pub Completes : Step → Reply → State → ℕ → Type 0
Completes step r after id = (judged_by step ≡ Some id) × (is_accepted r ≡ true) × IsCompleteIn after id

-- The items of a script, and those that are carried out for them one after another from a state, with the replies to
-- their steps and sweeps and the state after them. Behind each step that completes its conversation comes a close of
-- it, and at no other place. The reply to the close is in the format that the line of the step asks for.
pub data ClosesComplete : State → (script carried : List Item) → List RequestReply → State → Type 0 where
  at_end : (w : State) → ClosesComplete w [] [] [] w
  no_step : (w v : State) (i : Item) (script carried : List Item) (replies : List RequestReply)
      → requests_of (i ∷ []) ≡ []
      → ClosesComplete w script carried replies v → ClosesComplete w (i ∷ script) (i ∷ carried) replies v
  goes_on : (w u v : State) (f : Format) (s : Step) (r : Reply) (script carried : List Item)
      (replies : List RequestReply) → IsAnswered w s r u → ((id : ℕ) → Completes s r u id → ⊥)
      → ClosesComplete u script carried replies v
      → ClosesComplete w (item.Step f s ∷ script) (item.Step f s ∷ carried) (OfStep r ∷ replies) v
  sweeps : (w u v : State) (f : Format) (judged : Option ℕ) (script carried : List Item)
      (replies : List RequestReply) → IsSwept w judged u → ClosesComplete u script carried replies v
      → ClosesComplete w (item.Sweep f ∷ script) (item.Sweep f ∷ carried) (OfSweep judged ∷ replies) v
  closes : (w u t v : State) (f : Format) (s : Step) (r c : Reply) (id : ℕ) (script carried : List Item)
      (replies : List RequestReply) → IsAnswered w s r u → Completes s r u id → IsAnswered u (Close id) c t
      → ClosesComplete t script carried replies v
      → ClosesComplete w (item.Step f s ∷ script) (item.Step f s ∷ item.Step f (Close id) ∷ carried)
      (OfStep r ∷ OfStep c ∷ replies) v

-- An output of a script in a format, with its complete conversations closed: that of the items that are carried out over
-- a new monitor.
abbrev pub IsClosingOutput : Format → List ℕ → List ℕ → Type 0
IsClosingOutput o input output =
    (script : List Item) × (carried : List Item) × (replies : List RequestReply) × (after : State)
    × Spells 1 None (lines input) script × ClosesComplete initial script carried replies after
    × (output ≡ written o carried replies)

-- a prefix of an output of the script
abbrev pub IsClosingPart : Format → List ℕ → List ℕ → Type 0
IsClosingPart o input part =
    (output : List ℕ) × (rest : List ℕ) × IsClosingOutput o input output × (output ≡ part ++ rest)
