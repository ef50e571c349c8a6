-- Items that are carried out over a monitor, and the replies to them (this project's own).
use Rattle.std.specs.Prelude.{◌≡◌, ℕ, List, [], ◌∷◌, ◌++◌}
use Rattle.scrib_core.specs.declared.format.Format.{Format}
use Rattle.scrib_core.specs.Answers.{State}
use Rattle.scrib_core.specs.Held.{state_of}
use Rattle.scrib_script_reader.specs.declared.item.Item.{Item}
use Rattle.scrib_script_reader.specs.Scripts.{requests_of}
use Rattle.scrib_cli.specs.Requests.{RequestReply, AnswersRequests}
use Rattle.scrib_cli.specs.Scripts.{written}
use Rattle.scrib_hold.specs.declared.replies.Replies.{Replies}

-- the items were carried out, from one state of a monitor to another, and the replies were put behind what was there
abbrev pub AreCarriedOut : Format → List Item → (w v : State) → (was now : List ℕ) → Type 0
AreCarriedOut o items w v was now =
    (replies : List RequestReply) × AnswersRequests w (requests_of items) replies v
    × (now ≡ was ++ written o items replies)

-- the item was carried out, whatever its number, and this is the reply to it
abbrev pub IsReplied : (old new : Replies) → ℕ → Item → (output : List ℕ) → Type 0
IsReplied old new n i output =
    (new.format ≡ old.format)
    × AreCarriedOut old.format (i ∷ []) (state_of old.core) (state_of new.core) [] output
