-- Explanations of conversations: their messages in flight, or a refusal (this project's own).
use Rattle.std.specs.Prelude.{◌≡◌, ℕ, ◌+◌, List, [], ◌∷◌, ◌++◌, Some, None, All, codes}
use Rattle.std.specs.Fmt.{decimal}
use Rattle.scrib_types.specs.Agreement.{Agreement}
use Rattle.scrib_library.specs.Modules.{Means, IsMeaning}
use Rattle.scrib_core.specs.World.{World, Conversation, conversation}
use Rattle.scrib_core.specs.Answers.{State, initial}
use Rattle.scrib_global.specs.declared.explain.Flight.{Flight}
use Rattle.scrib_global.specs.Offences.{Offends}
use Rattle.scrib_global.specs.Explained.{IsExplained}
use Rattle.scrib_report.specs.Lines.{flight_text}
use Rattle.scrib_cli.specs.declared.explanation.Explained.{Explained}
use Rattle.scrib_cli.specs.declared.explanation.Explained.TheVariants.{Flights, Refused}
use Rattle.scrib_script_reader.specs.declared.item.Item.{Item}
use Rattle.scrib_script_reader.specs.Scripts.{Spells, lines, requests_of}
use Rattle.scrib_cli.specs.Requests.{RequestReply, HasMemory, AnswersRequests}

-- a line for each message in flight
abbrev pub flight_lines : List Flight → List ℕ
flight_lines [] = []
flight_lines (f ∷ fs) = flight_text f ++ 10 ∷ flight_lines fs

-- the refusal line of a word
abbrev pub refusal_line : List ℕ → List ℕ
refusal_line word = codes "refused " ++ word ++ 10 ∷ []

-- The kind and the text of the explanation of a conversation in a world. A refusal: no such conversation, no such
-- protocol, or the place of the first offence, from 1. Else the log is a run, and the text lists its messages in
-- flight, by sender and then receiver in declared order, the oldest first.
pub data Explanation (w : World) (id : ℕ) : Explained → List ℕ → Type 0 where
  absent : conversation w id ≡ None → Explanation w id Refused (refusal_line (codes "NoConversation"))
  unknown : (c : Conversation) → conversation w id ≡ Some c → IsMeaning w.modules c.name None
      → Explanation w id Refused (refusal_line (codes "UnknownProtocol"))
  offends : (c : Conversation) (a : Agreement) (i : ℕ) → conversation w id ≡ Some c → Means w.modules c.name a
      → Offends a c.log i → Explanation w id Refused (refusal_line (codes "NotPermitted " ++ decimal (i + 1)))
  flies : (c : Conversation) (a : Agreement) (found : List Flight) → conversation w id ≡ Some c
      → Means w.modules c.name a → IsExplained a c.log found → Explanation w id Flights (flight_lines found)

-- An explanation of a conversation of a script, whose steps and sweeps are made over a new monitor and are not refused
-- memory. The conversation is explained in the world after them.
abbrev pub IsExplanation : List ℕ → ℕ → Explained → List ℕ → Type 0
IsExplanation input id e output =
    (items : List Item) × (replies : List RequestReply) × (s : State)
    × Spells 1 None (lines input) items × AnswersRequests initial (requests_of items) replies s
    × All HasMemory replies × Explanation s.world id e output
