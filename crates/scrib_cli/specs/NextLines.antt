-- The output of `next`: what each role of a conversation may do next, or a refusal (this project's own).
use Rattle.std.specs.Prelude.{◌≡◌, ◌↔◌, ℕ, Bool, true, false, ◌&&◌, not, IsTrue, List, [], ◌∷◌, ◌++◌, Some, None, All, codes}
use Rattle.scrib_types.specs.Agreement.{Agreement}
use Rattle.scrib_types.specs.Texts.{allowed_text}
use Rattle.scrib_library.specs.Modules.{Means}
use Rattle.scrib_core.specs.World.{World, Conversation, conversation}
use Rattle.scrib_core.specs.Answers.{State, initial}
use Rattle.scrib_global.specs.declared.next.RoleNext.{RoleNext}
use Rattle.scrib_global.specs.declared.next.RoleNext.TheVariants.{MayJoin, Done, May, WaitsFor}
use Rattle.scrib_global.specs.declared.next.RoleStatus.{RoleStatus}
use Rattle.scrib_types.specs.Complete.{IsComplete}
use Rattle.scrib_global.specs.NextEvents.{AreNext}
use Rattle.scrib_cli.specs.declared.explanation.Explained.TheVariants.{Refused}
use Rattle.scrib_cli.specs.Explanations.{Explanation}
use Rattle.scrib_script_reader.specs.declared.item.Item.{Item}
use Rattle.scrib_script_reader.specs.Scripts.{Spells, lines, requests_of}
use Rattle.scrib_cli.specs.Requests.{RequestReply, HasMemory, AnswersRequests}

-- What a role may do next: `may join`, and `may join, done` of a role that never acts; `done`; `may B!hello(), B!x()`;
-- `waits for A?ok(), A?quit()`. Actions are spelled as those that a verdict allows.
abbrev pub next_text : RoleNext → List ℕ
next_text (MayJoin true) = codes "may join"
next_text (MayJoin false) = codes "may join, done"
next_text Done = codes "done"
next_text (May acts) = codes "may " ++ allowed_text acts
next_text (WaitsFor acts) = codes "waits for " ++ allowed_text acts

-- the line of a role, as `A: may B!hello()`
abbrev pub next_line : RoleStatus → List ℕ
next_line s = s.role ++ codes ": " ++ next_text s.next ++ 10 ∷ []

-- the line of each role, in order
abbrev pub next_lines : List RoleStatus → List ℕ
next_lines [] = []
next_lines (s ∷ ss) = next_line s ++ next_lines ss

-- the last line, which a complete log alone has
abbrev pub complete_line : Bool → List ℕ
complete_line true = codes "complete\n"
complete_line false = []

-- Whether the roles of a conversation in a world are listed, and the text. A refusal is that of an explanation. Else
-- the log is permitted, and each declared role has its line, in declared order. The line `complete` follows exactly
-- where the log is complete.
pub data NextSteps (w : World) (id : ℕ) : Bool → List ℕ → Type 0 where
  refuses : (text : List ℕ) → Explanation w id Refused text → NextSteps w id false text
  lists : (c : Conversation) (a : Agreement) (found : List RoleStatus) (complete : Bool)
      → conversation w id ≡ Some c → Means w.modules c.name a → AreNext a c.log found
      → (IsTrue complete ↔ IsComplete a c.log)
      → NextSteps w id true (next_lines found ++ complete_line complete)

-- An output of `next` for a conversation of a script, whose steps and sweeps are made over a new monitor and are
-- not refused memory. The roles are those of the conversation in the world after them.
abbrev pub IsNextOutput : List ℕ → ℕ → Bool → List ℕ → Type 0
IsNextOutput input id listed output =
    (items : List Item) × (replies : List RequestReply) × (s : State)
    × Spells 1 None (lines input) items × AnswersRequests initial (requests_of items) replies s
    × All HasMemory replies × NextSteps s.world id listed output

-- The rest of this file is cited by contracts of private functions alone.

-- the role is done, or has not joined and never acts
abbrev pub is_at_rest : RoleNext → Bool
is_at_rest (MayJoin acts) = not acts
is_at_rest Done = true
is_at_rest (May acts) = false
is_at_rest (WaitsFor acts) = false

-- each of these roles is at rest
abbrev pub are_at_rest : List RoleStatus → Bool
are_at_rest [] = true
are_at_rest (s ∷ ss) = is_at_rest s.next && are_at_rest ss
