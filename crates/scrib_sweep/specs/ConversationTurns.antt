-- The turns of one conversation in a sweep (this project's own). Contracts of private calls alone cite this file.
use Rattle.std.specs.Prelude.{◌≡◌, ◌≢◌, ℕ, ◌*◌, ◌<◌, ◌≤◌, length, Option, Some, None}
use Rattle.scrib_types.specs.declared.event.Told.{Told}
use Rattle.scrib_core.specs.declared.step.Step.TheVariants.{Turn}
use Rattle.scrib_core.specs.declared.reply.Reply.{Reply}
use Rattle.scrib_core.specs.World.{Conversation, conversation}
use Rattle.scrib_core.specs.Marks.{Fresh, IsStale}
use Rattle.scrib_core.specs.Answers.{State, IsAccepted, IsReportedIn}
use Rattle.scrib_sweep.specs.declared.conversation_turns.End.{End}
use Rattle.scrib_sweep.specs.declared.conversation_turns.End.TheVariants.{Judged, Limited, Refused}
use Rattle.scrib_sweep.specs.declared.conversation_turns.ConversationTurns.{ConversationTurns}
use Rattle.scrib_sweep.specs.Sweeps.{IsSweep}

-- an accepted turn of the conversation with this verdict, or none, which changes nothing
abbrev pub IsTurnOf : State → (id : ℕ) → Option Told → State → Type 0
IsTurnOf s id None t = t ≡ s
IsTurnOf s id (Some told) t = (r : Reply) × IsAccepted s (Turn id) r t × IsReportedIn t id told

-- a sweep of so many turns that leaves the mark of each other conversation
pub record AreTurnsOf (s : State) (id turns : ℕ) (t : State) : Type 0 where
  pub sweep : IsSweep s turns t
  pub others : (j : ℕ) → j ≢ id → t.marks j ≡ s.marks j

-- so many turns, if there are any, do not cover the log of the conversation
abbrev pub AreTooFew : State → (id turns : ℕ) → Type 0
AreTooFew s id turns =
    0 < turns → (c : Conversation) → conversation s.world id ≡ Some c → 256 * turns < length c.log

-- The conversation is not stale any more, or is still stale: after as many turns as the limit, which do not cover its
-- log, or where a turn was refused memory.
abbrev pub EndsBy : End → State → (id limit turns : ℕ) → Type 0
EndsBy Judged t id limit turns = t.marks id ≡ Fresh
EndsBy Limited t id limit turns = IsStale (t.marks id) × (turns ≡ limit) × AreTooFew t id limit
EndsBy Refused t id limit turns = IsStale (t.marks id)

-- at most so many turns of the conversation, and how they ended
pub record IsConversationSwept (s : State) (id limit : ℕ) (c : ConversationTurns) (t : State) : Type 0 where
  pub made : AreTurnsOf s id c.turns t
  pub few : c.turns ≤ limit
  pub ends : EndsBy c.end t id limit c.turns

-- so many turns, one or more, cover the log of the conversation
pub record AreEnough (s : State) (id turns : ℕ) : Type 0 where
  pub some : 0 < turns
  pub covers : (c : Conversation) → conversation s.world id ≡ Some c → length c.log ≤ 256 * turns
