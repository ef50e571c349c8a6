-- Sequences of steps, and the number of turns until a conversation is fresh (this project's own).
use Rattle.std.specs.Prelude.{◌≡◌, ◌==◌, if◌then◌else◌, ℕ, ◌+◌, ◌*◌, ◌≤◌, length, Some}
use Rattle.scrib_library.specs.declared.changes.ChangeKind.{ChangeKind}
use Rattle.scrib_library.specs.Edits.{Changes}
use Rattle.scrib_core.specs.declared.step.Step.{Step}
use Rattle.scrib_core.specs.declared.step.Step.TheVariants.{Turn}
use Rattle.scrib_core.specs.declared.reply.Reply.{Reply}
use Rattle.scrib_core.specs.World.{Conversation, conversation}
use Rattle.scrib_core.specs.Marks.{Fresh}
use Rattle.scrib_core.specs.Answers.{State, IsAccepted}

-- 1 for a turn of the conversation of this id, else 0
abbrev pub turns : Step → ℕ → ℕ
turns (Turn i) id = if i == id then 1 else 0
turns _ id = 0

-- the step is accepted while the conversation is open, and the meaning of its name is unchanged
pub record IsAcceptedBeside (id : ℕ) (s : State) (step : Step) (t : State) : Type 0 where
  pub answer : Reply
  pub accepted : IsAccepted s step answer t
  pub of : Conversation
  pub there : conversation s.world id ≡ Some of
  pub unchanged : (kind : ChangeKind) → Changes s.world.modules t.world.modules kind of.name → ⊥

-- A sequence of accepted steps, with so many turns of the conversation, none of which changes the meaning of its name.
-- A refused step leaves the state, so it may occur anywhere between them.
pub data Stretch : (id : ℕ) → State → ℕ → State → Type 0 where
  none : {id : ℕ} {s : State} → Stretch id s 0 s
  more : {id n : ℕ} {s t u : State} {step : Step} → Stretch id s n t → IsAcceptedBeside id t step u
      → Stretch id s (n + turns step id) u

-- Stays fresh: an unmarked conversation is unmarked after the sequence. So it becomes stale only when the meaning of
-- its name changes.
abbrev pub StaysFresh : Type 0
StaysFresh = (id n : ℕ) (s t : State) → Stretch id s n t → s.marks id ≡ Fresh → t.marks id ≡ Fresh

-- Enough turns: 256 events for each turn cover the log as it is when the last turn begins. Then the conversation is
-- fresh, until the meaning of its name changes.
abbrev pub TurnsSuffice : Type 0
TurnsSuffice =
    (id n m : ℕ) (s t u v : State) → Stretch id s n t → (b : IsAcceptedBeside id t (Turn id) u)
    → length b.of.log ≤ 256 * (n + 1)
    → Stretch id u m v → v.marks id ≡ Fresh
