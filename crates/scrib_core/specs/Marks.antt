-- Which conversations are marked stale, and the turns made since (this project's own).
use Rattle.std.specs.Prelude.{◌≡◌, ◌≢◌, ◌⊎◌, ℕ, ◌+◌, ◌*◌, ◌<◌, length, Some, None}
use Rattle.scrib_library.specs.declared.changes.ChangeKind.{ChangeKind}
use Rattle.scrib_library.specs.Edits.{Changes}
use Rattle.scrib_core.specs.declared.step.Step.{Step}
use Rattle.scrib_core.specs.declared.step.Step.TheVariants.{Turn, Close}
use Rattle.scrib_core.specs.World.{World, Conversation, conversation}

-- fresh, or stale with the number of accepted turns since the meaning of the name last changed
pub data Mark : Type 0 where
  Fresh : Mark
  Stale : ℕ → Mark

-- a mark for each id
abbrev pub Marks : Type 0
Marks = ℕ → Mark

-- no conversation is marked
abbrev pub unmarked : Marks
unmarked id = Fresh

-- the mark is stale
abbrev pub IsStale : Mark → Type 0
IsStale Fresh = ⊥
IsStale (Stale t) = Unit {0}

-- The mark after an accepted turn on a log of so many events. A fresh verdict stays fresh. A stale one becomes fresh if
-- the log has at most 256 events for each turn so far.
abbrev pub IsMarkTurned : (events : ℕ) → (old new : Mark) → Type 0
IsMarkTurned events Fresh new = new ≡ Fresh
IsMarkTurned events (Stale t) Fresh = Unit {0}
IsMarkTurned events (Stale t) (Stale u) = (u ≡ t + 1) × (256 * u < events)

-- the mark after an accepted step that leaves the meaning of the name: a turn of this id counts, a close of it leaves
-- none, and any other step leaves the mark
abbrev pub IsLeft : Step → (id events : ℕ) → (old new : Mark) → Type 0
IsLeft (Turn i) id events old new = (i ≡ id → IsMarkTurned events old new) × (i ≢ id → new ≡ old)
IsLeft (Close i) id events old new = (i ≡ id → new ≡ Fresh) × (i ≢ id → new ≡ old)
IsLeft _ id events old new = new ≡ old

-- the mark after a step that changed the meaning of the name: stale with no turns yet, or fresh
abbrev pub IsReset : Mark → Type 0
IsReset Fresh = Unit {0}
IsReset (Stale t) = t ≡ 0

-- The effect of an accepted step on the marks. Only conversations have marks, and a new conversation is fresh. A later
-- mark follows the step, unless the step changed the meaning of the name.
pub record UpdatesMarks (w : World) (old : Marks) (step : Step) (v : World) (new : Marks) : Type 0 where
  pub unopened : (id : ℕ) → conversation w id ≡ None → new id ≡ Fresh
  pub opened : (id : ℕ) (c : Conversation) → conversation w id ≡ Some c
      → IsLeft step id (length c.log) (old id) (new id)
      ⊎ ((kind : ChangeKind) × Changes w.modules v.modules kind c.name × IsReset (new id))
