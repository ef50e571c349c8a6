-- Stale conversations, and the turns that a sweep makes of them (this project's own).
use Rattle.std.specs.Prelude.{◌≡◌, ◌↔◌, ◌⊎◌, ℕ, true, ◌<◌, ◌≤◌, List, [], ◌∷◌, map, length, Contains, Option, Some, None}
use Rattle.std.specs.List.Sorted.{IsStrictlyIncreasing}
use Rattle.scrib_core.specs.declared.step.Step.{Step}
use Rattle.scrib_core.specs.declared.step.Step.TheVariants.{Turn}
use Rattle.scrib_core.specs.declared.reply.Reply.{Reply}
use Rattle.scrib_core.specs.Marks.{Fresh, IsStale}
use Rattle.scrib_core.specs.Answers.{State, IsAccepted, Answers}
use Rattle.scrib_sweep.specs.declared.sweep.Progress.{Progress}

-- the ids of exactly the stale conversations, rising
pub record AreStale (s : State) (ids : List ℕ) : Type 0 where
  pub rise : IsStrictlyIncreasing ids
  pub exact : (id : ℕ) → Contains ids id ↔ IsStale (s.marks id)

-- rising ids, among them those of the stale conversations
pub record Covers (s : State) (ids : List ℕ) : Type 0 where
  pub rise : IsStrictlyIncreasing ids
  pub each : (id : ℕ) → IsStale (s.marks id) → Contains ids id

-- no conversation is stale
abbrev pub IsAllFresh : State → Type 0
IsAllFresh s = (id : ℕ) → s.marks id ≡ Fresh

-- the stale conversation of the least id
pub record IsFirstStale (s : State) (id : ℕ) : Type 0 where
  pub stale : IsStale (s.marks id)
  pub least : (other : ℕ) → IsStale (s.marks other) → id ≤ other

-- Accepted turns of these conversations, with their replies. Each is the first stale one before its turn. So the turns
-- go by rising ids, and a conversation has turns until it is not stale.
abbrev pub AreSweepTurns : State → List ℕ → List Reply → State → Type 0
AreSweepTurns s [] [] t = t ≡ s
AreSweepTurns s (id ∷ ids) (r ∷ rs) t =
    (u : State) × IsFirstStale s id × IsAccepted s (Turn id) r u × AreSweepTurns u ids rs t
AreSweepTurns s _ _ t = ⊥

-- a turn of each of these conversations
abbrev pub turns_of : List ℕ → List Step
turns_of ids = map (λ id. Turn id) ids

-- A sweep of so many turns, whole or not. It is answered as these steps are, and leaves the world.
pub record IsSweep (s : State) (turns : ℕ) (t : State) : Type 0 where
  pub ids : List ℕ
  pub replies : List Reply
  pub made : AreSweepTurns s ids replies t
  pub count : length ids ≡ turns
  pub answered : Answers s (turns_of ids) replies t
  pub world : t.world ≡ s.world

-- how many conversations are stale
abbrev pub IsStaleCount : State → ℕ → Type 0
IsStaleCount s n = (ids : List ℕ) × AreStale s ids × (n ≡ length ids)

-- A sweep, with the number of conversations that were stale where nothing is stale after it. It has none where it ended
-- before, since memory was refused.
abbrev pub IsSwept : State → Option ℕ → State → Type 0
IsSwept s (Some n) t = ((turns : ℕ) × IsSweep s turns t) × IsAllFresh t × IsStaleCount s n
IsSwept s None t = (turns : ℕ) × IsSweep s turns t

-- the ids of exactly the conversations that are stale in the first state and not in the second, rising
pub record AreRenewed (s t : State) (ids : List ℕ) : Type 0 where
  pub rise : IsStrictlyIncreasing ids
  pub exact : (id : ℕ) → Contains ids id ↔ (IsStale (s.marks id) × (t.marks id ≡ Fresh))

-- how many conversations are stale in the first state and not in the second
abbrev pub IsRenewedCount : State → State → ℕ → Type 0
IsRenewedCount s t n = (ids : List ℕ) × AreRenewed s t ids × (n ≡ length ids)

-- A sweep of at most 64 turns of the listed conversations. What is left of the list has each that is still stale. Some
-- are left only after 64 turns, or where memory was refused.
pub record IsSweptSome (s : State) (listed : List ℕ) (p : Progress) (t : State) : Type 0 where
  pub turns : ℕ
  pub sweep : IsSweep s turns t
  pub few : turns ≤ 64
  pub judged : IsRenewedCount s t p.judged
  pub left : Covers t p.left.now
  pub enough : 0 < length p.left.now → (p.refused ≡ true) ⊎ (turns ≡ 64)
