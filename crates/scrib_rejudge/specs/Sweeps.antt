-- The shards of a worker, and the turns of a conversation in a sweep (this project's own).
use Rattle.std.specs.Prelude.{◌≡◌, ◌⊎◌, ℕ, ◌*◌, ◌%◌, ◌≤◌, nat_eq, List, length, Result, IfOk}
use Rattle.std.specs.List.{filter, range_with_len}
use Rattle.std.specs.declared.alloc.AllocError.{AllocError}
use Rattle.scrib_types.specs.declared.event.Verdict.{Verdict}
use Rattle.scrib_types.specs.declared.event.Told.TheVariants.{Judged}
use Rattle.scrib_locked_steps.specs.declared.sweep.Swept.{Swept}
use Rattle.scrib_core.specs.declared.reply.Refusal.TheVariants.{NoConversation}
use Rattle.scrib_shards.specs.Called.{IsTurnedSome, TurnFailsSome, AreStaleSome}

-- the shards that equal the worker's number modulo the number of workers, rising
abbrev pub shards_of : ℕ → ℕ → ℕ → List ℕ
shards_of worker workers shards = filter (λ shard. nat_eq (shard % workers) worker) (range_with_len 0 shards)

-- the conversation isn't open in some records
abbrev pub IsGoneSome : ℕ → Type 0
IsGoneSome id = TurnFailsSome id NoConversation

-- One conversation had at most 4,096 turns, and all 4,096 if it is still stale. If it counts as renewed, a turn reported
-- its verdict, or it isn't there any more after some turns. It had none if it wasn't there from the first.
pub record IsConversationSwept (id : ℕ) (s : Swept) : Type 0 where
  pub few : s.turns ≤ 4096
  pub one : s.judged ≤ 1
  pub turned : s.judged ≤ s.turns
  pub enough : s.judged ≡ 0 → (s.turns ≡ 4096) ⊎ ((s.turns ≡ 0) × IsGoneSome id)
  pub reported : s.judged ≡ 1 → ((v : Verdict) × IsTurnedSome id (Judged v)) ⊎ IsGoneSome id

-- some stale conversations, with rising ids, had at most 4,096 turns each
pub record IsShardSwept (s : Swept) : Type 0 where
  pub ids : List ℕ
  pub touched : AreStaleSome ids
  pub turned : s.judged ≤ s.turns
  pub few : s.turns ≤ 4096 * length ids
  pub judged : s.judged ≤ length ids

-- at most as many verdicts were renewed as turns were made
abbrev pub IsSweepCounted : Result Swept AllocError → Type 0
IsSweepCounted r = IfOk r (λ s. s.judged ≤ s.turns)
