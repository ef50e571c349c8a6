use Rattle.std.proofs.Common.{◌≡◌, ◌<◌, ◌-◌, Some}
use Rattle.std.specs.Option.{option_copied}
use Rattle.scrib_record.specs.Stale.{Recorded}
use Rattle.scrib_core.specs.ConversationSteps.{IsPresent}
use Rattle.scrib_core.specs.Held.{record_at}
use Rattle.scrib_locked_steps.specs.Sweeping.{IsServedAt}
use Rattle.scrib_locked_steps.proofs.SweepLemmas.{IsSwept}
use Rattle.scrib_locked_steps.proofs.sweep.sweep_conversation.Given as goal

abbrev pub invariant-loop-verdict : goal.invariant-loop-verdict
invariant-loop-verdict l = record {
  swept : IsSwept l.library l.id l.turns l.initial.shard.records l.shard.records;
  here : (r : Recorded) → record_at l.shard.records l.id ≡ Some r → IsPresent l.library r.name (option_copied l.present);
  served : IsServedAt l.comparison (option_copied l.present) l.shard.records l.id;
  fewer : l.turns < 4096;
  limit : l.shard.capacity ≡ l.initial.shard.capacity;
}

abbrev pub decreases-loop-verdict : goal.decreases-loop-verdict
decreases-loop-verdict l = 4096 - l.turns
