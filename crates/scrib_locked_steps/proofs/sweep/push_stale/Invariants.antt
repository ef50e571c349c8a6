use Rattle.std.proofs.Common.{◌≡◌, ◌++◌, take}
use Rattle.std.specs.Option.{option_copied}
use Rattle.scrib_locked_steps.specs.Sweeping.{stale_ids_of}
use Rattle.scrib_locked_steps.proofs.sweep.push_stale.Given as goal

abbrev pub invariant-loop-id : goal.invariant-loop-id
invariant-loop-id l = l.ids.items ≡ l.initial.ids.items ++ stale_ids_of (option_copied l.present) l.shard.records (take l.id-index l.listed)
