use Rattle.std.proofs.Common.{◌-◌, vec_len}
use Rattle.std.specs.List.{FoldsTo, range_with_len}
use Rattle.scrib_run_service.proofs.notices.name_shards.Given as goal

abbrev pub invariant-loop-shard : goal.invariant-loop-shard
invariant-loop-shard g l =
    goal.F-IsAlwaysCallable g l.name
    × ((last : _) → FoldsTo (λ p x q. goal.F-step g p x tt q) l.name (range_with_len l.shard (l.shards - l.shard)) last → FoldsTo (λ p x q. goal.F-step g p x tt q) l.fn.name (range_with_len 0 (vec_len l.service.shards)) last)
