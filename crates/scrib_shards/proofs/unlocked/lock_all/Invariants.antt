use Rattle.std.proofs.Common.{◌≡◌, ◌≤◌, ◌+◌, vec_len, vec_capacity}
use Rattle.scrib_shards.proofs.unlocked.lock_all.Given as goal

abbrev pub invariant-loop-value : goal.invariant-loop-value
invariant-loop-value l = record {
  all : vec_len l.locks + vec_len l.values ≡ vec_len l.initial.values;
  locks : vec_len l.initial.values ≤ vec_capacity l.locks;
  values : vec_len l.initial.values ≤ vec_capacity l.values;
}

abbrev pub decreases-loop-value : goal.decreases-loop-value
decreases-loop-value l = vec_len l.values
