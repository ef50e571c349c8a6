use Rattle.std.proofs.Common.{◌≡◌, ◌≤◌, ◌+◌, vec_len, vec_capacity}
use Rattle.scrib_shards.proofs.unlocked.unlock_all.Given as goal

abbrev pub invariant-loop-lock : goal.invariant-loop-lock
invariant-loop-lock l = record {
  all : vec_len l.values + vec_len l.locks ≡ vec_len l.initial.locks;
  values : vec_len l.initial.locks ≤ vec_capacity l.values;
  locks : vec_len l.initial.locks ≤ vec_capacity l.locks;
}

abbrev pub decreases-loop-lock : goal.decreases-loop-lock
decreases-loop-lock l = vec_len l.locks
