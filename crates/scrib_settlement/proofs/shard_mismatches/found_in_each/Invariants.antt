use Rattle.std.proofs.Common.{◌≡◌, ◌<◌, ℕ, Option, Result, length, get_or}
use Rattle.std.specs.declared.alloc.AllocError.{AllocError}
use Rattle.scrib_settlement.specs.declared.mismatch_place.MismatchPlace.{MismatchPlace}
use Rattle.scrib_settlement.specs.Mismatches.{IsFoundMismatch}
use Rattle.scrib_settlement.proofs.shard_mismatches.found_in_each.Given as goal

abbrev pub invariant-loop-at : goal.invariant-loop-at
invariant-loop-at l = record {
  all : length l.found.items ≡ l.at;
  each : (k : ℕ) (d : Result (Option MismatchPlace) AllocError) → k < l.at → IsFoundMismatch l.shards l.passes k (get_or l.found.items k d);
}
