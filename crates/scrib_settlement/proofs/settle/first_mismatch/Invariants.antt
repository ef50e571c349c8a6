use Rattle.std.proofs.Common.{◌<◌, ℕ, nat_eq}
use Rattle.std.specs.List.{IsDistinct}
use Rattle.std.specs.Map.{keys_of}
use Rattle.scrib_settlement.specs.Shares.{records_at}
use Rattle.scrib_settlement.specs.Mismatches.{IsLeast}
use Rattle.scrib_settlement.proofs.MismatchLemmas.{PlaceAgreesSoFar}
use Rattle.scrib_settlement.proofs.settle.first_mismatch.Given as goal

abbrev pub invariant-loop-at : goal.invariant-loop-at
invariant-loop-at l = record {
  least : IsLeast (PlaceAgreesSoFar l.at l.shards l.passes) l.least;
  distinct : (k : ℕ) → k < l.at → IsDistinct nat_eq (keys_of (records_at l.shards k));
}
