use Rattle.std.proofs.Common.{ℕ, refl}
use Rattle.scrib_settlement.specs.Mismatches.{PlaceAgrees}
use Rattle.scrib_settlement.proofs.LeastPlaceLemmas.{least_only}
use Rattle.scrib_settlement.proofs.EndedListLemmas.{listed}
use Rattle.scrib_settlement.proofs.settle.settle_found.Goals as goal

pub returns-in-Ok-ended_by_id-clause-settled : goal.returns-in-Ok-ended_by_id-clause-settled
returns-in-Ok-ended_by_id-clause-settled c =
    let shards = c.args.shards.now in
    let agree : (id place : ℕ) → PlaceAgrees shards c.args.passes.now id place = rw c.in-Ok-None.field-0-is at c.in-Ok-None.ensures.least in
    record {
      complete = c.in_default.ensures;
      agree = agree;
      listed = listed c.args.library.now shards c.in-Ok-ended_by_id.list.items c.in-Ok-None.ensures.distinct
          (λ id k within there. (agree id 1).home refl k within there) c.in-Ok-ended_by_id.ensures.ids c.in-Ok-ended_by_id.ensures.each c.in-Ok-ended_by_id.ensures.order;
    }

pub returns-in-Ok-Some-clause-mismatch : goal.returns-in-Ok-Some-clause-mismatch
returns-in-Ok-Some-clause-mismatch c d complete least =
    least_only (PlaceAgrees c.args.shards.now c.args.passes.now) c.in-Ok-Some.mismatch_place d (rw c.in-Ok-Some.field-0-is at c.in-Ok-Some.ensures.least) least
