use Rattle.std.proofs.Common.{◌≡◌, ◌<◌, ℕ, None, Ok, length, nat_eq, refl, subst, arith, below_more}
use Rattle.std.specs.List.{IsDistinct}
use Rattle.std.specs.Map.{keys_of}
use Rattle.scrib_core.specs.Held.{Records}
use Rattle.scrib_settlement.specs.Shares.{records_at}
use Rattle.scrib_settlement.specs.Mismatches.{IsLeast, PlaceAgreesInShard}
use Rattle.scrib_settlement.proofs.MismatchLemmas.{records_read, so_far_more, agrees_all}
use Rattle.scrib_settlement.proofs.settle.first_mismatch.Goals as goal

pub loop-at-preserved : goal.loop-at-preserved
loop-at-preserved c =
    let shards = c.args.shards.now in
    let at = c.loop-at.at in
    let within : at < length shards = omega arith in
    let here : c.index-shards-at.result.records ≡ records_at shards at = records_read shards at c.index-shards-at.result within c.index-shards-at.is in
    let own : IsLeast (PlaceAgreesInShard (length shards) at (records_at shards at) c.args.passes.now) c.in_ok-own.own =
    rw c.in_ok-own.was at (c.requires.found.each at (Ok None) within) in
    record {
      least = rw c.earlier-least.ensures (so_far_more at shards c.args.passes.now (records_at shards at) c.loop-at.least
          c.in_ok-own.own refl c.loop-at.invariant.least own);
      distinct = below_more (λ (k : ℕ). IsDistinct nat_eq (keys_of (records_at shards k))) at c.loop-at.invariant.distinct
          (subst (λ (rs : Records). IsDistinct nat_eq (keys_of rs)) here c.len-conversations.ensures.kept.distinct);
    }

pub returns-clause-least : goal.returns-clause-least
returns-clause-least c =
    let end : c.loop-at.at ≡ length c.args.shards.now = omega arith in
    agrees_all c.args.shards.now c.args.passes.now c.loop-at.least c.requires.some
    (λ k below. c.loop-at.invariant.distinct k (omega arith)) (rw end at c.loop-at.invariant.least)
