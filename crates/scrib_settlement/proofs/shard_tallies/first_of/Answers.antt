use Rattle.std.proofs.Common.{◌≡◌, ◌∙◌, ◌%◌, ℕ, Option, Some, sym, ap}
use Rattle.std.proofs.lemmas.Option.{some_pair_parts}
use Rattle.scrib_record.specs.Stale.{Recorded}
use Rattle.scrib_settlement.specs.Mismatches.{receipts_of}
use Rattle.scrib_settlement.proofs.ShardTallyLemmas.{own_first, other_first}
use Rattle.scrib_settlement.proofs.shard_tallies.first_of.Goals as goal
use Rattle.scrib_settlement.proofs.shard_tallies.first_of.Goals.{then-id-count, else-id-count}

pub returns : goal.returns
returns c ps id x here counts =
    let both : ◌≡◌ {A = Option (ℕ × Recorded)} (Some (id, x)) (Some (c.at-id.result.0, c.at-id.result.1.now)) = sym here ∙ c.at-id.ensures in
    let same = (some_pair_parts id c.at-id.result.0 x c.at-id.result.1.now both).0 in
    rw (c.placed_in.ensures, ← same) (elim c.if-id-count.branch [
      | then-id-count w ↦
          (let own = ap (λ (i : ℕ). i % c.args.count) same ∙ w.if-id-count.true in
          rw w.place-is (own_first c.args.count c.args.at ps id x w.first-place.result own (w.first-place.ensures x.log (receipts_of id ps) (counts own))))
      | else-id-count w ↦
          rw w.place-is (other_first c.args.count c.args.at ps id x (λ own. w.if-id-count.false (ap (λ (i : ℕ). i % c.args.count) (sym same) ∙ own)))
    ])
