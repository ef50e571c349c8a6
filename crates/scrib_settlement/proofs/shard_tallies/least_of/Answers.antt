use Rattle.std.proofs.Common.{◌≡◌, ◌<◌, inl, inr, Some, length, slice_get, refl, arith}
use Rattle.std.proofs.lemmas.Option.{slice_get_cases, slice_get_read}
use Rattle.scrib_settlement.proofs.ShardTallyLemmas.{first_more, first_none, first_all}
use Rattle.scrib_settlement.proofs.shard_tallies.least_of.Goals as goal

pub loop-index-init : goal.loop-index-init
loop-index-init c ps tallies = first_none c.args.count c.args.at c.args.shard.now.records ps

pub loop-index-preserved : goal.loop-index-preserved
loop-index-preserved c ps tallies =
    let within : c.loop-index.index < length c.args.tallies.now = omega arith in
    let tally : slice_get c.args.tallies.now c.loop-index.index ≡ Some c.index-tallies-index.result =
    slice_get_read c.args.tallies.now (length c.args.tallies.now) c.loop-index.index c.index-tallies-index.result refl within c.index-tallies-index.is in
    rw c.earlier-least.ensures (elim (slice_get_cases c.args.shard.now.records c.loop-index.index).1 [
      | inl found ↦
          first_more c.loop-index.index c.args.count c.args.at c.args.shard.now.records ps found.0.0 found.0.1 c.loop-index.least c.first_of.result found.2
          (c.loop-index.invariant ps tallies)
          (c.first_of.ensures ps found.0.0 found.0.1 found.2 (tallies.each c.loop-index.index found.0.0 found.0.1 c.index-tallies-index.result found.2 tally))
      | inr past ↦ absurd (omega (arith, past.0, c.requires.size))
    ])

pub returns : goal.returns
returns c ps tallies =
    let end : c.loop-index.index ≡ length c.args.shard.now.records = omega arith in
    first_all c.args.count c.args.at c.args.shard.now.records ps c.loop-index.least (rw end at (c.loop-index.invariant ps tallies))
