use Rattle.std.proofs.Common.{◌≡◌, ◌∙◌, length, ap, sym}
use Rattle.scrib_settlement.proofs.ShardTallyLemmas.{lent_back}
use Rattle.scrib_settlement.proofs.shard_tallies.first_in_shard.Goals as goal

pub returns : goal.returns
returns c =
    let fresh = c.in_ok-tallies.ensures.fresh c.args.count c.args.at in
    let items = c.in_ok-tallies.tallies.items in
    let after = c.count_passes.new.tallies in
    let size : length after ≡ c.in_ok-tallies.tallies.len = c.count_passes.ensures.size ∙ ap length c.as_mut_slice.ensures.value ∙ sym c.in_ok-tallies.tallies.ok.0 in
    c.least_of.ensures c.args.passes.now (rw (c.as_slice.ensures.value, lent_back c.in_ok-tallies.tallies.len after items size)
    (c.count_passes.ensures.counted (rw c.as_mut_slice.ensures.value fresh)))
