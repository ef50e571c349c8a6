use Rattle.scrib_settlement.proofs.MismatchLemmas.{records_read}
use Rattle.scrib_settlement.proofs.shard_mismatches.found_in.Goals as goal

pub returns : goal.returns
returns c =
    rw (← records_read c.args.shards.now c.args.at c.index-shards-at.result c.requires c.index-shards-at.is) c.first_in_shard.ensures
