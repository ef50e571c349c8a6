use Rattle.std.proofs.Common.{◌<◌, ◌≤◌, length, rules, arith}
use Rattle.std.proofs.lemmas.List.Sorted.{IsNonDecreasingBy-from_sort_by_key, All-permutation}
use Rattle.scrib_settlement.specs.Settled.{IsEndedOf}
use Rattle.scrib_core.specs.declared.ended.Ended.{Ended}
use Rattle.scrib_settlement.proofs.EndedListLemmas.{shards_more, ids_sorted}
use Rattle.scrib_settlement.proofs.MismatchLemmas.{records_read}
use Rattle.scrib_settlement.proofs.ended.ended_by_id.Goals as goal

pub loop-shard-preserved : goal.loop-shard-preserved
loop-shard-preserved c =
    let shards = c.args.shards.now in
    let n = c.loop-shard.shard-index in
    let within : n < length shards = omega arith in
    shards_more c.args.library.now shards n c.shard-item.result c.loop-shard.list.items c.push_ended.new.list.items within c.shard-item.is
    (records_read shards n c.shard-item.result within c.shard-item.is) c.loop-shard.invariant c.in_ok-push_ended.ensures

pub returns-clause-ids : goal.returns-clause-ids
returns-clause-ids c =
    let all : length c.args.shards.now ≤ c.loop-shard.shard-index = omega arith in
    ids_sorted c.args.shards.now c.loop-shard.shard-index c.loop-shard.list.items c.sort_unstable_by_key.new.self.items all c.loop-shard.invariant.ids c.sort_unstable_by_key.ensures.permutation

pub returns-clause-each : goal.returns-clause-each
returns-clause-each c =
    All-permutation (IsEndedOf c.args.library.now c.args.shards.now) c.loop-shard.list.items c.sort_unstable_by_key.new.self.items c.sort_unstable_by_key.ensures.permutation c.loop-shard.invariant.each

pub returns-clause-order : goal.returns-clause-order
returns-clause-order c = IsNonDecreasingBy-from_sort_by_key (λ (e : Ended). e.id) _ c.sort_unstable_by_key.ensures.sorted (λ a r q k. search rules)
