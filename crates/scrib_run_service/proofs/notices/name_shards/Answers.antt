use Rattle.std.proofs.Common.{List, ℕ, of_calls, sym, subst, refl}
use Rattle.std.specs.List.{FoldsTo}
use Rattle.scrib_run_service.proofs.RangeLemmas.{range_all, range_more, range_none}
use Rattle.scrib_run_service.proofs.notices.name_shards.Goals as goal

pub loop-shard-init : goal.loop-shard-init
loop-shard-init g c =
    let all = range_all c.shards-shards.result _ c.shards-shards.ensures.is in
    (c.requires, λ last named. subst (λ (l : List ℕ). FoldsTo (λ p x q. goal.F-step g p x tt q) c.args.name l last) all named)

pub loop-shard-preserved : goal.loop-shard-preserved
loop-shard-preserved g c = (
  search of_calls,
  λ last named.
      let more = range_more c.loop-shard.shard _ c.loop-shard-test.true in
      c.loop-shard.invariant.1 last (subst (λ (l : List ℕ). FoldsTo (λ p x q. goal.F-step g p x tt q) c.loop-shard.name l last) (sym more) (c.name.new.self, search of_calls, named)),
)

pub returns : goal.returns
returns g c =
    let none = range_none c.loop-shard.shard _ c.loop-shard-test.false in
    (c.loop-shard.name, c.loop-shard.invariant.1 c.loop-shard.name (subst (λ (l : List ℕ). FoldsTo (λ p x q. goal.F-step g p x tt q) c.loop-shard.name l c.loop-shard.name) (sym none) refl))
