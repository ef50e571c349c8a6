use Rattle.std.proofs.Common.{◌≡◌, ℕ, Option, Some, None, slice_get, position, nat_eq, IfSome, sym, subst}
use Rattle.std.specs.Map.{keys_of}
use Rattle.scrib_record.specs.Stale.{Recorded}
use Rattle.scrib_core.specs.Held.{Records}
use Rattle.scrib_locked_steps.specs.Shards.{ShardHeld}
use Rattle.scrib_core.proofs.Indexes.{found_at, only_at}
use Rattle.scrib_locked_steps.proofs.shard.Shard.index_of.Goals as goal

found_if : (rs : Records) (id : ℕ) (o : Option ℕ) → o ≡ position (nat_eq id) (keys_of rs) → IfSome o (λ i. (r : Recorded) × (slice_get rs i ≡ Some (id, r)))
found_if rs id None index = tt
found_if rs id (Some i) index = found_at rs id i (sym index)

pub returns-clause-found : goal.returns-clause-found
returns-clause-found c = rw (← c.self.view_is) (found_if c.self.inside.records.entries c.args.id c.get_index_of.result c.get_index_of.ensures.index)

pub returns-clause-only : goal.returns-clause-only
returns-clause-only c i x at = only_at c.self.inside.records.entries c.args.id i x c.get_index_of.result c.get_index_of.ensures.unique c.get_index_of.ensures.index c.get_index_of.ensures.found (subst (λ (s : ShardHeld). slice_get s.records i ≡ Some (c.args.id, x)) (sym c.self.view_is) at)
