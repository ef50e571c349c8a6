-- Books of shards and shares of passes (this project's own).
use Rattle.std.specs.Prelude.{◌≡◌, ℕ, ◌<◌, ◌%◌, nat_eq, List, [], length, cond, slice_index_or}
use Rattle.std.specs.List.{sum_by, IsDistinct}
use Rattle.std.specs.Map.{keys_of}
use Rattle.scrib_core.specs.Held.{Records}
use Rattle.scrib_locked_steps.specs.Shards.{ShardHeld, book_of}
use Rattle.scrib_locked_steps.specs.Passes.{PassHeld}

-- a shard without conversations
abbrev pub no_shard : ShardHeld
no_shard = record { capacity = 0; records = []; openings = []; opened = 0 }

-- the records of the shard of this number, from 0; none after the last
abbrev pub records_at : List ShardHeld → ℕ → Records
records_at shards k = (slice_index_or shards k no_shard).records

-- in each shard the ids are distinct
abbrev pub AreDistinct : List ShardHeld → Type 0
AreDistinct shards = (k : ℕ) → k < length shards → IsDistinct nat_eq (keys_of (records_at shards k))

-- the share of a pass in shard `k` of `count`: the number of its receipts, if its conversation belongs there
abbrev pub share_in : (count k : ℕ) → PassHeld → ℕ
share_in count k p = cond (nat_eq (p.conversation % count) k) (length p.receipts) 0

-- the sum of the shares of the passes in shard `k` of `count`
abbrev pub shares_in : (count k : ℕ) → List PassHeld → ℕ
shares_in count k passes = sum_by (share_in count k) passes

-- the shares of the shard's passes add up to its book
abbrev pub AddsUp : List ShardHeld → List PassHeld → ℕ → Type 0
AddsUp shards passes k = shares_in (length shards) k passes ≡ book_of (records_at shards k)

-- the shares of each shard add up to its book, so no pass is missing
abbrev pub AllAddUp : List ShardHeld → List PassHeld → Type 0
AllAddUp shards passes = (k : ℕ) → k < length shards → AddsUp shards passes k

-- the least shard whose shares do not add up to its book
pub record IsFirstIncomplete (shards : List ShardHeld) (passes : List PassHeld) (k : ℕ) : Type 0 where
  pub within : k < length shards
  pub differs : AddsUp shards passes k → ⊥
  pub first : (j : ℕ) → j < k → AddsUp shards passes j
