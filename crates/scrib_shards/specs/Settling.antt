-- What a settled service promises of the values behind its locks (this project's own).
use Rattle.std.specs.Prelude.{◌≡◌, ℕ, ◌<◌, ◌≤◌, List, length}
use Rattle.scrib_library.specs.Holdings.{Holdings}
use Rattle.scrib_locked_steps.specs.Shards.{ShardHeld}
use Rattle.scrib_locked_steps.specs.Passes.{PassHeld}
use Rattle.scrib_core.specs.declared.ended.Ended.{Ended}
use Rattle.scrib_settlement.specs.declared.fault.SettleFault.{SettleFault}
use Rattle.scrib_settlement.specs.Settled.{IsSettled, IsFault}

-- the values of `count` shards, 1 to 64
pub record AreShards (count : ℕ) (shards : List ShardHeld) : Type 0 where
  pub all : length shards ≡ count
  pub some : 0 < length shards
  pub few : length shards ≤ 64

-- the passes settle these shards under the library, with this list
pub record IsSettledSome (count : ℕ) (h : Holdings) (shards : List ShardHeld) (passes : List PassHeld)
    (list : List Ended) : Type 0 where
  pub are : AreShards count shards
  pub settled : IsSettled h shards passes list

-- the passes do not settle some values of `count` shards, for this reason
pub record IsFaultSome (count : ℕ) (passes : List PassHeld) (f : SettleFault) : Type 0 where
  pub shards : List ShardHeld
  pub are : AreShards count shards
  pub fault : IsFault shards passes f
