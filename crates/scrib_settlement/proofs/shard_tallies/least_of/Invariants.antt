use Rattle.std.proofs.Common.{List}
use Rattle.scrib_locked_steps.specs.Passes.{PassHeld}
use Rattle.scrib_settlement.specs.Mismatches.{IsLeast}
use Rattle.scrib_settlement.specs.Tallies.{AreTallies, PlaceAgreesBelow}
use Rattle.scrib_settlement.proofs.shard_tallies.least_of.Given as goal

abbrev pub invariant-loop-index : goal.invariant-loop-index
invariant-loop-index l = (passes : List PassHeld) → AreTallies l.count l.at l.shard.records passes l.tallies
    → IsLeast (PlaceAgreesBelow l.index l.count l.at l.shard.records passes) l.least
