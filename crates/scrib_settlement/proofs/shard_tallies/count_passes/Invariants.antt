use Rattle.std.proofs.Common.{◌≡◌, [], take, length}
use Rattle.scrib_settlement.specs.Tallies.{AreTallies}
use Rattle.scrib_settlement.proofs.shard_tallies.count_passes.Given as goal

abbrev pub invariant-loop-pass : goal.invariant-loop-pass
invariant-loop-pass l = record {
  size : length l.tallies ≡ length l.shard.records;
  counted : AreTallies l.count l.at l.shard.records [] l.initial.tallies → AreTallies l.count l.at l.shard.records (take l.pass-index l.passes) l.tallies;
}
