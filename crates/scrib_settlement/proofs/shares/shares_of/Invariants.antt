use Rattle.std.proofs.Common.{◌≡◌, ◌<◌, ◌-◌, ◌^◌, ℕ, min, take, length, slice_index}
use Rattle.scrib_settlement.specs.Shares.{shares_in}
use Rattle.scrib_settlement.proofs.shares.shares_of.Given as goal

abbrev pub invariant-loop-pass : goal.invariant-loop-pass
invariant-loop-pass l = record {
  size : length l.shares ≡ 64;
  counted : (k : ℕ) → k < l.count → slice_index l.shares k ≡ min (shares_in l.count k (take l.pass-index l.passes)) (2 ^ 64 - 1);
}
