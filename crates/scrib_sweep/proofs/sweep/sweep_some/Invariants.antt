use Rattle.std.proofs.Common.{◌≤◌, ◌-◌}
use Rattle.scrib_core.specs.Held.{state_of}
use Rattle.scrib_sweep.proofs.SweptLists.{IsSweptSoFar}
use Rattle.scrib_sweep.proofs.sweep.sweep_some.Given as goal

abbrev pub invariant-loop-index : goal.invariant-loop-index
invariant-loop-index l = record {
  few : l.limit ≤ 64;
  counted : l.judged ≤ l.index;
  so_far : IsSweptSoFar (state_of l.fn.core) l.listed l.index (64 - l.limit) l.judged (state_of l.core);
}
