use Rattle.std.proofs.Common.{◌≡◌, ◌≤◌, length, drop}
use Rattle.scrib_library.specs.Listed.{name_cmp}
use Rattle.scrib_library.proofs.names.compare_all.Given as goal

abbrev pub invariant-loop-i : goal.invariant-loop-i
invariant-loop-i l = record {
  within : l.i ≤ length l.b;
  alike : name_cmp l.a l.b ≡ name_cmp (drop l.i l.a) (drop l.i l.b);
}
