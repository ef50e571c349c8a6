use Rattle.std.proofs.Common.{◌≡◌, ◌<◌, length}
use Rattle.scrib_type_builder.specs.Operators.{AreChained}
use Rattle.scrib_type_builder.proofs.operators.Operators.add_new.Given as goal

abbrev pub invariant-loop-place : goal.invariant-loop-place
invariant-loop-place l = record {
  long : length l.self.latest.items ≡ l.size;
  some : 0 < l.size;
  chained : AreChained l.branches l.place l.self.latest.items l.self.earlier.items;
}
