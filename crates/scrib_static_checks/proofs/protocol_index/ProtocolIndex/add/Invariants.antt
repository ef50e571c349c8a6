use Rattle.std.proofs.Common.{◌≡◌, ◌+◌, ◌<◌, ◌++◌, List, length}
use Rattle.scrib_static_checks.specs.ProtocolIndex.{IsFilled}
use Rattle.scrib_static_checks.specs.Names.{Declaration, declared_in}
use Rattle.scrib_static_checks.proofs.protocol_index.ProtocolIndex.add.Given as goal

abbrev pub invariant-loop-i : goal.invariant-loop-i
invariant-loop-i l = record {
  indexed : l.self.indexed ≡ l.initial.self.indexed;
  some : 0 < length l.self.slots.items → 0 < length l.initial.self.slots.items;
  slots : 0 < length l.self.slots.items → (ds : List Declaration) → IsFilled ds (length l.initial.self.slots.items) (length ds) l.initial.self.slots.items → l.initial.self.indexed ≡ length ds
      → IsFilled (ds ++ declared_in l.home l.home.protocols) (length l.initial.self.slots.items) (length ds + l.i) l.self.slots.items;
}
