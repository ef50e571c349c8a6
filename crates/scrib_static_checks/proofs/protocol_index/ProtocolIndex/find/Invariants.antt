use Rattle.std.proofs.Common.{◌≡◌, ◌<◌, length}
use Rattle.scrib_static_checks.specs.ProtocolIndex.{protocol_slot, probed}
use Rattle.scrib_static_checks.specs.Table.{shown}
use Rattle.scrib_static_checks.proofs.Slots.{ArePassed}
use Rattle.scrib_static_checks.proofs.protocol_index.ProtocolIndex.find.Given as goal

abbrev pub invariant-loop : goal.invariant-loop
invariant-loop l = record {
  within : l.slot < length l.self.slots.items;
  at : l.slot ≡ probed (length l.self.slots.items) (protocol_slot (length l.self.slots.items) l.home l.name) l.counter;
  passed : ArePassed (shown l.declared) l.self.slots.items (length l.self.slots.items) (protocol_slot (length l.self.slots.items) l.home l.name) l.home l.name l.counter;
}
