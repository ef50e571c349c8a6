use Rattle.std.proofs.Common.{◌≡◌, ◌<◌, length}
use Rattle.scrib_static_checks.specs.ProtocolIndex.{protocol_slot, probed, AreTaken}
use Rattle.scrib_static_checks.proofs.index_entries.free_slot.Given as goal

abbrev pub invariant-loop : goal.invariant-loop
invariant-loop l = record {
  within : l.slot < length l.slots;
  at : l.slot ≡ probed (length l.slots) (protocol_slot (length l.slots) l.home l.name) l.counter;
  taken : AreTaken l.slots (length l.slots) (protocol_slot (length l.slots) l.home l.name) l.counter;
}
