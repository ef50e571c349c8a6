use Rattle.std.proofs.Common.{◌<◌, length}
use Rattle.scrib_static_checks.specs.ProtocolIndex.{IsFilled}
use Rattle.scrib_static_checks.specs.Table.{shown}
use Rattle.scrib_static_checks.proofs.protocol_index.ProtocolIndex.new.Given as goal

abbrev pub invariant-loop-place : goal.invariant-loop-place
invariant-loop-place l = 0 < length l.slots.items → IsFilled (shown l.declared) l.size l.place l.slots.items
