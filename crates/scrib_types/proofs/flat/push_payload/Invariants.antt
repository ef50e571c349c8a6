use Rattle.std.proofs.Common.{◌≡◌, ◌++◌, drop}
use Rattle.scrib_types.specs.Flat.{payload_bytes}
use Rattle.scrib_types.proofs.flat.push_payload.Given as goal

abbrev pub invariant-loop-sort : goal.invariant-loop-sort
invariant-loop-sort l =
    l.out.items ++ payload_bytes (drop l.sort-index l.sorts) ≡ l.fn.out.items ++ payload_bytes l.sorts
