use Rattle.std.proofs.Common.{◌≡◌, take}
use Rattle.scrib_library.proofs.names.full_name.Given as goal

abbrev pub invariant-loop-part : goal.invariant-loop-part
invariant-loop-part l = l.names.items ≡ take l.part-index l.part-items
