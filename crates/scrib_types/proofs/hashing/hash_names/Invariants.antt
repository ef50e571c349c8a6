use Rattle.std.proofs.Common.{◌≡◌, drop}
use Rattle.scrib_types.specs.Hashing.{hash_names}
use Rattle.scrib_types.proofs.hashing.hash_names.Given as goal

abbrev pub invariant-loop-name : goal.invariant-loop-name
invariant-loop-name l = hash_names l.hash (drop l.name-index l.names) ≡ hash_names l.before l.names
