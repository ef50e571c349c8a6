use Rattle.std.proofs.Common.{◌≡◌, length}
use Rattle.scrib_types.specs.Hashing.{hash_bytes}
use Rattle.scrib_types.proofs.hashing.hash_bytes.Given as goal

abbrev pub invariant-loop-rest : goal.invariant-loop-rest
invariant-loop-rest l = hash_bytes l.hash l.rest ≡ hash_bytes l.before l.bytes

abbrev pub decreases-loop-rest : goal.decreases-loop-rest
decreases-loop-rest l = length l.rest
