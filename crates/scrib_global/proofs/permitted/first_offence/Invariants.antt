use Rattle.std.proofs.Common.{ℕ, ◌≤◌, take}
use Rattle.scrib_types.specs.Meaning.{agreement_of}
use Rattle.scrib_types.specs.Permitted.{IsPermitted}
use Rattle.scrib_global.proofs.permitted.first_offence.Given as goal

abbrev pub invariant-loop-i : goal.invariant-loop-i
invariant-loop-i l = (n : ℕ) → n ≤ l.i → IsPermitted (agreement_of l.protocol) (take n l.log)
