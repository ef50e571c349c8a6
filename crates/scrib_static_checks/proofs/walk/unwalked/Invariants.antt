use Rattle.std.proofs.Common.{◌≡◌}
use Rattle.std.specs.Prelude.{vec_len, vec_capacity}
use Rattle.scrib_static_checks.specs.Walking.{AreUnwalked}
use Rattle.scrib_static_checks.proofs.walk.unwalked.Given as goal

abbrev pub invariant-loop : goal.invariant-loop
invariant-loop l = AreUnwalked l.counter l.states.items × (vec_len l.states ≡ l.counter) × (vec_capacity l.states ≡ l.count)
