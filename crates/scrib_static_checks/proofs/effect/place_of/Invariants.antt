use Rattle.std.proofs.Common.{◌≡◌, ◌+◌, drop, option_map}
use Rattle.scrib_static_checks.specs.Names.{role_names}
use Rattle.scrib_static_checks.specs.CallEffect.{place_of}
use Rattle.scrib_static_checks.proofs.effect.place_of.Given as goal

abbrev pub invariant-loop-k : goal.invariant-loop-k
invariant-loop-k l =
    place_of l.role (role_names l.declared) ≡ option_map (λ j. l.k + j) (place_of l.role (role_names (drop l.k l.declared)))
