-- A receiver that differs from the first one.
use Rattle.std.proofs.Common.{◌≡◌, ◌≢◌, ℕ, List, Option, Some, None, refl}
use Rattle.scrib_type_builder.specs.Rules.{IsFirst}

pub not_first : (receiver : Option (List ℕ)) (q : List ℕ) → (IsFirst receiver q → ⊥) → (r : List ℕ) × (receiver ≡ Some r) × (r ≢ q)
not_first None q h = absurd (h tt)
not_first (Some r) q h = (r, refl, h)
