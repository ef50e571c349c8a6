-- The places of roles.
use Rattle.std.specs.Prelude.{ℕ, List, position, Option}
use Rattle.std.specs.Str.{bytes_eq}

-- the place of the role among the roles
abbrev pub place_in : List (List ℕ) → List ℕ → Option ℕ
place_in roles r = position (bytes_eq r) roles
