-- What a writer holds after a write that stopped early (this project's own).
use Rattle.std.specs.Prelude.{◌≡◌, ℕ, List, ◌++◌, Option}
use Rattle.std.specs.Io.KnownBytes.{Appends}

-- a prefix of the bytes was appended to what the writer holds
abbrev pub AppendsPart : Option (List ℕ) → Option (List ℕ) → List ℕ → Type 0
AppendsPart old new bytes = (part : List ℕ) × (rest : List ℕ) × (bytes ≡ part ++ rest) × Appends old new part
