-- Bytes as lines and a part of a line (this project's own).
use Rattle.std.specs.Prelude.{◌≡◌, ℕ, List, [], ◌∷◌, ◌++◌}
use Rattle.scrib_script_reader.specs.Scripts.{NoLf, lines}

-- the bytes are some of one line, and its LF
abbrev pub IsEnded : List ℕ → Type 0
IsEnded bytes = (k : List ℕ) × NoLf k × (bytes ≡ k ++ 10 ∷ [])

-- the bytes are these lines, each with its LF, and then a part of a line
pub record IsSplit (bytes : List ℕ) (before : List (List ℕ)) (part : List ℕ) : Type 0 where
  pub at : (more : List ℕ) → lines (bytes ++ more) ≡ before ++ lines (part ++ more)
  pub no_lf : NoLf part
