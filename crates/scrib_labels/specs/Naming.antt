-- The numbers that stand for names of conversations (this project's own).
use Rattle.std.specs.Prelude.{◌≡◌, ◌≢◌, ◌⊎◌, ℕ, List, Option, Some, None}
use Rattle.std.specs.HashMap.{get_by_text}
use Rattle.scrib_labels.specs.declared.session_names.SessionNames.{SessionNames}

-- the number of the name, if it has one
abbrev pub number_of : SessionNames → List ℕ → Option ℕ
number_of s name = get_by_text s.numbers name

-- no name has the number
abbrev pub IsVacant : SessionNames → ℕ → Type 0
IsVacant s number = (name : List ℕ) → number_of s name ≢ Some number

-- the number that the next name gets
abbrev pub next_number : SessionNames → ℕ
next_number s = s.names.vacant_key

-- the number that stands for a name: its own, or where it has none the next one, which no name has
abbrev pub IsNumberFor : SessionNames → List ℕ → ℕ → Type 0
IsNumberFor s name number =
    (number_of s name ≡ Some number)
    ⊎ ((number_of s name ≡ None) × (number ≡ next_number s) × IsVacant s number)
