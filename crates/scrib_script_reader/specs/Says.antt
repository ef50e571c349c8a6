-- The meaning of a line outside module texts, from its bytes without its end (this project's own).
use Rattle.std.specs.Prelude.{◌≡◌, ◌≢◌, ◌⊎◌, ℕ, ◌≤◌, ◌<◌, List, [], ◌∷◌, length, codes}
use Rattle.scrib_core.specs.declared.step.Step.{Step}
use Rattle.scrib_core.specs.declared.format.Format.{Format}
use Rattle.scrib_core.specs.declared.format.Format.TheVariants as format
use Rattle.scrib_script_reader.specs.declared.line.Line.{Line}
use Rattle.scrib_script_reader.specs.declared.line.Line.TheVariants as line
use Rattle.scrib_script_reader.specs.Fields.{fields}
use Rattle.scrib_script_reader.specs.Steps.{MakesStep}

-- a line has no fields, or its first field begins with `#`
abbrev pub IsSkipped : List (List ℕ) → Type 0
IsSkipped [] = Unit {0}
IsSkipped ([] ∷ fs) = ⊥
IsSkipped ((b ∷ bs) ∷ fs) = b ≡ 35

-- the fields ask for this format, and the rest follows: a first field `json` asks for JSON
abbrev pub Asks : List (List ℕ) → Format → List (List ℕ) → Type 0
Asks fs format.Json rest = fs ≡ codes "json" ∷ rest
Asks fs format.Line rest = (rest ≡ fs) × ((more : List (List ℕ)) → fs ≢ codes "json" ∷ more)

-- the only field is `put`
abbrev pub IsPutLine : List (List ℕ) → Type 0
IsPutLine fs = fs ≡ codes "put" ∷ []

-- the fields ask for this format, and those after it are `put`
abbrev pub Puts : List (List ℕ) → Format → Type 0
Puts fs f = (rest : List (List ℕ)) × Asks fs f rest × IsPutLine rest

-- the only field is `sweep`
abbrev pub IsSweepLine : List (List ℕ) → Type 0
IsSweepLine fs = fs ≡ codes "sweep" ∷ []

-- the fields ask for this format, and the one after it is `sweep`
abbrev pub Sweeps : List (List ℕ) → Format → Type 0
Sweeps fs f = (rest : List (List ℕ)) × Asks fs f rest × IsSweepLine rest

-- the fields ask for this format, and those after it make the step
abbrev pub MakesIn : List (List ℕ) → Format → Step → Type 0
MakesIn fs f s = (rest : List (List ℕ)) × Asks fs f rest × MakesStep rest s

-- the line has this meaning; it is bad where it is longer than 131,072 bytes, or has none of the other meanings
abbrev pub Says : List ℕ → Line → Type 0
Says bytes line.Skipped = (length bytes ≤ 131072) × IsSkipped (fields bytes)
Says bytes (line.Put f) = (length bytes ≤ 131072) × Puts (fields bytes) f
Says bytes (line.Step f s) = (length bytes ≤ 131072) × MakesIn (fields bytes) f s
Says bytes (line.Sweep f) = (length bytes ≤ 131072) × Sweeps (fields bytes) f
Says bytes line.Bad =
    (131072 < length bytes)
    ⊎ ((IsSkipped (fields bytes) → ⊥)
    × ((f : Format) → Puts (fields bytes) f → ⊥)
    × ((f : Format) → Sweeps (fields bytes) f → ⊥)
    × ((f : Format) (s : Step) → MakesIn (fields bytes) f s → ⊥))
