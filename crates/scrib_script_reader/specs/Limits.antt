-- The limits of a script (this project's own).
use Rattle.std.specs.Prelude.{◌≤◌, ◌<◌, ◌⊎◌, ◌==◌, if◌then◌else◌, ℕ, ◌+◌, List, [], ◌∷◌, length}
use Rattle.scrib_script_reader.specs.declared.limits.Limits.{Limits}
use Rattle.scrib_script_reader.specs.Scripts.{lines}

-- the limits of the scripts that the program reads: 16,777,216 lines and 1,099,511,627,776 bytes
abbrev pub of_scripts : Limits
of_scripts = record { lines = 16777216; bytes = 1099511627776 }

-- the limits of a script without an end: 2^64 - 2 lines and 2^64 - 1 bytes, so that each line has a number
abbrev pub endless : Limits
endless = record { lines = 18446744073709551614; bytes = 18446744073709551615 }

-- a script of these bytes is within the limits
abbrev pub IsWithinLimits : Limits → List ℕ → Type 0
IsWithinLimits m script = (length (lines script) ≤ m.lines) × (length script ≤ m.bytes)

-- a script of these bytes is past the limits
abbrev pub IsPast : Limits → List ℕ → Type 0
IsPast m script = (m.lines < length (lines script)) ⊎ (m.bytes < length script)

-- the number of LFs among the bytes
abbrev pub line_feeds : List ℕ → ℕ
line_feeds [] = 0
line_feeds (b ∷ bs) = if b == 10 then line_feeds bs + 1 else line_feeds bs
