-- What is read of lines of objects (this project's own). Only contracts of private functions cite this file.
use Rattle.std.specs.Prelude.{◌≡◌, ◌⊎◌, ℕ, ◌<◌, ◌≤◌, List, Option, None, length}
use Rattle.scrib_objects.specs.Objects.{IsObjectLine, Spelled}
use Rattle.scrib_labelled.specs.declared.label_options.LabelOptions.{LabelOptions}
use Rattle.scrib_labelled.specs.LabelledLines.{object_options}

-- what the line stands for as an object: nothing where it is too long
abbrev pub IsObjectRead : LabelOptions → (whole : List ℕ) → Option Spelled → Type 0
IsObjectRead o whole found =
    ((8388608 < length whole) × (found ≡ None))
    ⊎ ((length whole ≤ 8388608) × IsObjectLine (object_options o) whole found)
