-- The versions for which a comparison is correct (this project's own).
use Rattle.std.specs.Prelude.{◌≡◌, Option, Some, None}
use Rattle.scrib_record.specs.declared.comparison.Comparison.{Comparison}
use Rattle.scrib_record.specs.declared.comparison.Comparison.TheVariants.{Whole, Numbers}
use Rattle.scrib_record.specs.declared.version.Version.{Version}
use Rattle.scrib_record.specs.Versions.{meaning_of, number_of}

-- the comparison is correct for the present and the held version: by numbers alone, equal numbers imply equal meanings
abbrev pub ServesFor : Comparison → Option Version → Option Version → Type 0
ServesFor Whole present held = Unit {0}
ServesFor Numbers None held = Unit {0}
ServesFor Numbers (Some v) None = Unit {0}
ServesFor Numbers (Some v) (Some w) = number_of v ≡ number_of w → meaning_of v ≡ meaning_of w
