-- Versions of protocols (this project's own).
use Rattle.std.specs.Prelude.{◌≡◌, ℕ, Option, Some, None}
use Rattle.scrib_types.specs.Agreement.{Agreement}
use Rattle.scrib_types.specs.Meaning.{agreement_of}
use Rattle.scrib_record.specs.declared.version.Version.{Version}

-- the meaning of a version's protocol
abbrev pub meaning_of : Version → Agreement
meaning_of v = agreement_of v.protocol

-- the number of a version's stamp
abbrev pub number_of : Version → ℕ
number_of v = v.number

-- the stamps are equal: the numbers are, and the meanings
abbrev pub HaveSameStamp : Version → Version → Type 0
HaveSameStamp v w = (number_of v ≡ number_of w) × (meaning_of v ≡ meaning_of w)

-- two versions of the same stamp, or none and none
abbrev pub AreOfOneStamp : Option Version → Option Version → Type 0
AreOfOneStamp None None = Unit {0}
AreOfOneStamp (Some v) (Some w) = HaveSameStamp v w
AreOfOneStamp _ _ = ⊥
