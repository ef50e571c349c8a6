-- Records whose verdict is not stale (this project's own).
use Rattle.std.specs.Prelude.{◌≡◌, ℕ, true, false, Option, Some, None}
use Rattle.std.specs.Borrow.{Bor}
use Rattle.std.specs.Option.{option_map}
use Rattle.scrib_types.specs.Judgement.{Judges}
use Rattle.scrib_record.specs.declared.version.Version.{Version}
use Rattle.scrib_record.specs.Stale.{Recorded, IsLawful, is_stale}
use Rattle.scrib_record.specs.Versions.{meaning_of}
use Rattle.scrib_library.specs.Holdings.{Holdings}
use Rattle.scrib_library.specs.Modules.{IsMeaning}
use Rattle.scrib_core.specs.Marks.{Fresh, IsStale}
use Rattle.scrib_core.specs.Held.{Held, Records, record_at, mark_of}
use Rattle.scrib_core.specs.ConversationSteps.{IsPresent}

-- The record of the id is not stale. It holds the version that its protocol has now, or none where the protocol is not
-- in the library, and its verdict is that on the whole log.
pub record IsFreshRecord (h : Holdings) (rs : Records) (id : ℕ) (r : Recorded) : Type 0 where
  pub there : record_at rs id ≡ Some r
  pub fresh : mark_of h r ≡ Fresh
  pub meaning : IsMeaning h.modules r.name (option_map meaning_of r.held)
  pub judges : Judges (option_map meaning_of r.held) r.log r.verdict

-- the record of the id, or none where there is no record or its verdict is stale
abbrev pub FindsFreshRecord : Held → ℕ → Option (Bor Recorded) → Type 0
FindsFreshRecord c id None = (r : Recorded) → record_at c.records id ≡ Some r → IsStale (mark_of c.library r)
FindsFreshRecord c id (Some r) = IsFreshRecord c.library c.records id r.now

-- The rest of this file is cited by contracts of calls below the core alone.

-- the record of the id is not stale under the present version of its protocol
pub record IsUnstale (h : Holdings) (rs : Records) (id : ℕ) (r : Recorded) : Type 0 where
  pub there : record_at rs id ≡ Some r
  pub present : Option Version
  pub is_present : IsPresent h r.name present
  pub current : is_stale present r ≡ false
  pub judges : Judges (option_map meaning_of present) r.log r.verdict

-- a record that is stale under the present version of its protocol
pub record IsOutdated (h : Holdings) (r : Recorded) : Type 0 where
  pub lawful : IsLawful r
  pub present : Option Version
  pub is_present : IsPresent h r.name present
  pub outdated : is_stale present r ≡ true

-- the record of the id that is not stale, if it has one
abbrev pub FindsUnstale : Holdings → Records → ℕ → Option (Bor Recorded) → Type 0
FindsUnstale h rs id None = (r : Recorded) → record_at rs id ≡ Some r → IsOutdated h r
FindsUnstale h rs id (Some r) = IsUnstale h rs id r.now
