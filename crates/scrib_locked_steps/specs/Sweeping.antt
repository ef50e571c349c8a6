-- Conversations with stale verdicts, and sweeps, which leave none (this project's own).
use Rattle.std.specs.Prelude.{◌≡◌, ◌⊎◌, ℕ, zero, suc, Bool, true, false, nat_eq, List, length, Option, Some, None, All, Contains}
use Rattle.std.specs.List.{filter}
use Rattle.std.specs.List.Sorted.{IsStrictlyIncreasing}
use Rattle.std.specs.Map.{keys_of, set_value}
use Rattle.scrib_types.specs.declared.event.Told.{Told}
use Rattle.scrib_record.specs.declared.comparison.Comparison.{Comparison}
use Rattle.scrib_record.specs.declared.version.Version.{Version}
use Rattle.scrib_record.specs.Comparisons.{ServesFor}
use Rattle.scrib_record.specs.Stale.{Recorded, IsLawful, is_stale}
use Rattle.scrib_record.specs.Told.{IsTurned}
use Rattle.scrib_library.specs.Holdings.{Holdings}
use Rattle.scrib_core.specs.Held.{Records, record_at}
use Rattle.scrib_core.specs.ConversationSteps.{IsPresent}
use Rattle.scrib_locked_steps.specs.Locked.{IsTurnedFor}

-- the record is stale under the present version of its name, if there is one
abbrev pub IsStaleNow : Holdings → Recorded → Type 0
IsStaleNow h r = (present : Option Version) × IsPresent h r.name present × (is_stale present r ≡ true)

-- the record is fresh under the present version of its name, if there is one
abbrev pub IsFreshNow : Holdings → Recorded → Type 0
IsFreshNow h r = (present : Option Version) × IsPresent h r.name present × (is_stale present r ≡ false)

-- the record exists and is stale under this version, or under none
abbrev pub is_stale_of : Option Version → Option Recorded → Bool
is_stale_of present None = false
is_stale_of present (Some r) = is_stale present r

-- the ids whose record is stale under this version, or under none
abbrev pub stale_ids_of : Option Version → Records → List ℕ → List ℕ
stale_ids_of present rs ids = filter (λ id. is_stale_of present (record_at rs id)) ids

-- the record of the id is stale
abbrev pub IsStaleAt : Holdings → Records → ℕ → Type 0
IsStaleAt h rs id = (r : Recorded) × (record_at rs id ≡ Some r) × IsStaleNow h r

-- the ids of exactly the stale records, rising
pub record AreStaleIds (h : Holdings) (rs : Records) (ids : List ℕ) : Type 0 where
  pub rise : IsStrictlyIncreasing ids
  pub stale : All (IsStaleAt h rs) ids
  pub others : (id : ℕ) (r : Recorded) → record_at rs id ≡ Some r → Contains ids id ⊎ IsFreshNow h r

-- how many records are stale
abbrev pub IsStaleCount : Holdings → Records → ℕ → Type 0
IsStaleCount h rs n = (ids : List ℕ) × AreStaleIds h rs ids × (n ≡ length ids)

-- the record of the id is fresh
abbrev pub IsFreshAt : Holdings → Records → ℕ → Type 0
IsFreshAt h rs id = (r : Recorded) → record_at rs id ≡ Some r → IsFreshNow h r

-- the record has the name and the log of the one under the id
abbrev pub IsSameAt : Records → ℕ → Recorded → Type 0
IsSameAt old id r = (q : Recorded) × (record_at old id ≡ Some q) × (r.name ≡ q.name) × (r.log ≡ q.log)

-- the same conversations, in the same order, with the same names and logs
pub record AreSame (old new : Records) : Type 0 where
  pub ids : keys_of new ≡ keys_of old
  pub each : (id : ℕ) (r : Recorded) → record_at new id ≡ Some r → IsSameAt old id r

-- the same, and each record other than that of this id is unchanged
pub record AreSameBut (id : ℕ) (old new : Records) : Type 0 where
  pub same : AreSame old new
  pub others : (j : ℕ) → (id ≡ j → ⊥) → record_at new j ≡ record_at old j

-- the stale record of some id made a turn
pub record IsStaleTurn (h : Holdings) (old new : Records) : Type 0 where
  pub id : ℕ
  pub answer : Told
  pub turned : IsTurnedFor h old id answer new
  pub stale : is_stale turned.2.present turned.2.before ≡ true

-- the record of the id exists, and the comparison is correct for its version and this one, if there is one
abbrev pub IsServedAt : Comparison → Option Version → Records → ℕ → Type 0
IsServedAt c present rs id = (r : Recorded) × (record_at rs id ≡ Some r) × ServesFor c present r.held

-- the record of the id makes a turn under this version, or under none
pub record IsTurnedUnder (present : Option Version) (old : Records) (id : ℕ) (answer : Told)
    (new : Records) : Type 0 where
  pub before : Recorded
  pub there : record_at old id ≡ Some before
  pub after : Recorded
  pub turned : IsTurned present before after answer
  pub lawful : IsLawful after
  pub put : new ≡ set_value (nat_eq id) old after

-- so many turns, one after another, each of a stale record
abbrev pub AreTurns : Holdings → ℕ → Records → Records → Type 0
AreTurns h zero old new = new ≡ old
AreTurns h (suc n) old new = (between : Records) × AreTurns h n old between × IsStaleTurn h between new

-- any number of such turns
abbrev pub AreSomeTurns : Holdings → Records → Records → Type 0
AreSomeTurns h old new = (n : ℕ) × AreTurns h n old new

-- after a sweep no record is stale, and the conversations are the same
pub record AreSwept (h : Holdings) (old new : Records) : Type 0 where
  pub same : AreSame old new
  pub fresh : (id : ℕ) → IsFreshAt h new id
