-- The event of the offence that a record keeps (this project's own).
use Rattle.std.specs.Prelude.{◌≡◌, ℕ, List, Option, Some, None}
use Rattle.scrib_types.specs.declared.event.Action.{Action}
use Rattle.scrib_types.specs.declared.event.Event.{Event}
use Rattle.scrib_types.specs.declared.event.Verdict.TheVariants.{Offence}
use Rattle.scrib_types.specs.Judgement.{IsOffence}
use Rattle.scrib_record.specs.declared.configuration.Configuration.{Configuration}
use Rattle.scrib_record.specs.declared.refused_event.RefusedEvent.{RefusedEvent}
use Rattle.scrib_record.specs.declared.version.Version.{Version}
use Rattle.scrib_record.specs.Configurations.{LeadsTo}
use Rattle.scrib_record.specs.Stale.{Recorded}
use Rattle.scrib_record.specs.Versions.{meaning_of}

-- The verdict is an offence at this place under this version. This is its event, and the events before it lead to the
-- configuration.
pub record IsRefused (r : Recorded) (v : Version) (c : Configuration) (place : ℕ) (e : Event) : Type 0 where
  pub role : List ℕ
  pub allowed : List Action
  pub verdict : r.verdict ≡ Offence place role allowed
  pub held : r.held ≡ Some v
  pub offence : IsOffence (meaning_of v) r.log place role allowed
  pub event : e ≡ offence.event
  pub leads : LeadsTo (meaning_of v) v.machines offence.before c

-- the event of the record's offence, or none where the verdict is no offence
abbrev pub FindsRefused : Recorded → Option RefusedEvent → Type 0
FindsRefused r None = (place : ℕ) (role : List ℕ) (allowed : List Action) → r.verdict ≡ Offence place role allowed → ⊥
FindsRefused r (Some x) = IsRefused r x.version.now x.configuration.now x.place x.event.now
