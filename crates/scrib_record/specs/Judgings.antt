-- What a record keeps of the judged events. Only contracts of private functions cite this file.
use Rattle.std.specs.Prelude.{◌≡◌, ◌⊎◌, ℕ, true, ◌+◌, ◌-◌, ◌<◌, ◌≤◌, List, [], ◌∷◌, ◌++◌, length, take, slice_get, Option, Some, None, IsSome, if◌then◌else◌}
use Rattle.scrib_types.specs.declared.event.Event.{Event}
use Rattle.scrib_types.specs.declared.event.Told.{Told}
use Rattle.scrib_types.specs.declared.event.Told.TheVariants.{Judged, Stale}
use Rattle.scrib_types.specs.declared.event.Verdict.{Verdict}
use Rattle.scrib_types.specs.declared.event.Verdict.TheVariants.{Permitted, Offence, Withdrawn}
use Rattle.scrib_types.specs.Agreement.{Agreement}
use Rattle.scrib_types.specs.Judgement.{IsOffence}
use Rattle.scrib_types.specs.Permitted.{IsPermitted}
use Rattle.scrib_record.specs.declared.configuration.Configuration.{Configuration}
use Rattle.scrib_record.specs.declared.judging.Halt.{Halt}
use Rattle.scrib_record.specs.declared.judging.Halt.TheVariants.{AtEnd, Refused, NoMemory}
use Rattle.scrib_record.specs.declared.judging.Judging.{Judging}
use Rattle.scrib_record.specs.declared.version.Version.{Version}
use Rattle.scrib_record.specs.Configurations.{LeadsTo}
use Rattle.scrib_record.specs.Following.{MayFollow}
use Rattle.scrib_record.specs.Stale.{is_present, is_final}
use Rattle.scrib_record.specs.Versions.{meaning_of}

-- the log and each of its prefixes are permitted
abbrev pub IsPermittedThroughout : Agreement → List Event → Type 0
IsPermittedThroughout a log = (n : ℕ) → n ≤ length log → IsPermitted a (take n log)

-- The log leads to the configuration while it is permitted. Otherwise the verdict is its first offence, and the events
-- before that lead to the configuration.
abbrev pub Keeps : Option Version → List Event → Verdict → Configuration → Type 0
Keeps None log Withdrawn c = Unit {0}
Keeps (Some v) log Permitted c = LeadsTo (meaning_of v) v.machines log c × IsPermittedThroughout (meaning_of v) log
Keeps (Some v) log (Offence place role allowed) c =
    IsOffence (meaning_of v) log place role allowed × LeadsTo (meaning_of v) v.machines (take (place - 1) log) c
Keeps _ log _ c = ⊥

-- What is kept of the log: the verdict on the judged events, and the configuration that `reached` events lead to. These
-- are the judged events, and up to 256 more after a turn that ran out of memory.
pub record IsKept (log : List Event) (j : Judging) : Type 0 where
  pub within : j.reached ≤ length log
  pub behind : j.judged ≤ j.reached
  pub hint : j.reached ≤ j.judged + 256
  pub together : (j.verdict ≡ Permitted) ⊎ (j.judged ≡ j.reached)
  pub keeps : Keeps j.held (take j.reached log) j.verdict j.configuration

-- the same judgement of the same events
pub record IsSameJudging (old new : Judging) : Type 0 where
  pub held : new.held ≡ old.held
  pub judged : new.judged ≡ old.judged
  pub verdict : new.verdict ≡ old.verdict

-- what is kept of a log within its limit
pub record IsKeptWhole (log : List Event) (j : Judging) : Type 0 where
  pub kept : IsKept log j
  pub bounded : length log ≤ 1048576

-- the event after the log is judged, and the verdict is returned
pub record IsJudgedOn (log : List Event) (e : Event) (old new : Judging) (answer : Told) : Type 0 where
  pub kept : IsKept (log ++ e ∷ []) new
  pub held : new.held ≡ old.held
  pub whole : is_final new.verdict new.judged (length log + 1) ≡ true
  pub told : answer ≡ Judged new.verdict

-- the result for a verdict on so many of this many events, under the present version
abbrev pub verdict_of : Verdict → (judged events : ℕ) → Told
verdict_of v judged events = if is_final v judged events then Judged v else Stale

-- the verdict is on the whole log, or on exactly 256 more events, and it is returned
pub record IsFurther (log : List Event) (old new : Judging) (answer : Told) : Type 0 where
  pub kept : IsKept log new
  pub held : new.held ≡ old.held
  pub further : (is_final new.verdict new.judged (length log) ≡ true) ⊎ (new.judged ≡ old.judged + 256)
  pub most : new.judged ≤ old.judged + 256
  pub told : answer ≡ verdict_of new.verdict new.judged (length log)

-- the judgement after a turn, and its result
pub record IsTurnedTo (present : Option Version) (log : List Event) (old new : Judging) (answer : Told) : Type 0 where
  pub kept : IsKept log new
  pub held : is_present present new.held ≡ true
  pub further : (is_final new.verdict new.judged (length log) ≡ true)
      ⊎ (new.judged ≡ (if is_present present old.held then old.judged else 0) + 256)
  pub most : IsSome present → new.judged ≤ (if is_present present old.held then old.judged else 0) + 256
  pub told : answer ≡ verdict_of new.verdict new.judged (length log)

-- so many of the events may follow the log, one after another, and lead to the configuration
pub record Runs (v : Version) (log events : List Event) (c : Configuration) (n : ℕ) : Type 0 where
  pub led_to : LeadsTo (meaning_of v) v.machines (log ++ take n events) c
  pub permitted : IsPermittedThroughout (meaning_of v) log → IsPermittedThroughout (meaning_of v) (log ++ take n events)

-- the reason for which a run of events ended after so many of them: its end, an event that may not follow, or refused
-- memory
abbrev pub Halts : Version → List Event → Configuration → ℕ → Halt → Type 0
Halts v events c n AtEnd = n ≡ length events
Halts v events c n Refused =
    (n < length events)
    × ((log : List Event) → LeadsTo (meaning_of v) v.machines log c → (e : Event) → slice_get events n ≡ Some e
    → MayFollow (meaning_of v) (log ++ take n events) e → ⊥)
Halts v events c n NoMemory = Unit {0}

-- so many of the events may follow each log that leads to the old configuration
pub record RunsFrom (v : Version) (events : List Event) (old new : Configuration) (n : ℕ) (halt : Halt) : Type 0 where
  pub within : n ≤ length events
  pub runs : (log : List Event) → LeadsTo (meaning_of v) v.machines log old → Runs v log events new n
  pub halts : Halts v events old n halt

-- the verdict at this place on each log that leads to the configuration, where the event may not follow it
abbrev pub IsRefusal : Version → Configuration → ℕ → Event → Verdict → Type 0
IsRefusal v c place e verdict =
    (log : List Event) → LeadsTo (meaning_of v) v.machines log c → IsPermittedThroughout (meaning_of v) log
    → place ≡ length log + 1 → (MayFollow (meaning_of v) log e → ⊥) → Keeps (Some v) (log ++ e ∷ []) verdict c
