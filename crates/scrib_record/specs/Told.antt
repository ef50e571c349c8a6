-- What the calls of a record return and change (this project's own).
use Rattle.std.specs.Prelude.{◌≡◌, ◌⊎◌, ℕ, ◌+◌, ◌<◌, ◌≤◌, true, false, [], ◌∷◌, ◌++◌, length, Option, IsSome, if◌then◌else◌}
use Rattle.std.specs.Option.{option_map}
use Rattle.scrib_types.specs.declared.event.Event.{Event}
use Rattle.scrib_types.specs.declared.event.Told.{Told}
use Rattle.scrib_types.specs.declared.event.Told.TheVariants.{Stale, Judged}
use Rattle.scrib_types.specs.declared.event.Verdict.TheVariants as verdict
use Rattle.scrib_types.specs.Judgement.{Judges}
use Rattle.scrib_record.specs.declared.answer.Answer.{Answer}
use Rattle.scrib_record.specs.declared.answer.Answer.TheVariants as answer
use Rattle.scrib_record.specs.declared.fault.NoteFault.{NoteFault}
use Rattle.scrib_record.specs.declared.fault.NoteFault.TheVariants.{LogFull, OutOfMemory}
use Rattle.scrib_record.specs.declared.version.Version.{Version}
use Rattle.scrib_record.specs.Stale.{Recorded, is_stale, is_present}
use Rattle.scrib_record.specs.Versions.{meaning_of, AreOfOneStamp}

-- `Stale` exactly where the record is stale, and otherwise the verdict on the whole log under the present version
abbrev pub IsReported : Option Version → Recorded → Told → Type 0
IsReported present r Stale = is_stale present r ≡ true
IsReported present r (Judged v) =
    (is_stale present r ≡ false) × (v ≡ r.verdict) × Judges (option_map meaning_of present) r.log v

-- the same, borrowed
abbrev pub IsReportedAnswer : Option Version → Recorded → Answer → Type 0
IsReportedAnswer present r answer.Stale = is_stale present r ≡ true
IsReportedAnswer present r answer.Permitted =
    (is_stale present r ≡ false) × (r.verdict ≡ verdict.Permitted)
    × Judges (option_map meaning_of present) r.log verdict.Permitted
IsReportedAnswer present r (answer.Offence place role allowed) =
    let v = verdict.Offence place role.now allowed.now in
    (is_stale present r ≡ false) × (r.verdict ≡ v) × Judges (option_map meaning_of present) r.log v
IsReportedAnswer present r answer.Withdrawn =
    (is_stale present r ≡ false) × (r.verdict ≡ verdict.Withdrawn)
    × Judges (option_map meaning_of present) r.log verdict.Withdrawn

-- the reason for which a note is refused: the log is full, or otherwise memory was refused
abbrev pub NoteFails : Recorded → NoteFault → Type 0
NoteFails r LogFull = 1048576 ≤ length r.log
NoteFails r OutOfMemory = length r.log < 1048576

-- A note appends the event. A record that is not stale stays so. A stale one keeps its judgement.
pub record IsNoted (present : Option Version) (old : Recorded) (e : Event) (new : Recorded)
    (answer : Told) : Type 0 where
  pub name : new.name ≡ old.name
  pub log : new.log ≡ old.log ++ e ∷ []
  pub held : new.held ≡ old.held
  pub stale : is_stale present new ≡ is_stale present old
  pub kept : is_stale present old ≡ true → (new.judged ≡ old.judged) × (new.verdict ≡ old.verdict)
  pub told : IsReported present new answer

-- the number of events that are judged under the present version
abbrev pub judged_under : Option Version → Recorded → ℕ
judged_under present r = if is_present present r.held then r.judged else 0

-- A turn leaves a record that is not stale unchanged. Afterwards a stale one holds the present version, if there is
-- one. It is no longer stale, or 256 more events are judged under that version. No more than these are judged.
pub record IsTurned (now : Option Version) (old new : Recorded) (answer : Told) : Type 0 where
  pub fresh : is_stale now old ≡ false → new ≡ old
  pub name : new.name ≡ old.name
  pub log : new.log ≡ old.log
  pub present : is_present now new.held ≡ true
  pub stamp : AreOfOneStamp now new.held
  pub further : (is_stale now new ≡ false) ⊎ (new.judged ≡ judged_under now old + 256)
  pub most : IsSome now → new.judged ≤ judged_under now old + 256
  pub told : IsReported now new answer
