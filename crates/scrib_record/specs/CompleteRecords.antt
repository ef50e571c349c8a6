-- Complete records, and the verdict on a whole log (this project's own).
use Rattle.std.specs.Prelude.{◌≡◌, ◌↔◌, ℕ, true, List, length, Option, Some, IsTrue}
use Rattle.std.specs.Option.{option_map}
use Rattle.scrib_types.specs.declared.event.Event.{Event}
use Rattle.scrib_types.specs.declared.event.Verdict.{Verdict}
use Rattle.scrib_types.specs.declared.event.Verdict.TheVariants.{Permitted}
use Rattle.scrib_types.specs.Agreement.{Agreement}
use Rattle.scrib_types.specs.Judgement.{Judges}
use Rattle.scrib_types.specs.WellFormed.{has_role}
use Rattle.scrib_record.specs.declared.version.Version.{Version}
use Rattle.scrib_record.specs.declared.whole_verdict.WholeVerdict.{WholeVerdict}
use Rattle.scrib_types.specs.Complete.{HasEnded, IsComplete}
use Rattle.scrib_record.specs.Stale.{Recorded}
use Rattle.scrib_record.specs.Versions.{meaning_of}

-- each declared role is at its end
abbrev pub HaveEnded : Agreement → List Event → Type 0
HaveEnded a log = (r : List ℕ) → has_role r a.roles ≡ true → HasEnded a log r

-- the verdict is `Permitted`, and the log is complete under this meaning
abbrev pub IsCompleteUnder : Option Agreement → List Event → Verdict → Type 0
IsCompleteUnder (Some a) log Permitted = IsComplete a log
IsCompleteUnder _ log _ = ⊥

-- a version is held, the verdict on so many events is `Permitted`, and they are all events of a complete log
abbrev pub IsCompleteWith : Option Version → List Event → Verdict → (judged : ℕ) → Type 0
IsCompleteWith held log v judged = (judged ≡ length log) × IsCompleteUnder (option_map meaning_of held) log v

-- the record holds a version, its verdict is `Permitted` on its whole log, and the log is complete under that version
abbrev pub IsCompleteRecord : Recorded → Type 0
IsCompleteRecord r = IsCompleteWith r.held r.log r.verdict r.judged

-- The verdict on the whole log under the version, or withdrawn where there is none. `complete` is true exactly where the
-- verdict is `Permitted` and the log is complete.
pub record IsWholeVerdict (present : Option Version) (log : List Event) (whole : WholeVerdict) : Type 0 where
  pub judges : Judges (option_map meaning_of present) log whole.verdict
  pub complete : IsTrue whole.complete ↔ IsCompleteUnder (option_map meaning_of present) log whole.verdict
