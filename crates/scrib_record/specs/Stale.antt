-- Records of conversations, and when one is stale (this project's own).
use Rattle.std.specs.Prelude.{ℕ, Bool, true, false, ◌&&◌, not, ◌==◌, ◌≤◌, nat_le, List, length, take, Option, Some, None}
use Rattle.std.specs.Option.{option_map}
use Rattle.std.specs.Str.{bytes_eq}
use Rattle.scrib_types.specs.declared.event.Event.{Event}
use Rattle.scrib_types.specs.declared.event.Verdict.{Verdict}
use Rattle.scrib_types.specs.declared.event.Verdict.TheVariants.{Permitted, Offence, Withdrawn}
use Rattle.scrib_types.specs.Judgement.{Judges}
use Rattle.scrib_record.specs.declared.version.Version.{Version}
use Rattle.scrib_record.specs.Flat.{flat_form}
use Rattle.scrib_record.specs.Versions.{meaning_of, number_of}

-- whether the stamps are equal: the numbers are, and the meanings, by their flat forms
abbrev pub same_stamp : Version → Version → Bool
same_stamp v w = (number_of v == number_of w) && bytes_eq (flat_form (meaning_of v)) (flat_form (meaning_of w))

-- whether the held version is the present one, or there is neither
abbrev pub is_present : Option Version → Option Version → Bool
is_present None None = true
is_present None (Some w) = false
is_present (Some v) None = false
is_present (Some v) (Some w) = same_stamp v w

-- whether the verdict on so many events is that on the whole log, of this length: an offence stays the first
abbrev pub is_final : Verdict → ℕ → ℕ → Bool
is_final Permitted judged events = nat_le events judged
is_final (Offence place role allowed) judged events = true
is_final Withdrawn judged events = true

-- The value of a record: the full name of its protocol, its log, the number of judged events, and the verdict on them.
-- It also has the version under which they were judged, or none if they were judged withdrawn.
pub record Recorded : Type 0 where
  pub name : List (List ℕ)
  pub log : List Event
  pub held : Option Version
  pub judged : ℕ
  pub verdict : Verdict

-- whether the verdict is stale, under the present version of the protocol, if there is one
abbrev pub is_stale : Option Version → Recorded → Bool
is_stale present r = not (is_present present r.held && is_final r.verdict r.judged (length r.log))

-- lawful: the verdict is that of judging the judged events under the held version
pub record IsLawful (r : Recorded) : Type 0 where
  pub within : r.judged ≤ length r.log
  pub judges : Judges (option_map meaning_of r.held) (take r.judged r.log) r.verdict
