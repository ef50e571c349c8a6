-- The contents of a core, the world and the marks that they determine, and what a view shows (this project's own).
use Rattle.std.specs.Prelude.{◌≡◌, ◌==◌, ℕ, ◌/◌, ◌<◌, cond, if◌then◌else◌, List, [], ◌∷◌, map, length, slice_get, Option, Some, None, nat_eq}
use Rattle.std.specs.Map.{lookup}
use Rattle.std.specs.Option.{option_map}
use Rattle.std.specs.Borrow.{Bor}
use Rattle.scrib_types.specs.declared.event.Event.{Event}
use Rattle.scrib_types.specs.declared.event.Verdict.{Verdict}
use Rattle.scrib_types.specs.declared.protocol.Protocol.{Protocol}
use Rattle.scrib_types.specs.Meaning.{agreement_of}
use Rattle.scrib_static_checks.specs.Names.{dotted_eq}
use Rattle.scrib_record.specs.declared.version.Version.{Version}
use Rattle.scrib_record.specs.Stale.{Recorded, is_final}
use Rattle.scrib_record.specs.Versions.{meaning_of, number_of}
use Rattle.scrib_library.specs.Holdings.{Stamp, Holdings, HasNumber}
use Rattle.scrib_library.specs.Modules.{Means, IsMeaning}
use Rattle.scrib_core.specs.declared.step.Step.{Step}
use Rattle.scrib_core.specs.declared.reply.Reply.{Reply}
use Rattle.scrib_core.specs.declared.reply.Reply.TheVariants as reply
use Rattle.scrib_core.specs.World.{World, Conversation, conversation}
use Rattle.scrib_core.specs.Marks.{Mark, Marks, Fresh, Stale}
use Rattle.scrib_core.specs.Answers.{State, IsAnswered, IsDue}

-- the records of the conversations by id, in the order of opening until one is closed
abbrev pub Records : Type 0
Records = List (ℕ × Recorded)

-- the contents of a core as contracts see them: the library's holdings and the records
pub record Held : Type 0 where
  pub library : Holdings
  pub records : Records

-- a refusal leaves the contents unchanged
abbrev pub LeavesRefused : Reply → (old new : Held) → Type 0
LeavesRefused (reply.Refused f) old new = new ≡ old
LeavesRefused _ old new = Unit {0}

-- the record of the id, if it exists
abbrev pub record_at : Records → ℕ → Option Recorded
record_at rs id = lookup (nat_eq id) rs

-- the record at the index, from 0, has the id
abbrev pub IsRecordAt : Records → (at id : ℕ) → Type 0
IsRecordAt rs at id = (r : Recorded) × (slice_get rs at ≡ Some (id, r))

-- the conversation of a record: its name and its log
abbrev pub conversation_of : Recorded → Conversation
conversation_of r = record { name = r.name; log = r.log }

-- the world that the holdings and the records determine
abbrev pub world_of : Holdings → Records → World
world_of h rs =
    record {
      profile = h.profile;
      modules = h.modules;
      used = h.used;
      conversations = map (λ e. (e.0, conversation_of e.1)) rs;
    }

-- the number of the name's version, if it has one
abbrev pub number_at : List Stamp → List (List ℕ) → Option ℕ
number_at [] name = None
number_at (s ∷ ss) name = cond (dotted_eq name s.name) (Some s.number) (number_at ss name)

-- The mark of a record, from the present version number, the held one, the verdict, and the counts of judged and all
-- events. A turn judges 256 events, so the judged events count the turns since the name changed.
abbrev pub mark : (present held : Option ℕ) → Verdict → (judged events : ℕ) → Mark
mark None None verdict judged events = Fresh
mark None (Some l) verdict judged events = Stale 0
mark (Some k) None verdict judged events = Stale 0
mark (Some k) (Some l) verdict judged events =
    if k == l then (if is_final verdict judged events then Fresh else Stale (judged / 256)) else Stale 0

-- the number of the version that the record holds, if any
abbrev pub held_number : Recorded → Option ℕ
held_number r = option_map number_of r.held

-- the mark of the record, read off the version numbers
abbrev pub mark_of : Holdings → Recorded → Mark
mark_of h r = mark (number_at h.stamps r.name) (held_number r) r.verdict r.judged (length r.log)

-- the mark of the record, if it exists
abbrev pub mark_at : Holdings → Option Recorded → Mark
mark_at h None = Fresh
mark_at h (Some r) = mark_of h r

-- the mark of each conversation
abbrev pub marks_of : Holdings → Records → Marks
marks_of h rs id = mark_at h (record_at rs id)

-- the state that the holdings and the records determine
abbrev pub state : Holdings → Records → State
state h rs = record { world = world_of h rs; marks = marks_of h rs }

-- the state that the contents of a core determine
abbrev pub state_of : Held → State
state_of c = state c.library c.records

-- Answered, with the contents after each step. `OutOfMemory` is the reply only if no other refusal applies, and a
-- refused step leaves the contents unchanged.
abbrev pub AnswersHeld : Held → List Step → List Reply → Held → Type 0
AnswersHeld c [] [] d = d ≡ c
AnswersHeld c (step ∷ steps) (r ∷ rs) d =
    (u : Held) × IsAnswered (state_of c) step r (state_of u) × IsDue (state_of c).world step r × LeavesRefused r c u
    × AnswersHeld u steps rs d
AnswersHeld c _ _ d = ⊥

-- The number of the held version was used. If some name has this number now, it is the record's name, and its meaning
-- is that of the held version.
pub record IsKnown (h : Holdings) (r : Recorded) : Type 0 where
  pub used : (v : Version) → r.held ≡ Some v → number_of v < h.used
  pub named : (v : Version) → r.held ≡ Some v → (name : List (List ℕ)) → HasNumber h name (number_of v) → name ≡ r.name
  pub means : (v : Version) → r.held ≡ Some v → HasNumber h r.name (number_of v) → Means h.modules r.name (meaning_of v)

-- each record is known in this sense
abbrev pub AreKnown : Holdings → Records → Type 0
AreKnown h rs = (id : ℕ) (r : Recorded) → record_at rs id ≡ Some r → IsKnown h r

-- none if no conversation is open under the id; else the present meaning of its protocol, and its log
abbrev pub IsViewed : World → ℕ → Option (Option (Bor Protocol) × Bor (List Event)) → Type 0
IsViewed w id None = conversation w id ≡ None
IsViewed w id (Some v) =
    (c : Conversation) × (conversation w id ≡ Some c)
    × IsMeaning w.modules c.name (option_map (λ p. agreement_of p.now) v.0) × (v.1.now ≡ c.log)
