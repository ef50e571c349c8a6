-- The labels that are kept of entries (this project's own). Only contracts of private functions cite this file.
use Rattle.std.specs.Prelude.{◌≡◌, ◌≤◌, ℕ, List, [], Vec, Option, option_map, nat_eq, string_bytes, Some}
use Rattle.std.specs.Global.{Global}
use Rattle.indexmap.specs.IndexMap.{get}
pub use Rattle.scrib_report.specs.PutBack.{bytes_of}
pub use Rattle.scrib_labelled.specs.NamedLines.{session_of}
use Rattle.scrib_labelled.specs.LabelledLines.{LineLabel}
use Rattle.scrib_held_labels.specs.declared.waiting_labels.KeptLabel.{KeptLabel}
use Rattle.scrib_held_labels.specs.declared.waiting_labels.KeptSession.{KeptSession}
use Rattle.scrib_held_labels.specs.declared.waiting_labels.WaitingLabels.{WaitingLabels}

-- the bytes of a tag that is kept, if there is one
abbrev pub bytes_kept : Option (Vec ℕ Global) → Option (List ℕ)
bytes_kept tag = option_map (λ t. t.items) tag

-- the session that is kept, if there is one
abbrev pub session_kept : Option KeptSession → Option (List ℕ × ℕ)
session_kept session = option_map (λ s. (string_bytes s.name, s.number)) session

-- the label without the bytes of its line
abbrev pub without_text : LineLabel → LineLabel
without_text label = record label { text = [] }

-- the label that is kept, without the bytes of its line
abbrev pub label_kept : KeptLabel → LineLabel
label_kept kept =
    record { line = kept.line; text = []; tag = bytes_kept kept.tag; session = session_kept kept.session }

-- the label of the entry of this number, if it is kept
abbrev pub kept_at : WaitingLabels → ℕ → Option KeptLabel
kept_at waiting n = get nat_eq waiting.kept n

-- the labels that are kept are those of their entries, without the bytes of the lines
abbrev pub AreOf : WaitingLabels → (labels : ℕ → LineLabel) → Type 0
AreOf waiting labels =
    (n : ℕ) (kept : KeptLabel) → kept_at waiting n ≡ Some kept → label_kept kept ≡ without_text (labels n)

-- labels are kept of entries with numbers up to this alone
abbrev pub AreWithin : WaitingLabels → (count : ℕ) → Type 0
AreWithin waiting count = (n : ℕ) (kept : KeptLabel) → kept_at waiting n ≡ Some kept → n ≤ count
