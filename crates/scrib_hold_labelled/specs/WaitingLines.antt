-- The lines that are kept of entries (this project's own). Only contracts of private functions cite this file.
use Rattle.std.specs.Prelude.{◌≡◌, ◌≤◌, ℕ, Bool, List, Vec, Option, Some, nat_eq}
use Rattle.std.specs.Global.{Global}
use Rattle.indexmap.specs.IndexMap.{get}
use Rattle.scrib_script_reader.specs.Scripts.{NoLf}
use Rattle.scrib_labelled.specs.LabelledEntries.{LabelledEntry}
use Rattle.scrib_hold_labelled.specs.declared.waiting_lines.KeptLines.{KeptLines}
use Rattle.scrib_hold_labelled.specs.declared.waiting_lines.WaitingLines.{WaitingLines}
use Rattle.scrib_hold_labelled.specs.WrittenLines.{entry_at, entry_lines}

-- the lines of the entry of this number, if they are kept
abbrev pub kept_at : WaitingLines → ℕ → Option KeptLines
kept_at waiting n = get nat_eq waiting.kept n

-- what is read of the line of the entry of this number is one line
abbrev pub IsOneLineAt : List LabelledEntry → (n : ℕ) → Type 0
IsOneLineAt entries n = NoLf (entry_at entries n).0.text

-- the lines that are kept are those that are written for their entries
abbrev pub AreOf : WaitingLines → (objects : Bool) → List LabelledEntry → Type 0
AreOf waiting objects entries =
    (n : ℕ) (kept : KeptLines) → kept_at waiting n ≡ Some kept
    → (kept.lines.items ≡ entry_lines objects (entry_at entries n)) × IsOneLineAt entries n

-- lines are kept of entries with numbers up to this alone
abbrev pub AreWithin : WaitingLines → (count : ℕ) → Type 0
AreWithin waiting count = (n : ℕ) (kept : KeptLines) → kept_at waiting n ≡ Some kept → n ≤ count
