-- What the sink of lines writes (this project's own). Only contracts of private functions cite this file.
use Rattle.std.specs.Prelude.{◌≡◌, ℕ, ◌≤◌, Bool, List, Some, Vec, length}
use Rattle.std.specs.Global.{Global}
use Rattle.scrib_script_reader.specs.declared.item.Item.{Item}
use Rattle.scrib_labelled.specs.LabelledEntries.{LabelledEntry}
use Rattle.scrib_hold_labelled.specs.declared.waiting_lines.KeptLines.{KeptLines}
use Rattle.scrib_hold_labelled.specs.declared.line_sink.LineSink.{LineSink}
use Rattle.scrib_hold_labelled.specs.WaitingLines.{AreOf, AreWithin, IsOneLineAt, kept_at}
use Rattle.scrib_hold_labelled.specs.WrittenLines.{entry_at, entry_lines}

-- the lines that are not written yet
abbrev pub gathered_in : LineSink → List ℕ
gathered_in s = s.gathered.bytes.items

-- the lines of entry n were written, where these are the entries
pub record WritesEntry (objects : Bool) (entries : List LabelledEntry) (n : ℕ) (more : List ℕ) : Type 0 where
  pub within : n ≤ length entries
  pub one_line : IsOneLineAt entries n
  pub lines : more ≡ entry_lines objects (entry_at entries n)

-- the same, whatever the entries are, where the lines that are kept are theirs
pub record CarriesLines (old new : LineSink) (n : ℕ) (i : Item) (more : List ℕ) : Type 0 where
  pub written : (objects : Bool) (entries : List LabelledEntry) → AreWithin old.waiting (length entries)
      → AreOf old.waiting objects entries → WritesEntry objects entries n more
  pub fewer : (m : ℕ) (kept : KeptLines) → kept_at new.waiting m ≡ Some kept → kept_at old.waiting m ≡ Some kept
