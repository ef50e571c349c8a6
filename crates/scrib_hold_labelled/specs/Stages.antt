-- What a stage that writes lines anew has taken (this project's own). Only contracts of private functions cite this
-- file.
use Rattle.std.specs.Prelude.{◌≡◌, ◌≤◌, ℕ, ◌+◌, Bool, List, [], ◌∷◌, ◌++◌, length, Some}
use Rattle.std.specs.List.{AllByRecursion}
use Rattle.scrib_script_reader.specs.declared.entry.Entry.{Entry}
use Rattle.scrib_script_reader.specs.declared.entry.Entry.TheVariants as entry
use Rattle.scrib_script_reader.specs.declared.item.Item.TheVariants as item
use Rattle.scrib_script_reader.specs.Scripts.{NoLf}
use Rattle.scrib_hold_stage.specs.declared.stage.Counts.{Counts}
use Rattle.scrib_hold.specs.HeldMonitors.{HasNoneLeft, HasTaken}
use Rattle.scrib_hold.specs.NumberedItems.{AreAllItems, AreFirstItems, Numbered}
use Rattle.scrib_labels.specs.Naming.{number_of}
use Rattle.scrib_labelled.specs.LabelledEntries.{LabelledEntry}
use Rattle.scrib_labelled.specs.LabelledLines.{LineLabel}
use Rattle.scrib_labelled.specs.LabelledRuns.{Naming}
use Rattle.scrib_held_labels.specs.HeldLabels.{IsNextNumber}
use Rattle.scrib_held_labels.specs.HeldRuns.{plain}
use Rattle.scrib_hold_labelled.specs.declared.line_stage.LineStage.{LineStage}
use Rattle.scrib_hold_labelled.specs.HeldLabelledScripts.{Names}
use Rattle.scrib_hold_labelled.specs.Sinks as sinks
use Rattle.scrib_hold_labelled.specs.WaitingLines.{AreOf, AreWithin, IsOneLineAt}
use Rattle.scrib_hold_labelled.specs.WrittenLines.{end_lines, lines_at}

-- the bound of a stage
abbrev pub bound_of : LineStage → ℕ
bound_of s = s.held.stage.bound

-- the numbers of names
abbrev pub naming_of : LineStage → Naming
naming_of s = number_of s.names

-- the lines that are not written yet
abbrev pub gathered_in : LineStage → List ℕ
gathered_in s = sinks.gathered_in s.held.sink

-- nothing is left of the conversation
abbrev pub HasGone : LineStage → ℕ → Type 0
HasGone s id = HasNoneLeft id s.held

-- what is read of the line of this entry is one line, if the entry is an end inside a module text
abbrev pub EndsInOneLine : LabelledEntry → Type 0
EndsInOneLine (label, entry.Item item.EndOfText) = NoLf label.text
EndsInOneLine (label, entry.Item (item.Step f s)) = Unit {0}
EndsInOneLine (label, entry.Item (item.Sweep f)) = Unit {0}
EndsInOneLine (label, entry.Item (item.BadLine n)) = Unit {0}
EndsInOneLine (label, entry.Skipped) = Unit {0}

-- what is read of the line of the entry of this number is one line, and there is such an entry
abbrev pub IsWritten : List LabelledEntry → Numbered → Type 0
IsWritten entries x = (x.0 ≤ length entries) × IsOneLineAt entries x.0

-- since it was new the stage took these entries, and let these items out, whose lines are the output
pub record HasWritten (first now : LineStage) (entries : List LabelledEntry) (numbered : List Numbered)
    (out : List ℕ) : Type 0 where
  pub objects : now.objects ≡ first.objects
  pub taken : HasTaken (bound_of first) now.held (plain entries) numbered
  pub within : AreWithin now.held.sink.waiting (length entries)
  pub kept : AreOf now.held.sink.waiting first.objects entries
  pub last : now.last.items ≡ end_lines entries
  pub ends : AllByRecursion EndsInOneLine entries
  pub named : Names (bound_of first) entries numbered (naming_of now)
  pub written : AllByRecursion (IsWritten entries) numbered
  pub lines : out ≡ lines_at first.objects entries numbered

-- the same, whichever items
abbrev pub WroteEntries : (first now : LineStage) → List LabelledEntry → (out : List ℕ) → Type 0
WroteEntries first now entries out = (numbered : List Numbered) × HasWritten first now entries numbered out

-- The lines of all items of a script, and the line that the script ends inside a text of. The counts are of its events.
pub record AreAllLines (objects : Bool) (bound : ℕ) (entries : List LabelledEntry) (counts : Counts)
    (output : List ℕ) : Type 0 where
  pub numbered : List Numbered
  pub names : Naming
  pub named : Names bound entries numbered names
  pub last : List Numbered
  pub all : AreAllItems bound (plain entries) counts (numbered ++ last)
  pub ends : AllByRecursion EndsInOneLine entries
  pub written : AllByRecursion (IsWritten entries) (numbered ++ last)
  pub is : output ≡ lines_at objects entries (numbered ++ last) ++ end_lines entries

-- The part is a beginning of the lines of these entries: some first entries are taken, and some first items of those
-- that the others let out are written.
pub record ArePartOfLines (objects : Bool) (bound : ℕ) (entries : List LabelledEntry) (part : List ℕ) : Type 0 where
  pub taken : List LabelledEntry
  pub later : List LabelledEntry
  pub are : entries ≡ taken ++ later
  pub numbered : List Numbered
  pub names : Naming
  pub named : Names bound taken numbered names
  pub number : IsNextNumber names later
  pub given : List Numbered
  pub first : AreFirstItems bound (plain entries) (numbered ++ given)
  pub ends : AllByRecursion EndsInOneLine entries
  pub written : AllByRecursion (IsWritten entries) (numbered ++ given)
  pub rest : List ℕ
  pub begins : lines_at objects entries (numbered ++ given) ++ end_lines entries ≡ part ++ rest

-- the stage took all entries of a script, and gave this output
abbrev pub WroteAll : (first now : LineStage) → List LabelledEntry → (out : List ℕ) → Type 0
WroteAll first now entries out =
    (counts : Counts) × (now.counts ≡ Some counts) × AreAllLines first.objects (bound_of first) entries counts out

-- the output is a beginning of what these entries give
abbrev pub WrotePart : (first : LineStage) → List LabelledEntry → (part : List ℕ) → Type 0
WrotePart first entries part = ArePartOfLines first.objects (bound_of first) entries part

-- the lines of the next entry are kept where they are wanted, and those of other entries are as they were
pub record KeepsLines (old new : LineStage) (label : LineLabel) (e : Entry) : Type 0 where
  pub kept : (bound : ℕ) (entries : List LabelledEntry) (numbered : List Numbered)
      → HasTaken bound old.held (plain entries) numbered
      → AreWithin old.held.sink.waiting (length entries) → AreOf old.held.sink.waiting old.objects entries
      → AreWithin new.held.sink.waiting (length entries + 1)
      × AreOf new.held.sink.waiting old.objects (entries ++ (label, e) ∷ [])
  pub last : (entries : List LabelledEntry) → old.last.items ≡ end_lines entries
      → new.last.items ≡ end_lines (entries ++ (label, e) ∷ [])
  pub one_line : EndsInOneLine (label, e)
