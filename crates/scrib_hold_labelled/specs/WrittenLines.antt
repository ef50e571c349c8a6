-- The lines that are written for the entries of a script with labels (this project's own).
use Rattle.std.specs.Prelude.{ℕ, ◌+◌, Bool, false, true, ◌==◌, ◌||◌, if◌then◌else◌, List, [], ◌∷◌, ◌++◌, codes, nat_eq}
use Rattle.scrib_core.specs.declared.step.Step.{Step}
use Rattle.scrib_core.specs.declared.step.Step.TheVariants.{Put}
use Rattle.scrib_script_reader.specs.declared.entry.Entry.TheVariants as entry
use Rattle.scrib_script_reader.specs.declared.item.Item.{Item}
use Rattle.scrib_script_reader.specs.declared.item.Item.TheVariants as item
use Rattle.scrib_hold.specs.NumberedItems.{Numbered}
use Rattle.scrib_labelled.specs.LabelledEntries.{LabelledEntry}
use Rattle.scrib_labelled.specs.LabelledLines.{LineLabel}
use Rattle.scrib_held_labels.specs.HeldRuns.{no_label}

-- the bytes end with this one
abbrev pub ends_with : ℕ → List ℕ → Bool
ends_with b [] = false
ends_with b (x ∷ []) = x == b
ends_with b (x ∷ y ∷ ys) = ends_with b (y ∷ ys)

-- the line with its end, which leaves its last byte as it is: behind a CR that is CR and LF
abbrev pub ended : List ℕ → List ℕ
ended text = text ++ (if ends_with 13 text then 13 ∷ 10 ∷ [] else 10 ∷ [])

-- the bytes are no line or lines with their ends
abbrev pub are_whole_lines : List ℕ → Bool
are_whole_lines [] = true
are_whole_lines (b ∷ bs) = ends_with 10 (b ∷ bs)

-- what is written behind a module text: its last line, and before it the rest of a line that was cut
abbrev pub tail_of : List ℕ → List ℕ
tail_of text = if are_whole_lines text then codes "%%\n" else codes ".\n%%\n"

-- what is written for a put: its line, and in scripts that are no objects, its text
abbrev pub put_lines : (objects : Bool) → (text put : List ℕ) → List ℕ
put_lines true text put = ended text
put_lines false text put = ended text ++ (put ++ tail_of put)

-- what is written for a step
abbrev pub step_lines : (objects : Bool) → (text : List ℕ) → Step → List ℕ
step_lines objects text (Put put) = put_lines objects text put
step_lines objects text _ = ended text

-- what is written for an item that is let out, of a line of these bytes; an end inside a module text is written last
abbrev pub item_lines : (objects : Bool) → (text : List ℕ) → Item → List ℕ
item_lines objects text (item.Step f s) = step_lines objects text s
item_lines objects text (item.Sweep f) = ended text
item_lines objects text (item.BadLine n) = ended text
item_lines objects text item.EndOfText = []

-- the same of an entry; a line that is skipped is not written
abbrev pub entry_lines : (objects : Bool) → LabelledEntry → List ℕ
entry_lines objects (label, entry.Skipped) = []
entry_lines objects (label, entry.Item i) = item_lines objects label.text i

-- what is written last: the line of a put whose text the script ends in
abbrev pub item_end : (text : List ℕ) → Item → List ℕ
item_end text (item.Step f s) = []
item_end text (item.Sweep f) = []
item_end text (item.BadLine n) = []
item_end text item.EndOfText = ended text

-- the same of an entry
abbrev pub end_line : LabelledEntry → List ℕ
end_line (label, entry.Skipped) = []
end_line (label, entry.Item i) = item_end label.text i

-- the same of entries, one after another
abbrev pub end_lines : List LabelledEntry → List ℕ
end_lines [] = []
end_lines (e ∷ entries) = end_line e ++ end_lines entries

-- entry n, where k is the number of the first; one that is skipped where there is none
abbrev pub entry_from : (k : ℕ) → List LabelledEntry → (n : ℕ) → LabelledEntry
entry_from k [] n = (no_label, entry.Skipped)
entry_from k (e ∷ entries) n = if nat_eq k n then e else entry_from (k + 1) entries n

-- the same, where entries are numbered from 1
abbrev pub entry_at : List LabelledEntry → (n : ℕ) → LabelledEntry
entry_at entries n = entry_from 1 entries n

-- what is written for the entries of these numbers, one after another
abbrev pub lines_at : (objects : Bool) → List LabelledEntry → List Numbered → List ℕ
lines_at objects entries [] = []
lines_at objects entries (x ∷ numbered) =
    entry_lines objects (entry_at entries x.0) ++ lines_at objects entries numbered

-- the item of the entry with its label, if it has one that is let out
abbrev pub item_in : LabelledEntry → List (LineLabel × Item)
item_in (label, entry.Skipped) = []
item_in (label, entry.Item (item.Step f s)) = (label, item.Step f s) ∷ []
item_in (label, entry.Item (item.Sweep f)) = (label, item.Sweep f) ∷ []
item_in (label, entry.Item (item.BadLine n)) = (label, item.BadLine n) ∷ []
item_in (label, entry.Item item.EndOfText) = []

-- the items of the entries of these numbers with their labels, one after another
abbrev pub items_at : List LabelledEntry → List Numbered → List (LineLabel × Item)
items_at entries [] = []
items_at entries (x ∷ numbered) = item_in (entry_at entries x.0) ++ items_at entries numbered

-- the end inside a module text with its label, if the entry is one
abbrev pub end_in : LabelledEntry → List (LineLabel × Item)
end_in (label, entry.Item item.EndOfText) = (label, item.EndOfText) ∷ []
end_in (label, entry.Item (item.Step f s)) = []
end_in (label, entry.Item (item.Sweep f)) = []
end_in (label, entry.Item (item.BadLine n)) = []
end_in (label, entry.Skipped) = []

-- the same of entries
abbrev pub ends_in : List LabelledEntry → List (LineLabel × Item)
ends_in [] = []
ends_in (e ∷ entries) = end_in e ++ ends_in entries
