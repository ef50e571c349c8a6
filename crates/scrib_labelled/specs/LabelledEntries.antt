-- The entries that a script with labels gives (this project's own).
use Rattle.std.specs.Prelude.{◌≡◌, ◌≢◌, ℕ, ◌+◌, List, [], ◌∷◌, ◌++◌, take, Option, Some, None}
use Rattle.scrib_core.specs.declared.format.Format.{Format}
use Rattle.scrib_core.specs.declared.step.Step.{Step}
use Rattle.scrib_core.specs.declared.step.Step.TheVariants.{Put}
use Rattle.scrib_script_reader.specs.declared.entry.Entry.{Entry}
use Rattle.scrib_script_reader.specs.declared.entry.Entry.TheVariants as entry
use Rattle.scrib_script_reader.specs.declared.item.Item.{Item}
use Rattle.scrib_script_reader.specs.declared.item.Item.TheVariants as item
use Rattle.scrib_script_reader.specs.declared.line.Line.TheVariants as line
use Rattle.scrib_script_reader.specs.Scripts.{bare, empty_text, text_end, with_line}
use Rattle.scrib_labelled.specs.declared.label_options.LabelOptions.{LabelOptions}
use Rattle.scrib_labelled.specs.LabelledLines.{IsLabelAt, IsPutObject, LineLabel}
use Rattle.scrib_labelled.specs.LabelledScripts.{LabelledText, SaysAs}

-- an entry of a script, and the label of the line that gives it or of its put
abbrev pub LabelledEntry : Type 0
LabelledEntry = LineLabel × Entry

-- the item of the entry with its label, if it has one
abbrev pub item_with : LineLabel → Entry → List (LineLabel × Item)
item_with label entry.Skipped = []
item_with label (entry.Item i) = (label, i) ∷ []

-- the items among the entries, with their labels
abbrev pub items_among : List LabelledEntry → List (LineLabel × Item)
items_among [] = []
items_among (e ∷ entries) = item_with e.0 e.1 ++ items_among entries

-- These first lines of a script with labels give these entries: one for each line outside module texts, with its label,
-- and one for each put, with the label of the put's line. A label has the number and the bytes of its line. The next
-- line has this number, outside module texts or after this much of one.
pub data SpellsLabelledEntries (o : LabelOptions)
    : List (List ℕ) → ℕ → Option LabelledText → List LabelledEntry → Type 0 where
  no_line : SpellsLabelledEntries o [] 1 None []
  skips : (ls : List (List ℕ)) (n : ℕ) (entries : List LabelledEntry) (l : List ℕ) (label : LineLabel)
      → SpellsLabelledEntries o ls n None entries → SaysAs o (bare l) label line.Skipped → IsLabelAt o n l label
      → SpellsLabelledEntries o (ls ++ l ∷ []) (n + 1) None (entries ++ (label, entry.Skipped) ∷ [])
  makes : (ls : List (List ℕ)) (n : ℕ) (entries : List LabelledEntry) (l : List ℕ) (label : LineLabel) (f : Format)
      (s : Step) → SpellsLabelledEntries o ls n None entries → SaysAs o (bare l) label (line.Step f s) → IsLabelAt o n l label
      → SpellsLabelledEntries o (ls ++ l ∷ []) (n + 1) None (entries ++ (label, entry.Item (item.Step f s)) ∷ [])
  sweeps : (ls : List (List ℕ)) (n : ℕ) (entries : List LabelledEntry) (l : List ℕ) (label : LineLabel) (f : Format)
      → SpellsLabelledEntries o ls n None entries → SaysAs o (bare l) label (line.Sweep f) → IsLabelAt o n l label
      → SpellsLabelledEntries o (ls ++ l ∷ []) (n + 1) None (entries ++ (label, entry.Item (item.Sweep f)) ∷ [])
  is_bad : (ls : List (List ℕ)) (n : ℕ) (entries : List LabelledEntry) (l : List ℕ) (label : LineLabel)
      → SpellsLabelledEntries o ls n None entries → SaysAs o (bare l) label line.Bad → IsLabelAt o n l label
      → SpellsLabelledEntries o (ls ++ l ∷ []) (n + 1) None (entries ++ (label, entry.Item (item.BadLine n)) ∷ [])
  begins : (ls : List (List ℕ)) (n : ℕ) (entries : List LabelledEntry) (l : List ℕ) (label : LineLabel) (f : Format)
      → SpellsLabelledEntries o ls n None entries → SaysAs o (bare l) label (line.Put f) → IsLabelAt o n l label
      → SpellsLabelledEntries o (ls ++ l ∷ []) (n + 1) (Some (record { text = empty_text f; label = label })) entries
  goes_on : (ls : List (List ℕ)) (n : ℕ) (entries : List LabelledEntry) (l : List ℕ) (t : LabelledText)
      → SpellsLabelledEntries o ls n (Some t) entries → bare l ≢ text_end
      → SpellsLabelledEntries o (ls ++ l ∷ []) (n + 1) (Some (record { text = with_line t.text l; label = t.label }))
      entries
  puts : (ls : List (List ℕ)) (n : ℕ) (entries : List LabelledEntry) (l : List ℕ) (t : LabelledText)
      → SpellsLabelledEntries o ls n (Some t) entries → bare l ≡ text_end
      → SpellsLabelledEntries o (ls ++ l ∷ []) (n + 1) None
      (entries ++ (t.label, entry.Item (item.Step t.text.format (Put (take 1_048_577 t.text.bytes)))) ∷ [])
  puts_object : (ls : List (List ℕ)) (n : ℕ) (entries : List LabelledEntry) (l : List ℕ) (label : LineLabel)
      (f : Format) (text : List ℕ) → SpellsLabelledEntries o ls n None entries → IsPutObject o (bare l) label f text
      → IsLabelAt o n l label
      → SpellsLabelledEntries o (ls ++ l ∷ []) (n + 1) None
      (entries ++ (label, entry.Item (item.Step f (Put (take 1_048_577 text)))) ∷ [])

-- the entries of a whole script: where it ends inside a module text, the last is that end
abbrev pub all_entries : Option LabelledText → List LabelledEntry → List LabelledEntry
all_entries None entries = entries
all_entries (Some t) entries = entries ++ (t.label, entry.Item item.EndOfText) ∷ []
