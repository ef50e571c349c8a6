-- The script of what a script with labels lets out with its events held back (this project's own).
use Rattle.std.specs.Prelude.{◌≡◌, ◌⊎◌, ℕ, List, [], ◌∷◌, ◌++◌, map, Option, None}
use Rattle.std.specs.List.{AllByRecursion}
use Rattle.scrib_script_reader.specs.declared.entry.Entry.{Entry}
use Rattle.scrib_script_reader.specs.declared.item.Item.{Item}
use Rattle.scrib_script_reader.specs.Scripts.{lines}
use Rattle.scrib_hold_stage.specs.declared.noted.Noted.{Noted}
use Rattle.scrib_hold_stage.specs.declared.stage.Counts.{Counts}
use Rattle.scrib_hold_stage.specs.Entries.{Closings, opening_since}
use Rattle.scrib_hold_stage.specs.PendingClosings.{IsApart}
use Rattle.scrib_hold_stage.specs.Stages.{AreAllReleased}
use Rattle.scrib_hold.specs.HeldScripts.{Asked, Pending, staged_from}
use Rattle.scrib_hold.specs.NumberedItems.{AreAllItems, AreFirstItems, LetsOutNumbered, Numbered}
use Rattle.scrib_hold_lines.specs.HeldLines.{unnumbered}
use Rattle.scrib_labelled.specs.declared.label_options.LabelOptions.{LabelOptions}
use Rattle.scrib_labelled.specs.LabelledEntries.{LabelledEntry, SpellsLabelledEntries, all_entries}
use Rattle.scrib_labelled.specs.LabelledLines.{LineLabel}
use Rattle.scrib_labelled.specs.LabelledRuns.{IsNumberIn, Naming}
use Rattle.scrib_labelled.specs.LabelledScripts.{LabelledText, SpellsLabelled, all_items}
use Rattle.scrib_held_labels.specs.HeldLabels.{IsNextNumber}
use Rattle.scrib_held_labels.specs.HeldRuns.{KeepsNames, plain, with_session}
use Rattle.scrib_hold_labelled.specs.WrittenLines.{ends_in, items_at}

-- the item with its label, with 0 in the place of the numbers of lines
abbrev pub without_number : LineLabel × Item → LineLabel × Item
without_number x = (record x.0 { line = 0 }, unnumbered x.1)

-- the items are the same, and so are their labels, but for the numbers of lines
abbrev pub AreSameButForNumbers : List (LineLabel × Item) → List (LineLabel × Item) → Type 0
AreSameButForNumbers items others = map without_number items ≡ map without_number others

-- the script spells these items with these labels, but for the numbers of lines
abbrev pub SpellsButForNumbers : LabelOptions → (script : List ℕ) → List (LineLabel × Item) → Type 0
SpellsButForNumbers o script items =
    (n : ℕ) × (unended : Option LabelledText) × (spelled : List (LineLabel × Item))
    × SpellsLabelled o (lines script) n unended spelled × AreSameButForNumbers items (all_items unended spelled)

-- Nothing is left of the conversation: it was not opened since its last closing, all its events since then were
-- released, and no closing of it waits.
pub record IsLeft (id : ℕ) (entries : List Entry) (closed : Closings) (pending : List Pending)
    (released : List (Noted Asked)) : Type 0 where
  pub unopened : opening_since (closed id) id (staged_from 1 entries) ≡ None
  pub released_all : AreAllReleased id (staged_from 1 entries) closed released
  pub unclosed : AllByRecursion (IsApart id) pending

-- These entries were taken one after another behind a stage, and these items were let out: the numbers of names then.
-- The number of a line's name is that of the name, or one that no name has. A name keeps its number at least as long as
-- something is left of its conversation.
pub data Names (bound : ℕ) : List LabelledEntry → List Numbered → Naming → Type 0 where
  nothing : (names : Naming) → ((name : List ℕ) → names name ≡ None) → Names bound [] [] names
  takes : (entries : List LabelledEntry) (numbered given : List Numbered) (names after : Naming) (label : LineLabel)
      (e : Entry) (closed : Closings) (pending : List Pending) (released expired : List (Noted Asked))
      → Names bound entries numbered names → IsNumberIn names label.session
      → LetsOutNumbered bound (plain (entries ++ (label, e) ∷ [])) [] closed pending released expired
      (numbered ++ given)
      → KeepsNames (with_session names label.session) after
      (λ id. IsLeft id (plain (entries ++ (label, e) ∷ [])) closed pending released)
      → Names bound (entries ++ (label, e) ∷ []) (numbered ++ given) after

-- A script of these entries in the order in which they are let out, each with the very line that it came with, and then
-- of the end inside a module text, if there is one. The counts are of the events, and of those that expired before the
-- end.
pub record IsHeldScriptOf (o : LabelOptions) (bound : ℕ) (entries : List LabelledEntry) (counts : Counts)
    (output : List ℕ) : Type 0 where
  pub numbered : List Numbered
  pub names : Naming
  pub named : Names bound entries numbered names
  pub last : List Numbered
  pub all : AreAllItems bound (plain entries) counts (numbered ++ last)
  pub spells : SpellsButForNumbers o output (items_at entries (numbered ++ last) ++ ends_in entries)

-- The part is a beginning of such a script: some first entries are taken, and some first items of those that the others
-- let out are written.
pub record IsBeginningOfScript (o : LabelOptions) (bound : ℕ) (entries : List LabelledEntry) (part : List ℕ)
    : Type 0 where
  pub taken : List LabelledEntry
  pub later : List LabelledEntry
  pub are : entries ≡ taken ++ later
  pub numbered : List Numbered
  pub names : Naming
  pub named : Names bound taken numbered names
  pub number : IsNextNumber names later
  pub given : List Numbered
  pub first : AreFirstItems bound (plain entries) (numbered ++ given)
  pub unwritten : List ℕ
  pub spells : SpellsButForNumbers o (part ++ unwritten) (items_at entries (numbered ++ given) ++ ends_in entries)

-- a script of what a script with labels lets out with its events held back, none for longer than the bound, and the
-- counts of its events
abbrev pub IsHeldLabelledScript : LabelOptions → (bound : ℕ) → (input : List ℕ) → Counts → (output : List ℕ) → Type 0
IsHeldLabelledScript o bound input counts output =
    (n : ℕ) × (unended : Option LabelledText) × (entries : List LabelledEntry)
    × SpellsLabelledEntries o (lines input) n unended entries
    × IsHeldScriptOf o bound (all_entries unended entries) counts output

-- the part is a beginning of a script of what some first lines of the script let out, or of what all of it lets out
pub record IsHeldLabelledScriptPart (o : LabelOptions) (bound : ℕ) (input part : List ℕ) : Type 0 where
  pub first : List (List ℕ)
  pub later : List (List ℕ)
  pub is : lines input ≡ first ++ later
  pub number : ℕ
  pub unended : Option LabelledText
  pub entries : List LabelledEntry
  pub spells : SpellsLabelledEntries o first number unended entries
  pub taken : List LabelledEntry
  pub these : (taken ≡ entries) ⊎ ((later ≡ []) × (taken ≡ all_entries unended entries))
  pub part_is : IsBeginningOfScript o bound taken part
