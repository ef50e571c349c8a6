-- What the lines of a script give, one by one (this project's own).
use Rattle.std.specs.Prelude.{◌≡◌, ◌≢◌, ℕ, ◌+◌, List, [], ◌∷◌, take, Option, Some, None}
use Rattle.scrib_core.specs.declared.format.Format.{Format}
use Rattle.scrib_core.specs.declared.step.Step.{Step}
use Rattle.scrib_core.specs.declared.step.Step.TheVariants.{Put}
use Rattle.scrib_script_reader.specs.Says.{Says}
use Rattle.scrib_script_reader.specs.Scripts.{Text, empty_text, with_line, bare, text_end}
use Rattle.scrib_script_reader.specs.declared.line.Line.TheVariants as line
use Rattle.scrib_script_reader.specs.declared.item.Item.{Item}
use Rattle.scrib_script_reader.specs.declared.item.Item.TheVariants as item
use Rattle.scrib_script_reader.specs.declared.entry.Entry.{Entry}
use Rattle.scrib_script_reader.specs.declared.entry.Entry.TheVariants as entry

-- the list of the entry, if there is one
abbrev pub entry_list : Option Entry → List Entry
entry_list None = []
entry_list (Some e) = e ∷ []

-- the items among the entries
abbrev pub entry_items : List Entry → List Item
entry_items [] = []
entry_items (entry.Skipped ∷ entries) = entry_items entries
entry_items (entry.Item i ∷ entries) = i ∷ entry_items entries

-- The lines give these entries: one for each line outside module texts, and one for each put. The first is line n of
-- its script, outside module texts or after this much of one.
pub data SpellsEntries : ℕ → Option Text → List (List ℕ) → List Entry → Type 0 where
  ends : (n : ℕ) → SpellsEntries n None [] []
  skips : (n : ℕ) (l : List ℕ) (ls : List (List ℕ)) (entries : List Entry) → Says (bare l) line.Skipped
      → SpellsEntries (n + 1) None ls entries → SpellsEntries n None (l ∷ ls) (entry.Skipped ∷ entries)
  makes : (n : ℕ) (l : List ℕ) (ls : List (List ℕ)) (entries : List Entry) (f : Format) (s : Step)
      → Says (bare l) (line.Step f s) → SpellsEntries (n + 1) None ls entries
      → SpellsEntries n None (l ∷ ls) (entry.Item (item.Step f s) ∷ entries)
  sweeps : (n : ℕ) (l : List ℕ) (ls : List (List ℕ)) (entries : List Entry) (f : Format)
      → Says (bare l) (line.Sweep f) → SpellsEntries (n + 1) None ls entries
      → SpellsEntries n None (l ∷ ls) (entry.Item (item.Sweep f) ∷ entries)
  is_bad : (n : ℕ) (l : List ℕ) (ls : List (List ℕ)) (entries : List Entry) → Says (bare l) line.Bad
      → SpellsEntries (n + 1) None ls entries → SpellsEntries n None (l ∷ ls) (entry.Item (item.BadLine n) ∷ entries)
  begins : (n : ℕ) (l : List ℕ) (ls : List (List ℕ)) (entries : List Entry) (f : Format)
      → Says (bare l) (line.Put f) → SpellsEntries (n + 1) (Some (empty_text f)) ls entries
      → SpellsEntries n None (l ∷ ls) entries
  goes_on : (n : ℕ) (text : Text) (l : List ℕ) (ls : List (List ℕ)) (entries : List Entry) → bare l ≢ text_end
      → SpellsEntries (n + 1) (Some (with_line text l)) ls entries → SpellsEntries n (Some text) (l ∷ ls) entries
  puts : (n : ℕ) (text : Text) (l : List ℕ) (ls : List (List ℕ)) (entries : List Entry) → bare l ≡ text_end
      → SpellsEntries (n + 1) None ls entries → SpellsEntries n (Some text) (l ∷ ls)
      (entry.Item (item.Step text.format (Put (take 1_048_577 text.bytes))) ∷ entries)
  stops : (n : ℕ) (text : Text) → SpellsEntries n (Some text) [] (entry.Item item.EndOfText ∷ [])
