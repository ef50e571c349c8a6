-- The script of what a script lets out with its events held back (this project's own).
use Rattle.std.specs.Prelude.{◌≡◌, ℕ, List, ◌++◌, length, map, None}
use Rattle.scrib_script_reader.specs.declared.item.Item.{Item}
use Rattle.scrib_script_reader.specs.declared.item.Item.TheVariants as item
use Rattle.scrib_script_reader.specs.declared.entry.Entry.{Entry}
use Rattle.scrib_script_reader.specs.Scripts.{lines, Spells}
use Rattle.scrib_script_reader.specs.Entries.{SpellsEntries}
use Rattle.scrib_hold_stage.specs.declared.noted.Noted.{Noted}
use Rattle.scrib_hold_stage.specs.declared.stage.Counts.{Counts}
use Rattle.scrib_hold_stage.specs.Entries.{noted_in}
use Rattle.scrib_hold.specs.HeldScripts.{Asked, staged_from, AreHeldItems, AreLetOut}

-- the item, with 0 in place of the number of a bad line
abbrev pub unnumbered : Item → Item
unnumbered (item.Step f s) = item.Step f s
unnumbered (item.Sweep f) = item.Sweep f
unnumbered (item.BadLine n) = item.BadLine 0
unnumbered item.EndOfText = item.EndOfText

-- the items are the same, but for the numbers of bad lines
abbrev pub AreSameButForNumbers : List Item → List Item → Type 0
AreSameButForNumbers items others = map unnumbered items ≡ map unnumbered others

-- the script spells these items, but for the numbers of bad lines
abbrev pub SpellsButForNumbers : List ℕ → List Item → Type 0
SpellsButForNumbers script items =
    (spelled : List Item) × Spells 1 None (lines script) spelled × AreSameButForNumbers items spelled

-- A script of the items that the entries let out, in the order in which they are let out. The counts are of the events
-- of the entries, and of those that expired before their end.
pub record IsHeldScriptOf (bound : ℕ) (entries : List Entry) (counts : Counts) (output : List ℕ) : Type 0 where
  pub expired : List (Noted Asked)
  pub items : List Item
  pub held : AreHeldItems bound entries expired items
  pub events_counted : counts.events ≡ length (noted_in (staged_from 1 entries))
  pub expired_counted : counts.expired ≡ length expired
  pub spells : SpellsButForNumbers output items

-- the part is a beginning of such a script: of one of some first items that some first entries let out
pub record IsBeginningOfScript (bound : ℕ) (entries : List Entry) (part : List ℕ) : Type 0 where
  pub first : List Entry
  pub later : List Entry
  pub items : List Item
  pub undone : List Item
  pub unwritten : List ℕ
  pub entries_are : entries ≡ first ++ later
  pub let_out : AreLetOut bound first later (items ++ undone)
  pub spells : SpellsButForNumbers (part ++ unwritten) items

-- a script of the items that a script lets out with its events held back, and the counts of its events
abbrev pub IsHeldScript : ℕ → List ℕ → Counts → List ℕ → Type 0
IsHeldScript bound input counts output =
    (entries : List Entry) × SpellsEntries 1 None (lines input) entries × IsHeldScriptOf bound entries counts output

-- a beginning of such a script
abbrev pub IsHeldScriptPart : ℕ → List ℕ → List ℕ → Type 0
IsHeldScriptPart bound input part =
    (entries : List Entry) × SpellsEntries 1 None (lines input) entries × IsBeginningOfScript bound entries part
