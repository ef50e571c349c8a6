-- The items of lines that are read without an item (this project's own).
use Rattle.std.specs.Prelude.{List, [], ◌∷◌}
use Rattle.scrib_core.specs.declared.format.Format.TheVariants as format
use Rattle.scrib_core.specs.declared.step.Step.TheVariants.{Note, Ask, Open}
use Rattle.scrib_script_reader.specs.declared.item.Item.{Item}
use Rattle.scrib_script_reader.specs.declared.item.Item.TheVariants as item
use Rattle.scrib_script_reader.specs.declared.entry.Entry.{Entry}
use Rattle.scrib_script_reader.specs.declared.entry.Entry.TheVariants as entry
use Rattle.scrib_script_reader.specs.declared.short_line.ShortLine.{ShortLine}
use Rattle.scrib_script_reader.specs.declared.short_line.ShortLine.TheVariants as short

-- the entry that the line gives
abbrev pub short_entry : ShortLine → Entry
short_entry (short.Note id e) = entry.Item (item.Step format.Line (Note id e))
short_entry (short.Ask id) = entry.Item (item.Step format.Line (Ask id))
short_entry (short.Open id name) = entry.Item (item.Step format.Line (Open id name))
short_entry (short.Bad n) = entry.Item (item.BadLine n)
short_entry short.Skipped = entry.Skipped

-- the items that the line spells: one, or none
abbrev pub short_items : ShortLine → List Item
short_items (short.Note id e) = item.Step format.Line (Note id e) ∷ []
short_items (short.Ask id) = item.Step format.Line (Ask id) ∷ []
short_items (short.Open id name) = item.Step format.Line (Open id name) ∷ []
short_items (short.Bad n) = item.BadLine n ∷ []
short_items short.Skipped = []
