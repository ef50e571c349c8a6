-- Lines, and what they spell wherever they are written (this project's own). Only contracts of private functions cite
-- this file.
use Rattle.std.specs.Prelude.{◌≡◌, ◌≢◌, ◌⊎◌, ℕ, ◌≤◌, List, [], ◌∷◌, ◌++◌, length, Option, None, codes}
use Rattle.scrib_core.specs.declared.format.Format.{Format}
use Rattle.scrib_core.specs.declared.format.Format.TheVariants as format
use Rattle.scrib_core.specs.declared.step.Step.TheVariants.{Put}
use Rattle.scrib_script_reader.specs.declared.line.Line.{Line}
use Rattle.scrib_script_reader.specs.declared.line.Line.TheVariants as line
use Rattle.scrib_script_reader.specs.declared.item.Item.{Item}
use Rattle.scrib_script_reader.specs.declared.item.Item.TheVariants as item
use Rattle.scrib_script_reader.specs.declared.entry.Entry.{Entry}
use Rattle.scrib_script_reader.specs.declared.entry.Entry.TheVariants as entry
use Rattle.scrib_script_reader.specs.Says.{Says}
use Rattle.scrib_script_reader.specs.Scripts.{NoLf, Text, Spells, lines, bare, text_end}
use Rattle.scrib_hold_lines.specs.HeldLines.{AreSameButForNumbers}

-- from a line of any number on, the lines spell these items, but for the numbers of bad lines
abbrev pub SpellsAnew : Option Text → List (List ℕ) → List Item → Type 0
SpellsAnew text ls items =
    (n : ℕ) → (spelled : List Item) × Spells n text ls spelled × AreSameButForNumbers items spelled

-- the text spells these items, whatever follows it
pub record WritesItems (text : List ℕ) (items : List Item) : Type 0 where
  pub so : (more : List ℕ) (rest : List Item) → SpellsAnew None (lines more) rest
      → SpellsAnew None (lines (text ++ more)) (items ++ rest)

-- the text is a beginning of one that spells some first of these items
pub record WritesItemsPart (text : List ℕ) (items : List Item) : Type 0 where
  pub first : List Item
  pub undone : List Item
  pub unwritten : List ℕ
  pub is : items ≡ first ++ undone
  pub writes : WritesItems (text ++ unwritten) first

-- the text is one line with its LF, and the line has this meaning
pub record IsLineOf (text : List ℕ) (word : Line) : Type 0 where
  pub front : List ℕ
  pub is : text ≡ front ++ 10 ∷ []
  pub no_lf : NoLf front
  pub says : Says (bare text) word

-- lines of a module text, each with its LF; none of them ends the text
pub data AreTextLines : List ℕ → Type 0 where
  no_line : AreTextLines []
  one_more : (k more : List ℕ) → NoLf k → bare (k ++ 10 ∷ []) ≢ text_end → AreTextLines more
      → AreTextLines (k ++ 10 ∷ more)

-- A module text that is put: its lines. The last may be cut where only the first 1,048,577 bytes are put.
pub record IsPutText (text : List ℕ) : Type 0 where
  pub front : List ℕ
  pub part : List ℕ
  pub is : text ≡ front ++ part
  pub whole : AreTextLines front
  pub no_lf : NoLf part
  pub cut : ((part ≡ []) × (length text ≤ 1048577)) ⊎ (length text ≡ 1048577)

-- the text is empty, or ends with an LF
abbrev pub EndsLine : List ℕ → Type 0
EndsLine text = (text ≡ []) ⊎ ((front : List ℕ) × (text ≡ front ++ 10 ∷ []))

-- the text ends with another byte
abbrev pub EndsWithin : List ℕ → Type 0
EndsWithin text = (front : List ℕ) × (last : ℕ) × (text ≡ front ++ last ∷ []) × (last ≢ 10)

-- what is written behind a module text: its last line, and before it the rest of a line that was cut
abbrev pub IsTail : List ℕ → List ℕ → Type 0
IsTail text tail = ((tail ≡ codes "%%\n") × EndsLine text) ⊎ ((tail ≡ codes ".\n%%\n") × EndsWithin text)

-- the line before a module text, the reply to whose put is printed in this format
abbrev pub put_line : Format → List ℕ
put_line format.Line = codes "put\n"
put_line format.Json = codes "json put\n"

-- no bytes, or a `put` and lines of the module text behind it
abbrev pub IsOpenText : List ℕ → Type 0
IsOpenText text = (text ≡ []) ⊎ ((more : List ℕ) × (text ≡ put_line format.Line ++ more) × AreTextLines more)

-- the script ends inside a module text
abbrev pub EndsInside : List ℕ → Type 0
EndsInside script = SpellsAnew None (lines script) (item.EndOfText ∷ [])

-- what is known of the line of an entry, and of a module text that is put
abbrev pub GivesLine : List ℕ → Entry → Type 0
GivesLine text entry.Skipped = Unit {0}
GivesLine text (entry.Item item.EndOfText) = Unit {0}
GivesLine text (entry.Item (item.BadLine n)) = IsLineOf text line.Bad
GivesLine text (entry.Item (item.Sweep f)) = IsLineOf text (line.Sweep f)
GivesLine text (entry.Item (item.Step f (Put put))) = IsPutText put
GivesLine text (entry.Item (item.Step f s)) = IsLineOf text (line.Step f s)

-- the bytes were added, and have this property
abbrev pub AddsBytes : (List ℕ → Type 0) → (was now : List ℕ) → Type 0
AddsBytes P was now = (out : List ℕ) × (now ≡ was ++ out) × P out
