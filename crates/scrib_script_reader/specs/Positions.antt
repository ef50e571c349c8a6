-- Positions in a script that is read by pieces, and what its bytes spell between them (this project's own).
use Rattle.std.specs.Prelude.{◌≡◌, ◌≢◌, ◌⊎◌, ℕ, ◌+◌, ◌≤◌, ◌<◌, List, [], ◌∷◌, ◌++◌, length, take, Option, Some, None, option_map}
use Rattle.scrib_core.specs.declared.step.Step.TheVariants.{Put}
use Rattle.scrib_script_reader.specs.declared.line.Line.{Line}
use Rattle.scrib_script_reader.specs.declared.line.Line.TheVariants as line
use Rattle.scrib_script_reader.specs.declared.item.Item.{Item}
use Rattle.scrib_script_reader.specs.declared.item.Item.TheVariants as item
use Rattle.scrib_script_reader.specs.declared.kept_bytes.KeptText.{KeptText}
use Rattle.scrib_script_reader.specs.declared.script.Script.{Script}
use Rattle.scrib_script_reader.specs.declared.limits.Limits.{Limits}
use Rattle.scrib_script_reader.specs.declared.entry.Entry.{Entry}
use Rattle.scrib_script_reader.specs.declared.entry.Entry.TheVariants as entry
use Rattle.scrib_script_reader.specs.Scripts.{NoLf, Text, empty_text, with_line, lines, bare, text_end}
use Rattle.scrib_script_reader.specs.Entries.{SpellsEntries, entry_items}
use Rattle.scrib_script_reader.specs.Limits.{IsWithinLimits, line_feeds}

-- A position in a script: the number of the current line, the module text so far, if inside one, and the current line
-- so far.
pub record Position : Type 0 where
  pub number : ℕ
  pub text : Option Text
  pub line : List ℕ

-- the position before the first byte
abbrev pub start : Position
start = record { number = 1; text = None; line = [] }

-- where only these bytes are left from the position on, they give these entries
abbrev pub SpellsFrom : Position → List ℕ → List Entry → Type 0
SpellsFrom p bytes entries = SpellsEntries p.number p.text (lines (p.line ++ bytes)) entries

-- the bytes lead from position p to position q, and give these entries on the way
abbrev pub LeadsFrom : Position → List ℕ → List Entry → Position → Type 0
LeadsFrom p bytes entries q =
    (more : List ℕ) (rest : List Entry) → SpellsFrom q more rest → SpellsFrom p (bytes ++ more) (entries ++ rest)

-- the most bytes of a line that are kept: outside module texts its limit, one byte more, and a CR
abbrev pub capacity : Option Text → ℕ
capacity None = 131074
capacity (Some text) = 1048577

-- the kept part of a module text: its first 1,048,577 bytes
abbrev pub cut : Text → Text
cut text = record { bytes = take 1048577 text.bytes; format = text.format }

-- the module text of the code's value
abbrev pub as_text : KeptText → Text
as_text kept = record { bytes = kept.bytes.items; format = kept.format }

-- the module text that the reader keeps
abbrev pub text_of : Script → Option Text
text_of s = option_map as_text s.text

-- the reader keeps the needed part of this text and of this line
pub record Holds (s : Script) (text : Option Text) (line : List ℕ) : Type 0 where
  pub kept_text : text_of s ≡ option_map cut text
  pub kept_line : s.line.items ≡ take (capacity text) line
  pub no_lf : NoLf line

-- the position of the reader, where this is the text and this the line so far
abbrev pub position : Script → Option Text → List ℕ → Position
position s text line = record { number = s.lines + 1; text = text; line = line }

-- the bytes were consumed and counted, and with them the script is within its limits
pub record CountsBytes (old new : Script) (part : List ℕ) : Type 0 where
  pub limits : new.limits ≡ old.limits
  pub bytes : new.bytes ≡ old.bytes + length part
  pub ended : new.lines ≡ old.lines + line_feeds part
  pub few_bytes : old.bytes + length part ≤ old.limits.bytes
  pub few_lines : old.lines + length (lines part) ≤ old.limits.lines

-- the bytes were consumed, and give these entries
pub record TakesEntries (old new : Script) (bytes : List ℕ) (entries : List Entry) : Type 0 where
  pub counts : CountsBytes old new bytes
  pub goes : (text : Option Text) (line : List ℕ) → Holds old text line
      → (new_text : Option Text) × (new_line : List ℕ) × Holds new new_text new_line
      × LeadsFrom (position old text line) bytes entries (position new new_text new_line)

-- the bytes were consumed, and spell these items
pub record TakesBytes (old new : Script) (bytes : List ℕ) (items : List Item) : Type 0 where
  pub entries : List Entry
  pub spelled : items ≡ entry_items entries
  pub takes : TakesEntries old new bytes entries

-- all of the piece but the rest was consumed, and gives these entries
abbrev pub TakesFrontEntries : (old new : Script) → List ℕ → List ℕ → List Entry → Type 0
TakesFrontEntries old new piece rest entries =
    (front : List ℕ) × (piece ≡ front ++ rest) × TakesEntries old new front entries

-- all of the piece but the rest was consumed, and spells these items
abbrev pub TakesFront : (old new : Script) → List ℕ → List ℕ → List Item → Type 0
TakesFront old new piece rest items = (front : List ℕ) × (piece ≡ front ++ rest) × TakesBytes old new front items

-- the bytes are one line, or a part of one
abbrev pub IsOneLine : List ℕ → Type 0
IsOneLine part = lines part ≡ part ∷ []

-- with these bytes of one line, one at least, the script is past its limits
abbrev pub IsPastWith : Script → List ℕ → Type 0
IsPastWith s part = (s.limits.bytes < s.bytes + length part) ⊎ (s.limits.lines ≤ s.lines)

-- Some line of the piece is past the script's limits. The lines before it were consumed, and spell no item.
pub record PassesLimits (old : Script) (piece : List ℕ) : Type 0 where
  pub mid : Script
  pub line : List ℕ
  pub rest : List ℕ
  pub before : TakesFront old mid piece (line ++ rest) []
  pub first : lines (line ++ rest) ≡ line ∷ lines rest
  pub past : IsPastWith mid line

-- where the whole script was consumed, its end gives these entries
pub record EndGives (s : Script) (entries : List Entry) : Type 0 where
  pub ends : (text : Option Text) (line : List ℕ) → Holds s text line → SpellsFrom (position s text line) [] entries

-- where the whole script was consumed, its end spells these items
pub record EndSpells (s : Script) (items : List Item) : Type 0 where
  pub entries : List Entry
  pub spelled : items ≡ entry_items entries
  pub gives : EndGives s entries

-- the bytes seen so far were consumed, give these entries and are within the limits
pub record HasRead (m : Limits) (s : Script) (seen : List ℕ) (entries : List Entry) : Type 0 where
  pub limits : s.limits ≡ m
  pub bytes : s.bytes ≡ length seen
  pub ended : s.lines ≡ line_feeds seen
  pub within : IsWithinLimits m seen
  pub text : Option Text
  pub line : List ℕ
  pub holds : Holds s text line
  pub leads : LeadsFrom start seen entries (position s text line)

-- the bytes seen so far were consumed, spell these items and are within the limits
pub record HasConsumed (m : Limits) (s : Script) (seen : List ℕ) (items : List Item) : Type 0 where
  pub entries : List Entry
  pub spelled : items ≡ entry_items entries
  pub read : HasRead m s seen entries

-- the line that an LF ended gives these entries, and this is kept of the module text after it
pub record LineEnded (old : Script) (after : Option Text) (entries : List Entry) : Type 0 where
  pub goes : (text : Option Text) (line : List ℕ) → Holds old text line
      → (next : Option Text) × (after ≡ option_map cut next)
      × LeadsFrom (position old text line) (10 ∷ []) entries
      (record { number = old.lines + 1 + 1; text = next; line = [] })

-- the module text that begins after a line of this meaning, if one does
abbrev pub begun_text : Line → Option Text
begun_text line.Skipped = None
begun_text (line.Put f) = Some (empty_text f)
begun_text (line.Step f s) = None
begun_text (line.Sweep f) = None
begun_text line.Bad = None

-- the entries that a line of this number and meaning gives: one, or none
abbrev pub entries_of : ℕ → Line → List Entry
entries_of n line.Skipped = entry.Skipped ∷ []
entries_of n (line.Put f) = []
entries_of n (line.Step f s) = entry.Item (item.Step f s) ∷ []
entries_of n (line.Sweep f) = entry.Item (item.Sweep f) ∷ []
entries_of n line.Bad = entry.Item (item.BadLine n) ∷ []

-- the entries that it gives where it is the last line: a module text that begins after it does not end
abbrev pub last_entries : ℕ → Line → List Entry
last_entries n line.Skipped = entry.Skipped ∷ []
last_entries n (line.Put f) = entry.Item item.EndOfText ∷ []
last_entries n (line.Step f s) = entry.Item (item.Step f s) ∷ []
last_entries n (line.Sweep f) = entry.Item (item.Sweep f) ∷ []
last_entries n line.Bad = entry.Item (item.BadLine n) ∷ []

-- After a line inside a module text, of which this much is kept: the line ends the text, which is put, or the text
-- continues with the line and its LF.
abbrev pub TextGives : Text → List ℕ → Option Text → List Entry → Type 0
TextGives kept l None entries =
    (bare (l ++ 10 ∷ []) ≡ text_end) × (entries ≡ entry.Item (item.Step kept.format (Put kept.bytes)) ∷ [])
TextGives kept l (Some after) entries =
    (bare (l ++ 10 ∷ []) ≢ text_end)
    × (length kept.bytes ≤ 1048577 → after ≡ cut (with_line kept (l ++ 10 ∷ [])))
    × (entries ≡ [])
