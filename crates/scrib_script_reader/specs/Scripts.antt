-- The items that a script spells (this project's own).
use Rattle.std.specs.Prelude.{◌≡◌, ◌≢◌, ℕ, ◌+◌, Bool, false, ◌&&◌, ◌==◌, if◌then◌else◌, List, [], ◌∷◌, ◌++◌, take, Option, Some, None, All, codes}
use Rattle.scrib_core.specs.declared.step.Step.{Step}
use Rattle.scrib_core.specs.declared.step.Step.TheVariants.{Put}
use Rattle.scrib_script_reader.specs.Says.{Says}
use Rattle.scrib_core.specs.declared.format.Format.{Format}
use Rattle.scrib_script_reader.specs.declared.line.Line.TheVariants as line
use Rattle.scrib_script_reader.specs.declared.item.Item.{Item}
use Rattle.scrib_script_reader.specs.declared.item.Item.TheVariants as item

-- none of the bytes is an LF
abbrev pub NoLf : List ℕ → Type 0
NoLf bytes = All (λ b. b ≢ 10) bytes

-- the list of the item, if there is one
abbrev pub item_list : Option Item → List Item
item_list None = []
item_list (Some i) = i ∷ []

-- the lines, with the byte in front of the first one
abbrev pub with_byte : ℕ → List (List ℕ) → List (List ℕ)
with_byte b [] = (b ∷ []) ∷ []
with_byte b (l ∷ ls) = (b ∷ l) ∷ ls

-- the lines of the bytes, each with its LF, which the last may lack
abbrev pub lines : List ℕ → List (List ℕ)
lines [] = []
lines (b ∷ bs) = if b == 10 then (b ∷ []) ∷ lines bs else with_byte b (lines bs)

-- an end of a line: LF, or CR and LF
abbrev pub is_end : List ℕ → Bool
is_end [] = false
is_end (b ∷ []) = b == 10
is_end (b ∷ c ∷ []) = (b == 13) && (c == 10)
is_end (b ∷ c ∷ d ∷ bs) = false

-- a line without its end
abbrev pub bare : List ℕ → List ℕ
bare [] = []
bare (b ∷ bs) = if is_end (b ∷ bs) then [] else b ∷ bare bs

-- the line that ends a module text
abbrev pub text_end : List ℕ
text_end = codes "%%"

-- a module text so far, and the format of the reply to its put
pub record Text : Type 0 where
  pub bytes : List ℕ
  pub format : Format

-- a module text before its first line
abbrev pub empty_text : Format → Text
empty_text f = record { bytes = []; format = f }

-- a module text with one line more
abbrev pub with_line : Text → List ℕ → Text
with_line text l = record { bytes = text.bytes ++ l; format = text.format }

-- The lines spell these items. The first is line n of its script, outside module texts or after this much of one. Only
-- the first 1,048,577 bytes of a module text are put.
pub data Spells : ℕ → Option Text → List (List ℕ) → List Item → Type 0 where
  ends : (n : ℕ) → Spells n None [] []
  skips : (n : ℕ) (l : List ℕ) (ls : List (List ℕ)) (items : List Item)
      → Says (bare l) line.Skipped → Spells (n + 1) None ls items → Spells n None (l ∷ ls) items
  makes : (n : ℕ) (l : List ℕ) (ls : List (List ℕ)) (items : List Item) (f : Format) (s : Step)
      → Says (bare l) (line.Step f s) → Spells (n + 1) None ls items → Spells n None (l ∷ ls) (item.Step f s ∷ items)
  sweeps : (n : ℕ) (l : List ℕ) (ls : List (List ℕ)) (items : List Item) (f : Format)
      → Says (bare l) (line.Sweep f) → Spells (n + 1) None ls items → Spells n None (l ∷ ls) (item.Sweep f ∷ items)
  is_bad : (n : ℕ) (l : List ℕ) (ls : List (List ℕ)) (items : List Item)
      → Says (bare l) line.Bad → Spells (n + 1) None ls items → Spells n None (l ∷ ls) (item.BadLine n ∷ items)
  begins : (n : ℕ) (l : List ℕ) (ls : List (List ℕ)) (items : List Item) (f : Format)
      → Says (bare l) (line.Put f) → Spells (n + 1) (Some (empty_text f)) ls items → Spells n None (l ∷ ls) items
  goes_on : (n : ℕ) (text : Text) (l : List ℕ) (ls : List (List ℕ)) (items : List Item)
      → bare l ≢ text_end → Spells (n + 1) (Some (with_line text l)) ls items → Spells n (Some text) (l ∷ ls) items
  puts : (n : ℕ) (text : Text) (l : List ℕ) (ls : List (List ℕ)) (items : List Item)
      → bare l ≡ text_end → Spells (n + 1) None ls items
      → Spells n (Some text) (l ∷ ls) (item.Step text.format (Put (take 1_048_577 text.bytes)) ∷ items)
  stops : (n : ℕ) (text : Text) → Spells n (Some text) [] (item.EndOfText ∷ [])

-- what an item asks for: a step, or a sweep of the stale conversations
pub data Request : Type 0 where
  ToMake : Step → Request
  ToSweep : Request

-- what the items ask for
abbrev pub requests_of : List Item → List Request
requests_of [] = []
requests_of (item.Step f s ∷ items) = ToMake s ∷ requests_of items
requests_of (item.Sweep f ∷ items) = ToSweep ∷ requests_of items
requests_of (item.BadLine n ∷ items) = requests_of items
requests_of (item.EndOfText ∷ items) = requests_of items
