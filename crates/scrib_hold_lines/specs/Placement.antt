-- Where a reader of lines is in its script (this project's own). Only contracts of private functions cite this file.
use Rattle.std.specs.Prelude.{◌≡◌, ◌⊎◌, ℕ, List, [], ◌∷◌, ◌++◌, take}
use Rattle.std.specs.List.{AllByRecursion}
use Rattle.scrib_script_reader.specs.declared.limits.Limits.{Limits}
use Rattle.scrib_script_reader.specs.declared.script.Script.{Script}
use Rattle.scrib_script_reader.specs.declared.entry.Entry.{Entry}
use Rattle.scrib_script_reader.specs.Scripts.{NoLf, lines, bare}
use Rattle.scrib_script_reader.specs.Positions.{HasRead}
use Rattle.scrib_hold_lines.specs.declared.line_reader.LineReader.{LineReader}

-- the bytes are some of one line, and its LF
abbrev pub IsReaderEnded : List ℕ → Type 0
IsReaderEnded bytes = (k : List ℕ) × NoLf k × (bytes ≡ k ++ 10 ∷ [])

-- the bytes are some of one line, without its LF or with it
abbrev pub IsOfLine : List ℕ → Type 0
IsOfLine bytes = NoLf bytes ⊎ IsReaderEnded bytes

-- the bytes are these lines, each with its LF, and then a part of a line
pub record IsSplit (bytes : List ℕ) (before : List (List ℕ)) (part : List ℕ) : Type 0 where
  pub at : (more : List ℕ) → lines (bytes ++ more) ≡ before ++ lines (part ++ more)
  pub full : AllByRecursion IsReaderEnded before
  pub no_lf : NoLf part

-- some bytes were read
pub record HasReadSome (s : Script) : Type 0 where
  pub limits : Limits
  pub seen : List ℕ
  pub entries : List Entry
  pub read : HasRead limits s seen entries

-- some bytes were read, and up to 131,074 of those behind the last LF are kept
pub record IsReaderAt (s : Script) (kept : List ℕ) : Type 0 where
  pub limits : Limits
  pub seen : List ℕ
  pub entries : List Entry
  pub read : HasRead limits s seen entries
  pub before : List (List ℕ)
  pub part : List ℕ
  pub split : IsSplit seen before part
  pub kept_is : kept ≡ take 131074 part

-- the same, of a reader of lines
abbrev pub IsReaderPlaced : LineReader → Type 0
IsReaderPlaced reader = IsReaderAt reader.script reader.line.items

-- the text is a last line with an end behind it, which leaves its meaning as it was
abbrev pub IsLastLine : (last text : List ℕ) → Type 0
IsLastLine last text = IsReaderEnded text × (bare text ≡ last)
