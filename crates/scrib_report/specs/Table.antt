-- The printed table of settled conversations (this project's own).
use Rattle.std.specs.Prelude.{ℕ, ◌-◌, List, [], ◌∷◌, ◌++◌, length, replicate, codes}
use Rattle.std.specs.Fmt.{decimal}
use Rattle.std.specs.List.{sum_by}
use Rattle.scrib_types.specs.Texts.{dotted_text}
use Rattle.scrib_core.specs.declared.ended.Ended.{Ended}
use Rattle.scrib_report.specs.Lines.{verdict_word}

-- the number, filled up with blanks on its left to the given width
abbrev pub right_aligned : ℕ → ℕ → List ℕ
right_aligned width n = replicate (width - length (decimal n)) 32 ++ decimal n

-- the text, filled up with blanks on its right to the given width
abbrev pub left_aligned : ℕ → List ℕ → List ℕ
left_aligned width text = text ++ replicate (width - length text) 32

-- a row, as `         0     1000 permitted k.K`: the id, the number of events, the verdict in one word, the protocol
unfoldable pub row_text : Ended → List ℕ
row_text e =
    right_aligned 10 e.id ++ codes " " ++ right_aligned 8 e.events ++ codes " "
    ++ left_aligned 9 (verdict_word e.told) ++ codes " " ++ dotted_text e.name ++ codes "\n"

-- a row for each settled conversation
abbrev pub rows_text : List Ended → List ℕ
rows_text [] = []
rows_text (e ∷ es) = row_text e ++ rows_text es

-- the number of events of all logs together
abbrev pub events_of : List Ended → ℕ
events_of list = sum_by (λ e. e.events) list

-- the last line, as `total 2 conversations, 2000 events`
unfoldable pub total_text : (conversations events : ℕ) → List ℕ
total_text conversations events =
    codes "total " ++ decimal conversations ++ codes " conversations, " ++ decimal events ++ codes " events\n"

-- the whole table: the rows, then the last line
abbrev pub table_lines : List Ended → List ℕ
table_lines list = rows_text list ++ total_text (length list) (events_of list)
