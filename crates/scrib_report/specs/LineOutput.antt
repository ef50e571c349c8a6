-- The parts of an output as lines of text (this project's own).
use Rattle.std.specs.Prelude.{ℕ, List, [], ◌∷◌, ◌++◌, codes}
use Rattle.std.specs.Fmt.{decimal}
use Rattle.scrib_types.specs.declared.event.Told.{Told}
use Rattle.scrib_core.specs.declared.reply.Reply.{Reply}
use Rattle.scrib_report.specs.Lines.{line_of, told_text}
use Rattle.scrib_report.specs.Parts.{Part, reply_part, judged_part, mismatch_part, swept_part, bad_part, end_part, connection_part, fault_part, table_part}
use Rattle.scrib_report.specs.Table.{table_lines}

-- the line of a reply, with its LF
abbrev pub reply_line : Reply → List ℕ
reply_line r = line_of r ++ 10 ∷ []

-- a service's reply to a turn or a question, as `3 permitted`, with its LF
unfoldable pub judged_line : ℕ → Told → List ℕ
judged_line id verdict = decimal id ++ codes " " ++ told_text verdict ++ codes "\n"

-- the refusal of a pass whose receipt differs from the log at this place, as `refused Mismatch 1 3`, with its LF
unfoldable pub mismatch_line : (conversation place : ℕ) → List ℕ
mismatch_line conversation place =
    codes "refused Mismatch " ++ decimal conversation ++ codes " " ++ decimal place ++ codes "\n"

-- the text of a part in lines of text: besides those above `sweep: 412 judged`, `refused BadLine 3`, `refused EndOfText`, `connection 1` and
-- `read fault`, each with its LF, and the table
abbrev pub part_line : Part → List ℕ
part_line (reply_part r) = reply_line r
part_line (judged_part id verdict) = judged_line id verdict
part_line (mismatch_part conversation place) = mismatch_line conversation place
part_line (swept_part judged) = codes "sweep: " ++ decimal judged ++ codes " judged\n"
part_line (bad_part n) = codes "refused BadLine " ++ decimal n ++ codes "\n"
part_line end_part = codes "refused EndOfText\n"
part_line (connection_part n) = codes "connection " ++ decimal n ++ codes "\n"
part_line fault_part = codes "read fault\n"
part_line (table_part list) = table_lines list
