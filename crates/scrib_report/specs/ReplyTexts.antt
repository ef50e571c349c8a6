-- The texts of an output in both formats (this project's own).
use Rattle.std.specs.Prelude.{ℕ, List, Option, Some, None}
use Rattle.scrib_core.specs.declared.ended.Ended.{Ended}
use Rattle.scrib_core.specs.declared.format.Format.{Format}
use Rattle.scrib_core.specs.declared.format.Format.TheVariants as format
use Rattle.scrib_core.specs.declared.reply.Reply.{Reply}
use Rattle.scrib_core.specs.declared.reply.Reply.TheVariants as reply
use Rattle.scrib_core.specs.declared.reply.Refusal.TheVariants.{OutOfMemory}
use Rattle.scrib_report.specs.JsonOutput.{part_json}
use Rattle.scrib_report.specs.LineOutput.{part_line}
use Rattle.scrib_report.specs.Parts.{Part, reply_part, swept_part, bad_part, end_part, connection_part, fault_part, table_part}

-- what is written for a part in this format
abbrev pub part_text : Format → Part → List ℕ
part_text format.Line p = part_line p
part_text format.Json p = part_json p

-- what is written for a reply in this format
abbrev pub reply_text : Format → Reply → List ℕ
reply_text f r = part_text f (reply_part r)

-- what is written for a sweep: how many conversations it judged, or the refusal of a turn, where memory was refused
abbrev pub swept_text : Format → Option ℕ → List ℕ
swept_text f (Some judged) = part_text f (swept_part judged)
swept_text f None = reply_text f (reply.Refused OutOfMemory)

-- what is written for a bad line of this number, from 1
abbrev pub bad_line : Format → ℕ → List ℕ
bad_line f n = part_text f (bad_part n)

-- what is written for an end inside a module text
abbrev pub end_of_text : Format → List ℕ
end_of_text f = part_text f end_part

-- the line before those of the connection of this number
abbrev pub heading : Format → ℕ → List ℕ
heading f n = part_text f (connection_part n)

-- the last line of a connection whose reader failed
abbrev pub read_fault_line : Format → List ℕ
read_fault_line f = part_text f fault_part

-- the table of settled conversations in this format
abbrev pub printed_table : Format → List Ended → List ℕ
printed_table f list = part_text f (table_part list)

-- the format of a reply, from those of the output and of its line: JSON where either is
abbrev pub reply_format : Format → Format → Format
reply_format format.Line f = f
reply_format format.Json f = format.Json
