-- The parts of an output, without their texts (this project's own).
use Rattle.std.specs.Prelude.{ℕ, List}
use Rattle.scrib_types.specs.declared.event.Told.{Told}
use Rattle.scrib_core.specs.declared.ended.Ended.{Ended}
use Rattle.scrib_core.specs.declared.reply.Reply.{Reply}
use Rattle.scrib_report.specs.declared.part.OutputPart.{OutputPart}
use Rattle.scrib_report.specs.declared.part.OutputPart.TheVariants as output

-- A part of an output: a reply, a service's verdict on a conversation, a receipt of a conversation that differs from
-- its log at a place, the number of conversations that a sweep judged, a bad line of a number, an end inside a module
-- text, the heading of a connection, the failure of its reader, or the table of settled conversations.
pub data Part : Type 0 where
  reply_part : Reply → Part
  judged_part : (id : ℕ) → Told → Part
  mismatch_part : (conversation place : ℕ) → Part
  swept_part : (judged : ℕ) → Part
  bad_part : (number : ℕ) → Part
  end_part : Part
  connection_part : (number : ℕ) → Part
  fault_part : Part
  table_part : List Ended → Part

-- the part of the code's value
abbrev pub part_of : OutputPart → Part
part_of (output.Reply r) = reply_part r.now
part_of (output.Judged id verdict) = judged_part id verdict.now
part_of (output.Mismatch conversation place) = mismatch_part conversation place
part_of (output.Swept judged) = swept_part judged
part_of (output.BadLine n) = bad_part n
part_of output.EndOfText = end_part
part_of (output.Connection n) = connection_part n
part_of output.ReadFault = fault_part
part_of (output.Table list) = table_part list.now
