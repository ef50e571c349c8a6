use Rattle.scrib_script_reader.proofs.ScriptLemmas.{line_is_empty, line_is_some}
use Rattle.scrib_hold_lines.proofs.PutTexts.{put_added, text_line_added}
use Rattle.scrib_hold_lines.proofs.open_text.OpenText.add_line.Goals as goal

pub invariant_of-self : goal.invariant_of-self
invariant_of-self c =
    put_added c.extend_from_slice.result c.self.inside.text.items c.extend_from_slice.new.self.items c.put_line.result.now c.extend_from_slice.ensures.items c.put_line.ensures (line_is_empty c.self.inside.text c.if-is_empty.ensures)

pub invariant_of-self-2 : goal.invariant_of-self-2
invariant_of-self-2 c =
    text_line_added c.extend_from_slice-2.result c.self.inside.text.items c.extend_from_slice-2.new.self.items c.args.line.now c.extend_from_slice-2.ensures.items c.self.invariant (line_is_some c.self.inside.text c.if-is_empty.ensures) c.requires
    (c.is_text_end.ensures c.if-is_text_end.false)
