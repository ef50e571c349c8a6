use Rattle.std.proofs.Common.{sym, subst}
use Rattle.scrib_script_reader.proofs.ScriptLemmas.{line_is_some}
use Rattle.scrib_hold_lines.specs.Lines.{EndsInside}
use Rattle.scrib_hold_lines.proofs.PutTexts.{put_alone, text_unended}
use Rattle.scrib_hold_lines.proofs.open_text.OpenText.unended.Goals as goal

pub returns-then-is_empty : goal.returns-then-is_empty
returns-then-is_empty c = put_alone c.put_line.result.now c.put_line.ensures

pub returns-else-is_empty : goal.returns-else-is_empty
returns-else-is_empty c = subst EndsInside (sym c.as_slice.ensures.value) (text_unended c.self.inside.text.items c.self.invariant (line_is_some c.self.inside.text c.if-is_empty.ensures))
