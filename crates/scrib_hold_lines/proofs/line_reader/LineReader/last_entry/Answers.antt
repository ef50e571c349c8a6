use Rattle.std.proofs.Common.{sym, subst}
use Rattle.scrib_script_reader.specs.Scripts.{NoLf}
use Rattle.scrib_hold_lines.proofs.Placements.{kept_no_lf}
use Rattle.scrib_hold_lines.proofs.LineGivings.{last_gives, last_text}
use Rattle.scrib_hold_lines.proofs.line_reader.LineReader.last_entry.Goals as goal

pub missing_end-end-requires : goal.missing_end-end-requires
missing_end-end-requires c = subst NoLf (sym c.as_slice.ensures.value) (kept_no_lf c.args.self.now.script c.args.self.now.line.items c.requires)

pub returns-clause-gives : goal.returns-clause-gives
returns-clause-gives c =
    last_gives c.args.self.now.script c.args.self.now.line.items _ c.in_ok-entry.entry c.requires c.in_ok-entry.ensures.ends
    (last_text c.as_slice.result.now c.args.self.now.line.items c.missing_end-end.result.now _ c.as_slice.ensures.value c.in_ok-extend_from_slice.ensures.items c.missing_end-end.ensures)

pub returns-clause-ended : goal.returns-clause-ended
returns-clause-ended c =
    (last_text c.as_slice.result.now c.args.self.now.line.items c.missing_end-end.result.now _ c.as_slice.ensures.value c.in_ok-extend_from_slice.ensures.items c.missing_end-end.ensures).0
