use Rattle.std.proofs.Common.{inr, arith}
use Rattle.scrib_script_reader.specs.Entries.{entry_list}
use Rattle.scrib_hold_lines.proofs.Placements.{some_read, at_end, kept_short}
use Rattle.scrib_hold_lines.proofs.LineGivings.{end_gives, end_ended}
use Rattle.scrib_hold_lines.proofs.line_reader.LineReader.take_end.Goals as goal

pub consume-requires-clause-read : goal.consume-requires-clause-read
consume-requires-clause-read c = some_read c.args.self.now.script c.args.self.now.line.items c.requires.placed

pub consume-requires-clause-of_line : goal.consume-requires-clause-of_line
consume-requires-clause-of_line c = inr c.requires.ended

pub returns-clause-gives : goal.returns-clause-gives
returns-clause-gives c =
    end_gives c.args.self.now.script c.consume.new.script c.args.self.now.line.items c.args.bytes.now c.without_lf.result.now c.append_up_to.new.kept.items _ c.in_ok-entry.entry
    c.requires.placed c.requires.ended c.in_ok-entry.ensures c.without_lf.ensures
    (c.in_ok-append_up_to.ensures (omega (arith, kept_short c.args.self.now.script c.args.self.now.line.items c.requires.placed, c.args.self.now.line.ok.0)))
    c.in_ok-extend_from_slice.ensures.items

pub returns-clause-placed : goal.returns-clause-placed
returns-clause-placed c =
    at_end c.args.self.now.script c.consume.new.script c.args.self.now.line.items c.args.bytes.now (entry_list c.in_ok-entry.entry) c.requires.placed c.requires.ended c.in_ok-entry.ensures

pub returns-clause-ended : goal.returns-clause-ended
returns-clause-ended c =
    end_ended c.args.self.now.script c.args.self.now.line.items c.args.bytes.now c.without_lf.result.now c.append_up_to.new.kept.items _ c.requires.placed c.requires.ended c.without_lf.ensures
    (c.in_ok-append_up_to.ensures (omega (arith, kept_short c.args.self.now.script c.args.self.now.line.items c.requires.placed, c.args.self.now.line.ok.0)))
    c.in_ok-extend_from_slice.ensures.items
