use Rattle.std.proofs.Common.{inl, arith}
use Rattle.scrib_script_reader.specs.Entries.{entry_list}
use Rattle.scrib_hold_lines.proofs.Placements.{some_read, part_takes, at_part, kept_short}
use Rattle.scrib_hold_lines.proofs.line_reader.LineReader.take_part.Goals as goal

pub consume-requires-clause-read : goal.consume-requires-clause-read
consume-requires-clause-read c = some_read c.args.self.now.script c.args.self.now.line.items c.requires.placed

pub consume-requires-clause-of_line : goal.consume-requires-clause-of_line
consume-requires-clause-of_line c = inl c.requires.no_lf

pub returns-clause-taken : goal.returns-clause-taken
returns-clause-taken c =
    part_takes c.args.self.now.script c.consume.new.script c.args.self.now.line.items c.args.part.now (entry_list c.in_ok-consume.field-0) c.requires.placed c.requires.no_lf c.in_ok-consume.ensures

pub returns-clause-placed : goal.returns-clause-placed
returns-clause-placed c =
    at_part c.args.self.now.script c.consume.new.script c.args.self.now.line.items c.args.part.now c.append_up_to.new.kept.items c.requires.placed c.requires.no_lf
    (part_takes c.args.self.now.script c.consume.new.script c.args.self.now.line.items c.args.part.now (entry_list c.in_ok-consume.field-0) c.requires.placed c.requires.no_lf c.in_ok-consume.ensures)
    (c.in_ok-append_up_to.ensures (omega (arith, kept_short c.args.self.now.script c.args.self.now.line.items c.requires.placed, c.args.self.now.line.ok.0)))
