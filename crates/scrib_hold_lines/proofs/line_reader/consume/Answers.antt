use Rattle.scrib_hold_lines.proofs.Placements.{consumed_none, consumed_more, consumed_entry, consumed_all}
use Rattle.scrib_hold_lines.proofs.line_reader.consume.Goals as goal

pub loop-rest-init : goal.loop-rest-init
loop-rest-init c = consumed_none c.args.script.now c.args.bytes.now

pub returns-then-is_some : goal.returns-then-is_some
returns-then-is_some c =
    consumed_entry c.args.script.now c.loop-rest.script c.next_entry.new.self c.args.bytes.now c.loop-rest.rest.now c.in_ok-entry.after.now c.in_ok-entry.entry c.requires.read c.requires.of_line c.loop-rest.invariant c.in_ok-entry.ensures.taken c.if-is_some.ensures

pub loop-rest-preserved : goal.loop-rest-preserved
loop-rest-preserved c =
    consumed_more c.args.script.now c.loop-rest.script c.next_entry.new.self c.args.bytes.now c.loop-rest.rest.now c.in_ok-entry.after.now c.in_ok-entry.entry c.loop-rest.invariant c.in_ok-entry.ensures.taken c.if-is_some.ensures

pub returns : goal.returns
returns c = consumed_all c.args.script.now c.loop-rest.script c.args.bytes.now c.loop-rest.rest.now c.loop-rest.invariant c.loop-rest-test.ensures
