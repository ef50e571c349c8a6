use Rattle.scrib_script_reader.proofs.ScriptLemmas.{entries_none}
use Rattle.scrib_hold_lines.proofs.Placements.{at_start}
use Rattle.scrib_hold_lines.proofs.line_reader.LineReader.new.Goals as goal

pub returns-clause-read : goal.returns-clause-read
returns-clause-read c = entries_none c.args.limits c.with_limits.result c.with_limits.ensures.holds c.with_limits.ensures.lines c.with_limits.ensures.bytes c.with_limits.ensures.limits

pub returns-clause-placed : goal.returns-clause-placed
returns-clause-placed c =
    at_start c.args.limits c.with_limits.result _ (entries_none c.args.limits c.with_limits.result c.with_limits.ensures.holds c.with_limits.ensures.lines c.with_limits.ensures.bytes c.with_limits.ensures.limits) c.new.ensures.items
