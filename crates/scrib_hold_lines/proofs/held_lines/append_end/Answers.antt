use Rattle.std.proofs.lemmas.Result.{on_ok_weaker}
use Rattle.scrib_hold_lines.proofs.Passings.{ok_added}
use Rattle.scrib_hold_lines.proofs.StageLemmas.{end_added, end_absent}
use Rattle.scrib_hold_lines.proofs.held_lines.append_end.Goals as goal

pub returns-then-inside-clause-ok : goal.returns-then-inside-clause-ok
returns-then-inside-clause-ok c =
    on_ok_weaker c.extend_from_slice.result
    (λ is. end_added c.args.inside c.args.output.now.items c.extend_from_slice.new.self.items c.args.last.now c.requires c.if-inside.true is)
    (ok_added c.extend_from_slice.result c.args.output.now.items c.extend_from_slice.new.self.items c.args.last.now c.extend_from_slice.ensures.items)

pub returns-else-inside-clause-ok : goal.returns-else-inside-clause-ok
returns-else-inside-clause-ok c = end_absent c.args.inside c.args.output.now.items c.if-inside.false
