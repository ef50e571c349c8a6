use Rattle.std.proofs.Common.{refl}
use Rattle.scrib_hold_lines.proofs.ClosingLemmas.{before_none}
use Rattle.scrib_hold_lines.proofs.held_lines.HeldLines.close_before.Goals as goal

pub returns-then-is_empty-clause-ok : goal.returns-then-is_empty-clause-ok
returns-then-is_empty-clause-ok c = before_none c.args.self.now c.args.entry.now (c.if-is_empty.ensures refl)
