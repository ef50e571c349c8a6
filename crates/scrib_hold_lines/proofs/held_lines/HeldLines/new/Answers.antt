use Rattle.std.proofs.Common.{refl}
use Rattle.scrib_hold_lines.proofs.StageLemmas.{taken_none}
use Rattle.scrib_hold_lines.proofs.held_lines.HeldLines.new.Goals as goal

pub returns : goal.returns
returns c = taken_none c.args.bound _ c.new.ensures c.new-2.ensures refl
