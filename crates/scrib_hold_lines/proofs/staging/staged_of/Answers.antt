use Rattle.scrib_hold_lines.proofs.SpelledLines.{writes_bad, writes_sweep}
use Rattle.scrib_hold_lines.proofs.staging.staged_of.Goals as goal

pub returns-in-Item-BadLine-clause-passing : goal.returns-in-Item-BadLine-clause-passing
returns-in-Item-BadLine-clause-passing c = rw (c.in-Item-BadLine.is, c.in-Item-BadLine.field-0-is) (λ text h. writes_bad text c.in-Item-BadLine._number h)

pub returns-in-Item-Sweep-clause-passing : goal.returns-in-Item-Sweep-clause-passing
returns-in-Item-Sweep-clause-passing c = rw (c.in-Item-Sweep.is, c.in-Item-Sweep.field-0-is) (λ text h. writes_sweep text c.in-Item-Sweep._format h)
