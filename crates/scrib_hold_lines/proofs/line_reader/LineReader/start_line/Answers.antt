use Rattle.std.proofs.Common.{ℕ, List, sym, subst}
use Rattle.scrib_hold_lines.specs.Placement.{IsReaderAt}
use Rattle.scrib_hold_lines.proofs.line_reader.LineReader.start_line.Goals as goal

pub returns-clause-placed : goal.returns-clause-placed
returns-clause-placed c = subst (λ (l : List ℕ). IsReaderAt c.args.self.now.script l) (sym c.clear.ensures.items) c.requires
