use Rattle.std.proofs.Common.{subst, sym}
use Rattle.scrib_script_reader.specs.declared.entry.Entry.{Entry}
use Rattle.scrib_labelled.specs.NamedLines.{label_of}
use Rattle.scrib_hold_labelled.specs.Stages.{KeepsLines}
use Rattle.scrib_hold_labelled.proofs.StageLemmas.{keeps_none}
use Rattle.scrib_hold_labelled.proofs.line_stage.LineStage.keep_lines.Goals as goal

pub returns-in-Skipped-clause-ok : goal.returns-in-Skipped-clause-ok
returns-in-Skipped-clause-ok c =
    subst (λ (e : Entry). KeepsLines c.args.self.now c.args.self.now (label_of c.args.parts) e) (sym c.in-Skipped.is) (keeps_none c.args.self.now (label_of c.args.parts))
