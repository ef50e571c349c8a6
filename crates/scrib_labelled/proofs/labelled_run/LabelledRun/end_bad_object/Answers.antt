use Rattle.std.proofs.Common.{OnErr, OnOk, ℕ, subst}
use Rattle.scrib_report.specs.PutBack.{bytes_of}
use Rattle.scrib_script_reader.specs.declared.line.Line.TheVariants as line
use Rattle.scrib_labelled.specs.LineEnds.{EndsLine, FailsLine, nameless, of_meaning}
use Rattle.scrib_labelled.proofs.labelled_run.LabelledRun.end_bad_object.Goals as goal

pub returns-clause-ok : goal.returns-clause-ok
returns-clause-ok g c =
    let old = c.args.self.now in
    subst (λ (n : ℕ). OnOk c.end_meaning.result (EndsLine g.S.EntryStage.Took g.S.EntryStage.gathered old c.end_meaning.new.self (of_meaning old.options (nameless n c.args.text.now (bytes_of c.args.tag)) line.Bad))) c.number.ensures c.end_meaning.ensures.ok

pub returns-clause-err : goal.returns-clause-err
returns-clause-err g c =
    let old = c.args.self.now in
    subst (λ (n : ℕ). OnErr c.end_meaning.result (FailsLine g.S.EntryStage.Took g.S.EntryStage.TookPart g.S.EntryStage.gathered old c.end_meaning.new.self (of_meaning old.options (nameless n c.args.text.now (bytes_of c.args.tag)) line.Bad))) c.number.ensures c.end_meaning.ensures.err
