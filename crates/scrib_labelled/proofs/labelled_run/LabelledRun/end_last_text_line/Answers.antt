use Rattle.std.proofs.Common.{◌∙◌, Some, refl, sym}
use Rattle.std.proofs.lemmas.Bool.{false≢true}
use Rattle.std.proofs.lemmas.Result.{on_err_weaker, on_ok_weaker}
use Rattle.scrib_labelled.proofs.LastLineLemmas.{last_goes_on, last_put_fails, last_puts}
use Rattle.scrib_labelled.proofs.labelled_run.LabelledRun.end_last_text_line.Goals as goal

pub returns-then-is_mark-clause-ok : goal.returns-then-is_mark-clause-ok
returns-then-is_mark-clause-ok g c =
    on_ok_weaker c.put.result
    (last_puts g.S.EntryStage.Took g.S.EntryStage.gathered c.args.self.now c.put.new.self c.args.text c.args.line.now c.requires (c.is_mark.ensures.0 c.if-is_mark.true))
    c.put.ensures.ok

pub returns-then-is_mark-clause-err : goal.returns-then-is_mark-clause-err
returns-then-is_mark-clause-err g c =
    on_err_weaker c.put.result
    (last_put_fails g.S.EntryStage.Took g.S.EntryStage.TookPart g.S.EntryStage.gathered c.args.self.now c.put.new.self c.args.text c.args.line.now (c.is_mark.ensures.0 c.if-is_mark.true))
    c.put.ensures.err

pub returns-clause-ok : goal.returns-clause-ok
returns-clause-ok g c =
    last_goes_on g.S.EntryStage.Took g.S.EntryStage.gathered c.args.self.now (record c.args.self.now { text = Some c.args.text }) c.args.text c.args.line.now refl refl (λ e. false≢true (sym c.if-is_mark.false ∙ c.is_mark.ensures.1 e))
