use Rattle.std.proofs.Common.{◌∙◌, sym}
use Rattle.std.proofs.lemmas.Result.{on_err_weaker, on_ok_weaker}
use Rattle.scrib_labelled.specs.LineEnds.{of_cut, of_kept, of_text_line}
use Rattle.scrib_labelled.proofs.LineEndLemmas.{ends_of, fails_of, kept_in_text, kept_outside}
use Rattle.scrib_labelled.proofs.labelled_run.LabelledRun.end_any_line.Goals as goal

pub returns-in-Some-clause-ok : goal.returns-in-Some-clause-ok
returns-in-Some-clause-ok g c =
    let old = c.args.self.now in
    let line = c.args.line.now in
    let text = c.in-Some.text in
    on_ok_weaker c.end_text_line.result
    (ends_of g.S.EntryStage.Took g.S.EntryStage.gathered old c.end_text_line.new.self (of_text_line text line) (of_kept old.options old.text line)
    (λ P. kept_in_text old.options old.text text line P (sym c.take.ensures.value ∙ c.in-Some.is)))
    c.end_text_line.ensures.ok

pub returns-in-Some-clause-err : goal.returns-in-Some-clause-err
returns-in-Some-clause-err g c =
    let old = c.args.self.now in
    let line = c.args.line.now in
    let text = c.in-Some.text in
    on_err_weaker c.end_text_line.result
    (fails_of g.S.EntryStage.Took g.S.EntryStage.TookPart g.S.EntryStage.gathered old c.end_text_line.new.self (of_text_line text line) (of_kept old.options old.text line)
    (λ P. kept_in_text old.options old.text text line P (sym c.take.ensures.value ∙ c.in-Some.is)))
    c.end_text_line.ensures.err

pub returns-in-None-clause-ok : goal.returns-in-None-clause-ok
returns-in-None-clause-ok g c =
    let old = c.args.self.now in
    let line = c.args.line.now in
    let cut = c.without_cr.result.now in
    on_ok_weaker c.end_any_plain_line.result
    (ends_of g.S.EntryStage.Took g.S.EntryStage.gathered old c.end_any_plain_line.new.self (of_cut old.options cut) (of_kept old.options old.text line)
    (λ P. kept_outside old.options old.text line cut P (sym c.take.ensures.value ∙ c.in-None.is) c.without_cr.ensures))
    c.end_any_plain_line.ensures.ok

pub returns-in-None-clause-err : goal.returns-in-None-clause-err
returns-in-None-clause-err g c =
    let old = c.args.self.now in
    let line = c.args.line.now in
    let cut = c.without_cr.result.now in
    on_err_weaker c.end_any_plain_line.result
    (fails_of g.S.EntryStage.Took g.S.EntryStage.TookPart g.S.EntryStage.gathered old c.end_any_plain_line.new.self (of_cut old.options cut) (of_kept old.options old.text line)
    (λ P. kept_outside old.options old.text line cut P (sym c.take.ensures.value ∙ c.in-None.is) c.without_cr.ensures))
    c.end_any_plain_line.ensures.err
