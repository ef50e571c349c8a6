use Rattle.std.proofs.Common.{◌∙◌, None, refl, sym}
use Rattle.std.proofs.lemmas.Result.{on_err_weaker, on_ok_weaker}
use Rattle.scrib_labelled.specs.NamedLines.{label_of}
use Rattle.scrib_labelled.proofs.LastLineLemmas.{text_ended, text_fails, text_none}
use Rattle.scrib_labelled.proofs.labelled_run.LabelledRun.end_text.Goals as goal

pub returns-in_default-clause-ok : goal.returns-in_default-clause-ok
returns-in_default-clause-ok g c = text_none g.S.EntryStage.Took g.S.EntryStage.gathered c.args.self.now _ (sym c.take.ensures.value ∙ c.in_default.is) refl

pub returns-clause-ok : goal.returns-clause-ok
returns-clause-ok g c =
    on_ok_weaker c.take-2.result
    (text_ended g.S.EntryStage.Took g.S.EntryStage.gathered c.args.self.now _ c.in-Some.text (label_of (record { line = c.in-Some.text.line; text = c.as_slice.result; tag = c.tag_of.result; session = None })) (sym c.take.ensures.value ∙ c.in-Some.is) (record { line = refl; head = c.as_slice.ensures.value; tag = c.tag_of.ensures; session = refl }))
    c.take-2.ensures.ok

pub returns-clause-err : goal.returns-clause-err
returns-clause-err g c =
    on_err_weaker c.take-2.result
    (text_fails g.S.EntryStage.Took g.S.EntryStage.TookPart g.S.EntryStage.gathered c.args.self.now _ c.in-Some.text (label_of (record { line = c.in-Some.text.line; text = c.as_slice.result; tag = c.tag_of.result; session = None })) (sym c.take.ensures.value ∙ c.in-Some.is) (record { line = refl; head = c.as_slice.ensures.value; tag = c.tag_of.ensures; session = refl }))
    c.take-2.ensures.err
