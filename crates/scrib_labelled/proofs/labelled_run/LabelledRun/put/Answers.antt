use Rattle.std.proofs.Common.{ℕ, List, None, refl, subst}
use Rattle.std.proofs.lemmas.Result.{on_err_weaker, on_ok_weaker}
use Rattle.scrib_labelled.specs.NamedLines.{label_of}
use Rattle.scrib_labelled.specs.Stages.{FailsEntry, TakesEntry}
use Rattle.scrib_labelled.proofs.LineEndLemmas.{put_entry}
use Rattle.scrib_labelled.proofs.labelled_run.LabelledRun.put.Goals as goal

pub returns-clause-ok : goal.returns-clause-ok
returns-clause-ok g c =
    let label = label_of (record { line = c.args.text.line; text = c.as_slice.result; tag = c.tag_of.result; session = None }) in
    on_ok_weaker c.take.result
    (λ h. record {
      same = (refl, refl, refl);
      rest = refl;
      label = label;
      labelled = record { line = refl; head = c.as_slice.ensures.value; tag = c.tag_of.ensures; session = refl };
      takes =
          subst (λ (bytes : List ℕ). TakesEntry g.S.EntryStage.Took g.S.EntryStage.gathered c.args.self.now.stage c.take.new.self label (put_entry c.args.text.format bytes)) c.from_vec.ensures h;
    })
    c.take.ensures.ok

pub returns-clause-err : goal.returns-clause-err
returns-clause-err g c =
    let label = label_of (record { line = c.args.text.line; text = c.as_slice.result; tag = c.tag_of.result; session = None }) in
    on_err_weaker c.take.result
    (λ h. record {
      label = label;
      labelled = record { line = refl; head = c.as_slice.ensures.value; tag = c.tag_of.ensures; session = refl };
      fails =
          subst (λ (bytes : List ℕ). FailsEntry g.S.EntryStage.Took g.S.EntryStage.TookPart g.S.EntryStage.gathered c.args.self.now.stage c.take.new.self label (put_entry c.args.text.format bytes)) c.from_vec.ensures h;
    })
    c.take.ensures.err
