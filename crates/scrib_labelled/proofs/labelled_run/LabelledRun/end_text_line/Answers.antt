use Rattle.std.proofs.Common.{◌∙◌, ◌+◌, ◌++◌, ◌∷◌, [], ℕ, List, Some, refl, sym, ap, arith}
use Rattle.std.proofs.lemmas.Bool.{false≢true}
use Rattle.std.proofs.lemmas.List.{append-nil}
use Rattle.std.proofs.lemmas.Result.{err_from_is_err_and, on_err_weaker, on_ok_weaker}
use Rattle.scrib_script_reader.specs.Scripts.{bare}
use Rattle.scrib_script_reader.proofs.Bytes.{end_is_kept, end_of_kept}
use Rattle.scrib_labelled.specs.LineEnds.{of_text_line}
use Rattle.scrib_labelled.proofs.LineEndLemmas.{ends_one, fails_one, fails_unread, gives_put, line_goes_on, put_entry}
use Rattle.scrib_labelled.proofs.labelled_run.LabelledRun.end_text_line.Goals as goal

pub returns-then-not-is_text_end-clause-ok : goal.returns-then-not-is_text_end-clause-ok
returns-then-not-is_text_end-clause-ok g c =
    let old = c.args.self.now in (
      [],
      sym (append-nil (g.S.EntryStage.gathered old.stage)),
      (refl, refl, refl),
      λ t full held is.
          line_goes_on g.S.EntryStage.Took old.options (old.count.lines + 1) old.stage full c.args.line.now c.args.text c.add_line.new.self t held c.in_ok-add_line.ensures is
          (λ e. false≢true (sym c.if-not-is_text_end.true ∙ c.is_text_end.ensures.1 (ap (λ (x : List ℕ). bare (x ++ 10 ∷ [])) is ∙ end_is_kept 1048577 full (omega arith) e))),
    )

pub returns-in_err-add_line-clause-err : goal.returns-in_err-add_line-clause-err
returns-in_err-add_line-clause-err g c =
    let p = err_from_is_err_and c.from_residual.result c.from_residual.ensures.1 in
    rw p.1
    (fails_unread g.S.EntryStage.Took g.S.EntryStage.TookPart g.S.EntryStage.gathered g.met.S.EntryStage.is_part c.args.self.now c.args.self.now (of_text_line c.args.text c.args.line.now) refl
    (λ P all t full held is. all (Some t) (full ++ 10 ∷ []) tt))

pub returns-clause-ok : goal.returns-clause-ok
returns-clause-ok g c =
    let old = c.args.self.now in
    on_ok_weaker c.put.result
    (λ h. ends_one g.S.EntryStage.Took g.S.EntryStage.gathered old c.put.new.self (of_text_line c.args.text c.args.line.now) h.label (put_entry c.args.text.format c.args.text.bytes.items) (h.rest ∙ c.requires) h.same
    (λ P made t full held is. made (Some t) (full ++ 10 ∷ [])
    (gives_put old.options (old.count.lines + 1) (full ++ 10 ∷ []) c.args.text t h.label held h.labelled
    (end_of_kept 1048577 full (omega arith) (sym (ap (λ (x : List ℕ). bare (x ++ 10 ∷ [])) is) ∙ c.is_text_end.ensures.0 c.if-not-is_text_end.false)))) h.takes)
    c.put.ensures.ok

pub returns-clause-err : goal.returns-clause-err
returns-clause-err g c =
    let old = c.args.self.now in
    on_err_weaker c.put.result
    (λ h. fails_one g.S.EntryStage.Took g.S.EntryStage.TookPart g.S.EntryStage.gathered old c.put.new.self (of_text_line c.args.text c.args.line.now) h.label (put_entry c.args.text.format c.args.text.bytes.items)
    (λ P made t full held is. made (Some t) (full ++ 10 ∷ [])
    (gives_put old.options (old.count.lines + 1) (full ++ 10 ∷ []) c.args.text t h.label held h.labelled
    (end_of_kept 1048577 full (omega arith) (sym (ap (λ (x : List ℕ). bare (x ++ 10 ∷ [])) is) ∙ c.is_text_end.ensures.0 c.if-not-is_text_end.false)))) h.fails)
    c.put.ensures.err
