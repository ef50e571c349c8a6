use Rattle.std.proofs.Common.{ℕ, List, None, refl, subst, sym}
use Rattle.std.proofs.lemmas.Result.{err_from_is_err_and, on_err_weaker, on_ok_weaker}
use Rattle.scrib_labelled.specs.LabelledLines.{IsCutOf}
use Rattle.scrib_labelled.specs.LineEnds.{of_cut, of_meaning}
use Rattle.scrib_labelled.specs.NamedLines.{label_of}
use Rattle.scrib_labelled.proofs.LineEndLemmas.{ends_of, fails_of, fails_unread, reads_cut}
use Rattle.scrib_labelled.proofs.labelled_run.LabelledRun.end_other_line.Goals as goal

pub returns-in_err-parts-clause-err : goal.returns-in_err-parts-clause-err
returns-in_err-parts-clause-err g c =
    let p = err_from_is_err_and c.from_residual.result c.from_residual.ensures.1 in
    rw p.1
    (fails_unread g.S.EntryStage.Took g.S.EntryStage.TookPart g.S.EntryStage.gathered g.met.S.EntryStage.is_part c.args.self.now c.args.self.now (of_cut c.args.self.now.options c.args.line.now) refl (λ P all l is. all None l tt))

pub returns-clause-ok : goal.returns-clause-ok
returns-clause-ok g c =
    let old = c.args.self.now in
    let parts = c.in_ok-parts.parts in
    let meaning = c.in_ok-parts.meaning in
    on_ok_weaker c.end_meaning.result
    (ends_of g.S.EntryStage.Took g.S.EntryStage.gathered old c.end_meaning.new.self (of_meaning old.options (label_of parts) meaning) (of_cut old.options c.args.line.now)
    (λ P h l is. h l (reads_cut old.options c.names.result.now l c.args.line.now parts meaning is c.in_ok-parts.ensures.reads) (subst (λ (t : List ℕ). IsCutOf old.options t l) (sym c.in_ok-parts.ensures.text) is)))
    c.end_meaning.ensures.ok

pub returns-clause-err : goal.returns-clause-err
returns-clause-err g c =
    let old = c.args.self.now in
    let parts = c.in_ok-parts.parts in
    let meaning = c.in_ok-parts.meaning in
    on_err_weaker c.end_meaning.result
    (fails_of g.S.EntryStage.Took g.S.EntryStage.TookPart g.S.EntryStage.gathered old c.end_meaning.new.self (of_meaning old.options (label_of parts) meaning) (of_cut old.options c.args.line.now)
    (λ P h l is. h l (reads_cut old.options c.names.result.now l c.args.line.now parts meaning is c.in_ok-parts.ensures.reads) (subst (λ (t : List ℕ). IsCutOf old.options t l) (sym c.in_ok-parts.ensures.text) is)))
    c.end_meaning.ensures.err
