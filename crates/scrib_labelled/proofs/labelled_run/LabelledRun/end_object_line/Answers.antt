use Rattle.std.proofs.Common.{None, refl}
use Rattle.std.proofs.lemmas.Result.{err_from_is_err_and, on_err_weaker, on_ok_weaker}
use Rattle.scrib_report.specs.PutBack.{bytes_of}
use Rattle.scrib_labelled.specs.LineEnds.{of_meaning, of_object}
use Rattle.scrib_labelled.specs.NamedLines.{label_of}
use Rattle.scrib_labelled.proofs.LineEndLemmas.{ends_of, fails_of, fails_unread, object_means}
use Rattle.scrib_labelled.proofs.labelled_run.LabelledRun.end_object_line.Goals as goal

pub returns-in_err-session-clause-err : goal.returns-in_err-session-clause-err
returns-in_err-session-clause-err g c =
    let p = err_from_is_err_and c.from_residual.result c.from_residual.ensures.1 in
    rw p.1
    (fails_unread g.S.EntryStage.Took g.S.EntryStage.TookPart g.S.EntryStage.gathered g.met.S.EntryStage.is_part c.args.self.now c.args.self.now (of_object c.args.self.now.options c.args.text.now (bytes_of c.args.tag) c.args.line.now) refl (λ P all l is cut. all None l tt))

pub returns-clause-ok : goal.returns-clause-ok
returns-clause-ok g c =
    let old = c.args.self.now in
    let label = label_of (record { line = c.number.result; text = c.args.text; tag = c.args.tag; session = c.in_ok-session.session }) in
    let meaning = c.in_ok-session.meaning in
    on_ok_weaker c.end_meaning.result
    (ends_of g.S.EntryStage.Took g.S.EntryStage.gathered old c.end_meaning.new.self (of_meaning old.options label meaning) (of_object old.options c.args.text.now (bytes_of c.args.tag) c.args.line.now)
    (λ P. object_means old.options (bytes_of c.args.tag) c.args.line.now label meaning c.names.result.now P refl c.in_ok-session.ensures))
    c.end_meaning.ensures.ok

pub returns-clause-err : goal.returns-clause-err
returns-clause-err g c =
    let old = c.args.self.now in
    let label = label_of (record { line = c.number.result; text = c.args.text; tag = c.args.tag; session = c.in_ok-session.session }) in
    let meaning = c.in_ok-session.meaning in
    on_err_weaker c.end_meaning.result
    (fails_of g.S.EntryStage.Took g.S.EntryStage.TookPart g.S.EntryStage.gathered old c.end_meaning.new.self (of_meaning old.options label meaning) (of_object old.options c.args.text.now (bytes_of c.args.tag) c.args.line.now)
    (λ P. object_means old.options (bytes_of c.args.tag) c.args.line.now label meaning c.names.result.now P refl c.in_ok-session.ensures))
    c.end_meaning.ensures.err
