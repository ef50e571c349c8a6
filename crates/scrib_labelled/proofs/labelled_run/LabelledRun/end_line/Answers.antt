use Rattle.std.proofs.Common.{◌≡◌, None}
use Rattle.std.proofs.lemmas.Result.{on_err_weaker, on_ok_weaker}
use Rattle.scrib_labelled.specs.LineEnds.{of_cut, of_kept}
use Rattle.scrib_labelled.proofs.LineEndLemmas.{ends_of, fails_of, is_none_only, kept_outside}
use Rattle.scrib_labelled.proofs.labelled_run.LabelledRun.end_line.Goals as goal

pub returns-then-is_none-clause-ok : goal.returns-then-is_none-clause-ok
returns-then-is_none-clause-ok g c =
    let old = c.args.self.now in
    let line = c.args.line.now in
    let cut = c.without_cr.result.now in
    let none : old.text ≡ None = is_none_only old.text c.is_none.result c.is_none.ensures c.if-is_none.true in
    on_ok_weaker c.end_plain_line.result
    (ends_of g.S.EntryStage.Took g.S.EntryStage.gathered old c.end_plain_line.new.self (of_cut old.options cut) (of_kept old.options old.text line) (λ P. kept_outside old.options old.text line cut P none c.without_cr.ensures))
    c.end_plain_line.ensures.ok

pub returns-then-is_none-clause-err : goal.returns-then-is_none-clause-err
returns-then-is_none-clause-err g c =
    let old = c.args.self.now in
    let line = c.args.line.now in
    let cut = c.without_cr.result.now in
    let none : old.text ≡ None = is_none_only old.text c.is_none.result c.is_none.ensures c.if-is_none.true in
    on_err_weaker c.end_plain_line.result
    (fails_of g.S.EntryStage.Took g.S.EntryStage.TookPart g.S.EntryStage.gathered old c.end_plain_line.new.self (of_cut old.options cut) (of_kept old.options old.text line)
    (λ P. kept_outside old.options old.text line cut P none c.without_cr.ensures))
    c.end_plain_line.ensures.err
