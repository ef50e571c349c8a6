use Rattle.std.proofs.Common.{◌+◌, refl, ◌∙◌, ap}
use Rattle.std.proofs.lemmas.Result.{err_from_is_err_and}
use Rattle.scrib_labelled.specs.declared.line_count.LineCount.{LineCount}
use Rattle.scrib_labelled.proofs.PieceLemmas.{piece_unread}
use Rattle.scrib_labelled.proofs.RunLemmas.{fails_end, gathers_end, no_lf_before}
use Rattle.scrib_labelled.proofs.labelled_run.LabelledRun.take_end.Goals as goal

pub returns-then-not-take-clause-err : goal.returns-then-not-take-clause-err
returns-then-not-take-clause-err g c = piece_unread g.S.EntryStage.Took g.S.EntryStage.TookPart g.S.EntryStage.gathered g.met.S.EntryStage.is_part c.args.self.now _ c.args.bytes.now refl

pub returns-in_err-end_body-clause-err : goal.returns-in_err-end_body-clause-err
returns-in_err-end_body-clause-err g c =
    let p = err_from_is_err_and c.from_residual.result c.from_residual.ensures.1 in
    rw p.1
    (fails_end g.S.EntryStage.Took g.S.EntryStage.TookPart g.S.EntryStage.gathered c.args.self.now c.end_body.new.self c.take.new.self c.without_lf.result.now c.args.bytes.now
    (no_lf_before c.without_lf.result.now c.args.bytes.now c.requires c.without_lf.ensures) c.without_lf.ensures c.take.ensures.lines c.in_err-end_body.ensures.err)

pub returns-clause-ok : goal.returns-clause-ok
returns-clause-ok g c =
    gathers_end g.S.EntryStage.Took g.S.EntryStage.gathered c.args.self.now c.end_body.new.self c.take.new.self c.end_line.new.self c.without_lf.result.now c.args.bytes.now
    (no_lf_before c.without_lf.result.now c.args.bytes.now c.requires c.without_lf.ensures) c.without_lf.ensures c.in_ok-end_body.ensures.ok
    c.take.ensures.limits c.take.ensures.lines (c.if-not-take.ensures.counted refl) (c.if-not-take.ensures.few_bytes refl) (c.if-not-take.ensures.few_lines refl)
    (c.end_line.ensures.limits ∙ ap (λ (x : LineCount). x.limits) c.in_ok-end_body.ensures.ok.count)
    (c.end_line.ensures.lines ∙ ap (λ (x : LineCount). x.lines + 1) c.in_ok-end_body.ensures.ok.count)
    (c.end_line.ensures.bytes ∙ ap (λ (x : LineCount). x.bytes) c.in_ok-end_body.ensures.ok.count)
