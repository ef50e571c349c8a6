use Rattle.std.proofs.Common.{◌+◌, drop, sym, take}
use Rattle.std.proofs.lemmas.List.{take-append-drop}
use Rattle.std.proofs.lemmas.Result.{err_from_is_err_and}
use Rattle.scrib_labelled.proofs.PieceLemmas.{piece_begun}
use Rattle.scrib_labelled.proofs.labelled_run.LabelledRun.gather_next.Goals as goal

pub returns-in_err-take_part-clause-err : goal.returns-in_err-take_part-clause-err
returns-in_err-take_part-clause-err g c =
    let p = err_from_is_err_and c.from_residual.result c.from_residual.ensures.1 in
    rw p.1 c.in_err-take_part.ensures.err

pub returns-in_err-take_end-clause-err : goal.returns-in_err-take_end-clause-err
returns-in_err-take_end-clause-err g c =
    let p = err_from_is_err_and c.from_residual-in_err-take_end.result c.from_residual-in_err-take_end.ensures.1 in
    let piece = c.args.piece.now in
    let at = c.in-Some.at + 1 in
    rw p.1
    (piece_begun g.S.EntryStage.Took g.S.EntryStage.TookPart g.S.EntryStage.gathered c.args.self.now c.take_end.new.self piece (take at piece) (drop at piece) (sym (take-append-drop at piece)) c.in_err-take_end.ensures.err)
