use Rattle.std.proofs.lemmas.Result.{err_from_is_err_and}
use Rattle.scrib_labelled.proofs.EndLemmas.{finish_cut, last_cut, script_ended, text_cut}
use Rattle.scrib_labelled.proofs.labelled_run.LabelledRun.gather_end.Goals as goal

pub returns-in_err-end_last_line-clause-err : goal.returns-in_err-end_last_line-clause-err
returns-in_err-end_last_line-clause-err g c =
    let p = err_from_is_err_and c.from_residual.result c.from_residual.ensures.1 in
    rw p.1
    (last_cut g.S.EntryStage.Took g.S.EntryStage.TookPart g.S.EntryStage.gathered c.args.self.now c.clear.new.self c.end_last_line.new.self c.clear.ensures.kept c.clear.ensures.none c.in_err-end_last_line.ensures.err)

pub returns-in_err-end_text-clause-err : goal.returns-in_err-end_text-clause-err
returns-in_err-end_text-clause-err g c =
    let p = err_from_is_err_and c.from_residual-in_err-end_text.result c.from_residual-in_err-end_text.ensures.1 in
    rw p.1
    (text_cut g.S.EntryStage.Took g.S.EntryStage.gathered c.args.self.now c.clear.new.self c.end_last_line.new.self c.clear.ensures.kept c.clear.ensures.none c.in_ok-end_last_line.ensures.ok
    g.S.EntryStage.TookPart c.end_text.new.self c.in_err-end_text.ensures.err)

pub returns-in_err-finish-clause-err : goal.returns-in_err-finish-clause-err
returns-in_err-finish-clause-err g c =
    let p = err_from_is_err_and c.from_residual-in_err-finish.result c.from_residual-in_err-finish.ensures.1 in
    rw p.1
    (finish_cut g.S.EntryStage.Took g.S.EntryStage.gathered c.args.self.now c.clear.new.self c.end_last_line.new.self c.clear.ensures.kept c.clear.ensures.none c.in_ok-end_last_line.ensures.ok
    c.end_text.new.self c.in_ok-end_text.ensures.ok g.S.EntryStage.TookPart c.finish.new.self c.in_err-finish.ensures.err)

pub returns-clause-ok : goal.returns-clause-ok
returns-clause-ok g c =
    script_ended g.S.EntryStage.Took g.S.EntryStage.gathered c.args.self.now c.clear.new.self c.end_last_line.new.self c.clear.ensures.kept c.clear.ensures.none c.in_ok-end_last_line.ensures.ok
    c.end_text.new.self c.in_ok-end_text.ensures.ok g.S.EntryStage.TookAll c.finish.new.self c.in_ok-finish.ensures.ok
