use Rattle.std.proofs.Common.{refl, subst, ◌≡◌, ◌++◌, ℕ, take, arith}
use Rattle.std.proofs.lemmas.Result.{err_from_is_err_and}
use Rattle.scrib_labelled.proofs.PieceLemmas.{piece_unread}
use Rattle.scrib_labelled.proofs.RunLemmas.{gathers_part}
use Rattle.scrib_labelled.proofs.labelled_run.LabelledRun.take_part.Goals as goal

pub returns-then-not-take-clause-err : goal.returns-then-not-take-clause-err
returns-then-not-take-clause-err g c = piece_unread g.S.EntryStage.Took g.S.EntryStage.TookPart g.S.EntryStage.gathered g.met.S.EntryStage.is_part c.args.self.now _ c.args.part.now refl

pub returns-in_err-append_up_to-clause-err : goal.returns-in_err-append_up_to-clause-err
returns-in_err-append_up_to-clause-err g c =
    let p = err_from_is_err_and c.from_residual.result c.from_residual.ensures.1 in
    rw p.1 (piece_unread g.S.EntryStage.Took g.S.EntryStage.TookPart g.S.EntryStage.gathered g.met.S.EntryStage.is_part c.args.self.now _ c.args.part.now refl)

pub returns-clause-ok : goal.returns-clause-ok
returns-clause-ok g c =
    gathers_part g.S.EntryStage.Took g.S.EntryStage.gathered c.args.self.now _ c.args.part.now c.requires refl refl refl
    (λ before held short.
    let e = c.capacity-capacity.ensures before held in
    subst (λ (n : ℕ). c.append_up_to.new.kept.items ≡ take n (c.args.self.now.line.items ++ c.args.part.now)) e (c.in_ok-append_up_to.ensures (omega (arith, short, e, c.args.self.now.line.ok.0))))
    c.take.ensures.limits c.take.ensures.lines (c.if-not-take.ensures.counted refl) (c.if-not-take.ensures.few_bytes refl) (c.if-not-take.ensures.few_lines refl)
