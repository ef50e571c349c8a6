use Rattle.std.proofs.Common.{ℕ, ◌+◌, [], None, refl, sym, subst}
use Rattle.std.proofs.lemmas.List.{append-nil}
use Rattle.std.proofs.lemmas.Result.{err_from_is_err_and, on_err_weaker, on_ok_weaker}
use Rattle.scrib_script_reader.specs.declared.entry.Entry.TheVariants as entry
use Rattle.scrib_script_reader.specs.declared.item.Item.TheVariants as item
use Rattle.scrib_script_reader.specs.declared.line.Line.{Line}
use Rattle.scrib_script_reader.specs.Scripts.{bare}
use Rattle.scrib_labelled.specs.LabelledScripts.{SaysAs}
use Rattle.scrib_labelled.specs.LineEnds.{of_meaning}
use Rattle.scrib_labelled.specs.NamedLines.{label_of}
use Rattle.scrib_labelled.specs.Stages.{FailsEntry, TakesEntry}
use Rattle.scrib_labelled.proofs.LineEndLemmas.{ends_one, fails_one, fails_unread, gives_bad, gives_skipped, gives_step, gives_sweep, line_begins}
use Rattle.scrib_labelled.proofs.labelled_run.LabelledRun.end_meaning.Goals as goal

pub returns-in-Skipped-clause-ok : goal.returns-in-Skipped-clause-ok
returns-in-Skipped-clause-ok g c =
    let old = c.args.self.now in
    let label = label_of c.args.parts in
    on_ok_weaker c.take.result
    (ends_one g.S.EntryStage.Took g.S.EntryStage.gathered old (record old { stage = c.take.new.self }) (of_meaning old.options label c.args.meaning) label (entry.Skipped) c.requires.text (refl, refl, refl)
    (λ P made l is cut. made None l (gives_skipped old.options (old.count.lines + 1) l label (subst (λ (m : Line). SaysAs old.options (bare l) label m) c.in-Skipped.is is) (c.requires.line, cut))))
    c.take.ensures.ok

pub returns-in-Skipped-clause-err : goal.returns-in-Skipped-clause-err
returns-in-Skipped-clause-err g c =
    let old = c.args.self.now in
    let label = label_of c.args.parts in
    on_err_weaker c.take.result
    (fails_one g.S.EntryStage.Took g.S.EntryStage.TookPart g.S.EntryStage.gathered old (record old { stage = c.take.new.self }) (of_meaning old.options label c.args.meaning) label (entry.Skipped)
    (λ P made l is cut. made None l (gives_skipped old.options (old.count.lines + 1) l label (subst (λ (m : Line). SaysAs old.options (bare l) label m) c.in-Skipped.is is) (c.requires.line, cut))))
    c.take.ensures.err

pub returns-in_ok-new-in-Put-clause-ok : goal.returns-in_ok-new-in-Put-clause-ok
returns-in_ok-new-in-Put-clause-ok g c =
    let old = c.args.self.now in
    let label = label_of c.args.parts in (
      [],
      sym (append-nil (g.S.EntryStage.gathered old.stage)),
      (refl, refl, refl),
      λ l is cut.
          line_begins g.S.EntryStage.Took old.options (old.count.lines + 1) old.stage l label c.in-Put.format c.in_ok-new-in-Put.field-0
          c.in_ok-new-in-Put.ensures.bytes c.in_ok-new-in-Put.ensures.format c.in_ok-new-in-Put.ensures.tag c.in_ok-new-in-Put.ensures.line c.in_ok-new-in-Put.ensures.head
          (subst (λ (m : Line). SaysAs old.options (bare l) label m) c.in-Put.is is) (c.requires.line, cut),
    )

pub returns-in_err-new-in-Put-clause-err : goal.returns-in_err-new-in-Put-clause-err
returns-in_err-new-in-Put-clause-err g c =
    let p = err_from_is_err_and c.from_residual.result c.from_residual.ensures.1 in
    rw p.1
    (fails_unread g.S.EntryStage.Took g.S.EntryStage.TookPart g.S.EntryStage.gathered g.met.S.EntryStage.is_part c.args.self.now c.args.self.now (of_meaning c.args.self.now.options (label_of c.args.parts) c.args.meaning) refl (λ P all l is cut. all None l tt))

pub returns-in-Step-clause-ok : goal.returns-in-Step-clause-ok
returns-in-Step-clause-ok g c =
    let old = c.args.self.now in
    let label = label_of c.args.parts in
    on_ok_weaker c.take-in-Step.result
    (ends_one g.S.EntryStage.Took g.S.EntryStage.gathered old (record old { stage = c.take-in-Step.new.self }) (of_meaning old.options label c.args.meaning) label (entry.Item (item.Step c.in-Step.format c.in-Step.step)) c.requires.text (refl, refl, refl)
    (λ P made l is cut. made None l (gives_step old.options (old.count.lines + 1) l label c.in-Step.format c.in-Step.step (subst (λ (m : Line). SaysAs old.options (bare l) label m) c.in-Step.is is) (c.requires.line, cut))))
    c.take-in-Step.ensures.ok

pub returns-in-Step-clause-err : goal.returns-in-Step-clause-err
returns-in-Step-clause-err g c =
    let old = c.args.self.now in
    let label = label_of c.args.parts in
    on_err_weaker c.take-in-Step.result
    (fails_one g.S.EntryStage.Took g.S.EntryStage.TookPart g.S.EntryStage.gathered old (record old { stage = c.take-in-Step.new.self }) (of_meaning old.options label c.args.meaning) label (entry.Item (item.Step c.in-Step.format c.in-Step.step))
    (λ P made l is cut. made None l (gives_step old.options (old.count.lines + 1) l label c.in-Step.format c.in-Step.step (subst (λ (m : Line). SaysAs old.options (bare l) label m) c.in-Step.is is) (c.requires.line, cut))))
    c.take-in-Step.ensures.err

pub returns-in-Sweep-clause-ok : goal.returns-in-Sweep-clause-ok
returns-in-Sweep-clause-ok g c =
    let old = c.args.self.now in
    let label = label_of c.args.parts in
    on_ok_weaker c.take-in-Sweep.result
    (ends_one g.S.EntryStage.Took g.S.EntryStage.gathered old (record old { stage = c.take-in-Sweep.new.self }) (of_meaning old.options label c.args.meaning) label (entry.Item (item.Sweep c.in-Sweep.format)) c.requires.text (refl, refl, refl)
    (λ P made l is cut. made None l (gives_sweep old.options (old.count.lines + 1) l label c.in-Sweep.format (subst (λ (m : Line). SaysAs old.options (bare l) label m) c.in-Sweep.is is) (c.requires.line, cut))))
    c.take-in-Sweep.ensures.ok

pub returns-in-Sweep-clause-err : goal.returns-in-Sweep-clause-err
returns-in-Sweep-clause-err g c =
    let old = c.args.self.now in
    let label = label_of c.args.parts in
    on_err_weaker c.take-in-Sweep.result
    (fails_one g.S.EntryStage.Took g.S.EntryStage.TookPart g.S.EntryStage.gathered old (record old { stage = c.take-in-Sweep.new.self }) (of_meaning old.options label c.args.meaning) label (entry.Item (item.Sweep c.in-Sweep.format))
    (λ P made l is cut. made None l (gives_sweep old.options (old.count.lines + 1) l label c.in-Sweep.format (subst (λ (m : Line). SaysAs old.options (bare l) label m) c.in-Sweep.is is) (c.requires.line, cut))))
    c.take-in-Sweep.ensures.err

pub returns-in-Bad-clause-ok : goal.returns-in-Bad-clause-ok
returns-in-Bad-clause-ok g c =
    let old = c.args.self.now in
    let label = label_of c.args.parts in
    on_ok_weaker c.take-in-Bad.result
    (λ h. ends_one g.S.EntryStage.Took g.S.EntryStage.gathered old (record old { stage = c.take-in-Bad.new.self }) (of_meaning old.options label c.args.meaning) label (entry.Item (item.BadLine (old.count.lines + 1))) c.requires.text (refl, refl, refl)
    (λ P made l is cut. made None l (gives_bad old.options (old.count.lines + 1) l label (subst (λ (m : Line). SaysAs old.options (bare l) label m) c.in-Bad.is is) (c.requires.line, cut)))
    (subst (λ (n : ℕ). TakesEntry g.S.EntryStage.Took g.S.EntryStage.gathered old.stage c.take-in-Bad.new.self label (entry.Item (item.BadLine n))) c.number.ensures h))
    c.take-in-Bad.ensures.ok

pub returns-in-Bad-clause-err : goal.returns-in-Bad-clause-err
returns-in-Bad-clause-err g c =
    let old = c.args.self.now in
    let label = label_of c.args.parts in
    on_err_weaker c.take-in-Bad.result
    (λ h. fails_one g.S.EntryStage.Took g.S.EntryStage.TookPart g.S.EntryStage.gathered old (record old { stage = c.take-in-Bad.new.self }) (of_meaning old.options label c.args.meaning) label (entry.Item (item.BadLine (old.count.lines + 1)))
    (λ P made l is cut. made None l (gives_bad old.options (old.count.lines + 1) l label (subst (λ (m : Line). SaysAs old.options (bare l) label m) c.in-Bad.is is) (c.requires.line, cut)))
    (subst (λ (n : ℕ). FailsEntry g.S.EntryStage.Took g.S.EntryStage.TookPart g.S.EntryStage.gathered old.stage c.take-in-Bad.new.self label (entry.Item (item.BadLine n))) c.number.ensures h))
    c.take-in-Bad.ensures.err
