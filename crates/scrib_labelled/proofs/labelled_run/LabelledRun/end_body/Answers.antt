use Rattle.std.proofs.Common.{◌≡◌, ◌≤◌, ◌∙◌, Option, ◌++◌, ◌+◌, [], ◌∷◌, ℕ, take, min, length, refl, sym, subst, ap, arith, Vec, Global}
use Rattle.std.proofs.lemmas.Bool.{eqb-true}
use Rattle.std.proofs.lemmas.List.{nil_from_length}
use Rattle.std.proofs.lemmas.Result.{err_from_is_err_and, on_err_weaker, on_ok_weaker}
use Rattle.scrib_labelled.specs.LabelledScripts.{LabelledText}
use Rattle.scrib_labelled.specs.LineEnds.{LineEnds, of_body, of_kept}
use Rattle.scrib_labelled.specs.Readings.{HoldsUnended, kept_len}
use Rattle.scrib_labelled.proofs.LineEndLemmas.{fails_of, fails_unread}
use Rattle.scrib_labelled.proofs.RunLemmas.{body_long, body_short, take_least}
use Rattle.scrib_labelled.proofs.labelled_run.LabelledRun.end_body.Goals as goal

pub returns-then-is_empty-clause-ok : goal.returns-then-is_empty-clause-ok
returns-then-is_empty-clause-ok g c =
    let old = c.args.self.now in
    let new = c.end_line.new.self in
    let none : old.line.items ≡ [] = nil_from_length old.line.items (omega (arith, eqb-true _ 0 (sym c.is_empty.ensures ∙ c.if-is_empty.true), old.line.ok.0)) in
    on_ok_weaker c.end_line.result
    (λ e. record {
      options = e.2.0;
      line = ap (λ (v : Vec ℕ Global). v.items) e.2.1 ∙ none;
      count = e.2.2;
      more = e.0;
      grows = e.1;
      ends = body_short old.options old.text old.line.items c.args.body.now (take c.min.result c.args.body.now) (LineEnds g.S.EntryStage.Took old.options (old.count.lines + 1) old.stage new.stage new.text e.0) none
          (λ before held. take_least _ c.min.result c.args.body.now (c.min.ensures ∙ ap (min (length c.args.body.now)) (c.capacity-capacity.ensures before held))) e.3;
    })
    c.end_line.ensures.ok

pub returns-then-is_empty-clause-err : goal.returns-then-is_empty-clause-err
returns-then-is_empty-clause-err g c =
    let old = c.args.self.now in
    let none : old.line.items ≡ [] = nil_from_length old.line.items (omega (arith, eqb-true _ 0 (sym c.is_empty.ensures ∙ c.if-is_empty.true), old.line.ok.0)) in
    let kept = take c.min.result c.args.body.now in
    on_err_weaker c.end_line.result
    (fails_of g.S.EntryStage.Took g.S.EntryStage.TookPart g.S.EntryStage.gathered old c.end_line.new.self (of_kept old.options old.text kept) (of_body old.options old.text old.line.items c.args.body.now)
    (λ P. body_short old.options old.text old.line.items c.args.body.now kept P none
    (λ before held. take_least _ c.min.result c.args.body.now (c.min.ensures ∙ ap (min (length c.args.body.now)) (c.capacity-capacity.ensures before held)))))
    c.end_line.ensures.err

pub returns-in_err-append_up_to-clause-err : goal.returns-in_err-append_up_to-clause-err
returns-in_err-append_up_to-clause-err g c =
    let p = err_from_is_err_and c.from_residual.result c.from_residual.ensures.1 in
    rw p.1
    (fails_unread g.S.EntryStage.Took g.S.EntryStage.TookPart g.S.EntryStage.gathered g.met.S.EntryStage.is_part c.args.self.now c.args.self.now (of_body c.args.self.now.options c.args.self.now.text c.args.self.now.line.items c.args.body.now) refl
    (λ P all before part held is. all before ((part ++ c.args.body.now) ++ 10 ∷ []) tt))

pub returns-clause-ok : goal.returns-clause-ok
returns-clause-ok g c =
    let old = c.args.self.now in
    let new = c.end_any_line.new.self in
    let kept_is : (before : Option LabelledText) → HoldsUnended old.text before → length old.line.items ≤ kept_len old.options before → c.as_slice.result.now ≡ take (kept_len old.options before) (old.line.items ++ c.args.body.now) =
    λ before held short.
    let e = c.capacity-capacity.ensures before held in
    c.as_slice.ensures.value ∙ ap (λ (v : Vec ℕ Global). v.items) c.replace-line.ensures.value
    ∙ subst (λ (n : ℕ). c.append_up_to.new.kept.items ≡ take n (old.line.items ++ c.args.body.now)) e (c.in_ok-append_up_to.ensures (omega (arith, short, e, old.line.ok.0))) in
    on_ok_weaker c.end_any_line.result
    (λ ended. record {
      options = ended.2.0;
      line = ap (λ (v : Vec ℕ Global). v.items) (ended.2.1 ∙ c.replace-line.ensures.after) ∙ c.new.ensures.items;
      count = ended.2.2;
      more = ended.0;
      grows = ended.1;
      ends =
          body_long old.options old.text old.line.items c.args.body.now c.as_slice.result.now (LineEnds g.S.EntryStage.Took old.options (old.count.lines + 1) old.stage new.stage new.text ended.0) kept_is ended.3;
    })
    c.end_any_line.ensures.ok

pub returns-clause-err : goal.returns-clause-err
returns-clause-err g c =
    let old = c.args.self.now in
    on_err_weaker c.end_any_line.result
    (fails_of g.S.EntryStage.Took g.S.EntryStage.TookPart g.S.EntryStage.gathered old c.end_any_line.new.self (of_kept old.options old.text c.as_slice.result.now) (of_body old.options old.text old.line.items c.args.body.now)
    (λ P. body_long old.options old.text old.line.items c.args.body.now c.as_slice.result.now P
    (λ before held short.
    let e = c.capacity-capacity.ensures before held in
    c.as_slice.ensures.value ∙ ap (λ (v : Vec ℕ Global). v.items) c.replace-line.ensures.value
    ∙ subst (λ (n : ℕ). c.append_up_to.new.kept.items ≡ take n (old.line.items ++ c.args.body.now)) e (c.in_ok-append_up_to.ensures (omega (arith, short, e, old.line.ok.0))))))
    c.end_any_line.ensures.err
