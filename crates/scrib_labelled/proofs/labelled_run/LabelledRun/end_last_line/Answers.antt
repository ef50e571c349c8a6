use Rattle.std.proofs.Common.{◌≡◌, ◌∙◌, ◌+◌, ℕ, Vec, Global, refl, sym, ap, arith}
use Rattle.std.proofs.lemmas.Bool.{eqb-true}
use Rattle.std.proofs.lemmas.List.{nil_from_length}
use Rattle.std.proofs.lemmas.Result.{on_err_weaker, on_ok_weaker}
use Rattle.scrib_labelled.specs.LineEnds.{LastLineEnds, LastLineFails}
use Rattle.scrib_labelled.proofs.LastLineLemmas.{last_ends, last_fails, last_in_text, last_none, some_items}
use Rattle.scrib_labelled.proofs.labelled_run.LabelledRun.end_last_line.Goals as goal

pub returns-then-is_empty-clause-ok : goal.returns-then-is_empty-clause-ok
returns-then-is_empty-clause-ok g c =
    last_none g.S.EntryStage.Took g.S.EntryStage.gathered c.args.self.now c.args.self.now
    (nil_from_length c.args.self.now.line.items (omega (arith, eqb-true _ 0 (sym c.is_empty.ensures ∙ c.if-is_empty.true), c.args.self.now.line.ok.0))) refl refl

pub returns-in-Some-clause-ok : goal.returns-in-Some-clause-ok
returns-in-Some-clause-ok g c =
    let old = c.args.self.now in
    let new = c.end_last_text_line.new.self in
    let kept = c.as_slice.result.now in
    let is : kept ≡ old.line.items = c.as_slice.ensures.value ∙ ap (λ (v : Vec ℕ Global). v.items) c.replace-line.ensures.value in
    let some = some_items old.line kept is (sym c.is_empty.ensures ∙ c.if-is_empty.false) in
    let was = sym c.take.ensures.value ∙ c.in-Some.is in
    on_ok_weaker c.end_last_text_line.result
    (λ e. (e.0, e.1, last_in_text old.options old.text c.in-Some.text old.line.items kept (LastLineEnds g.S.EntryStage.Took old.options (old.count.lines + 1) old.stage new.stage new.text e.0) is some was e.2))
    c.end_last_text_line.ensures.ok

pub returns-in-Some-clause-err : goal.returns-in-Some-clause-err
returns-in-Some-clause-err g c =
    let old = c.args.self.now in
    let new = c.end_last_text_line.new.self in
    let kept = c.as_slice.result.now in
    let is : kept ≡ old.line.items = c.as_slice.ensures.value ∙ ap (λ (v : Vec ℕ Global). v.items) c.replace-line.ensures.value in
    let some = some_items old.line kept is (sym c.is_empty.ensures ∙ c.if-is_empty.false) in
    let was = sym c.take.ensures.value ∙ c.in-Some.is in
    on_err_weaker c.end_last_text_line.result
    (λ e. (e.0, e.1, last_in_text old.options old.text c.in-Some.text old.line.items kept (LastLineFails g.S.EntryStage.Took g.S.EntryStage.TookPart old.options (old.count.lines + 1) old.stage e.0) is some was e.2))
    c.end_last_text_line.ensures.err

pub returns-clause-ok : goal.returns-clause-ok
returns-clause-ok g c =
    let old = c.args.self.now in
    let new = c.end_any_plain_line.new.self in
    let kept = c.as_slice-in-None.result.now in
    let is : kept ≡ old.line.items = c.as_slice-in-None.ensures.value ∙ ap (λ (v : Vec ℕ Global). v.items) c.replace-line.ensures.value in
    let some = some_items old.line kept is (sym c.is_empty.ensures ∙ c.if-is_empty.false) in
    let was = sym c.take.ensures.value ∙ c.in-None.is in
    on_ok_weaker c.end_any_plain_line.result
    (λ e. (e.0, e.1, last_ends g.S.EntryStage.Took old.options (old.count.lines + 1) old.stage new.stage old.text new.text e.0 old.line.items kept is some was e.3))
    c.end_any_plain_line.ensures.ok

pub returns-clause-err : goal.returns-clause-err
returns-clause-err g c =
    let old = c.args.self.now in
    let new = c.end_any_plain_line.new.self in
    let kept = c.as_slice-in-None.result.now in
    let is : kept ≡ old.line.items = c.as_slice-in-None.ensures.value ∙ ap (λ (v : Vec ℕ Global). v.items) c.replace-line.ensures.value in
    let some = some_items old.line kept is (sym c.is_empty.ensures ∙ c.if-is_empty.false) in
    let was = sym c.take.ensures.value ∙ c.in-None.is in
    on_err_weaker c.end_any_plain_line.result
    (λ e. (e.0, e.1, last_fails g.S.EntryStage.Took g.S.EntryStage.TookPart old.options (old.count.lines + 1) old.stage old.text e.0 old.line.items kept is some was e.2))
    c.end_any_plain_line.ensures.err
