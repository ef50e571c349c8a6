use Rattle.std.proofs.Common.{◌∙◌, ◌+◌, ℕ, List, None, refl, subst, sym}
use Rattle.std.proofs.lemmas.Result.{on_err_weaker, on_ok_weaker}
use Rattle.scrib_core.specs.declared.format.Format.TheVariants as format
use Rattle.scrib_core.specs.declared.step.Step.TheVariants.{Note}
use Rattle.scrib_script_reader.specs.declared.entry.Entry.TheVariants as entry
use Rattle.scrib_script_reader.specs.declared.item.Item.TheVariants as item
use Rattle.scrib_script_reader.specs.declared.line.Line.TheVariants as line
use Rattle.scrib_labelled.specs.ExchangeLines.{exchange_label}
use Rattle.scrib_labelled.specs.LabelledLines.{IsCutOf}
use Rattle.scrib_labelled.specs.LineEnds.{of_cut}
use Rattle.scrib_labelled.proofs.LineEndLemmas.{ends_one, fails_one, gives_step, stands_cut}
use Rattle.scrib_labelled.proofs.labelled_run.LabelledRun.end_plain_line.Goals as goal

pub returns-in-Some-clause-ok : goal.returns-in-Some-clause-ok
returns-in-Some-clause-ok g c =
    let old = c.args.self.now in
    let exchange = c.in-Some.exchange in
    let is = c.in-Some.ensures.exchange in
    let step = Note exchange.id exchange.event in
    on_ok_weaker c.note.result
    (ends_one g.S.EntryStage.Took g.S.EntryStage.gathered old (record old { stage = c.note.new.self }) (of_cut old.options c.args.line.now) (exchange_label exchange) (entry.Item (item.Step format.Line step)) c.requires (refl, refl, refl)
    (λ P made l cut. made None l (gives_step old.options (old.count.lines + 1) l (exchange_label exchange) format.Line step
    (stands_cut old.options l c.args.line.now (exchange_label exchange) is.plain (line.Step format.Line step) cut is.stands is.says) (c.in-Some.ensures.line ∙ c.number.ensures, subst (λ (t : List ℕ). IsCutOf old.options t l) (sym c.in-Some.ensures.text) cut))))
    c.note.ensures.ok

pub returns-in-Some-clause-err : goal.returns-in-Some-clause-err
returns-in-Some-clause-err g c =
    let old = c.args.self.now in
    let exchange = c.in-Some.exchange in
    let is = c.in-Some.ensures.exchange in
    let step = Note exchange.id exchange.event in
    on_err_weaker c.note.result
    (fails_one g.S.EntryStage.Took g.S.EntryStage.TookPart g.S.EntryStage.gathered old (record old { stage = c.note.new.self }) (of_cut old.options c.args.line.now) (exchange_label exchange) (entry.Item (item.Step format.Line step))
    (λ P made l cut. made None l (gives_step old.options (old.count.lines + 1) l (exchange_label exchange) format.Line step
    (stands_cut old.options l c.args.line.now (exchange_label exchange) is.plain (line.Step format.Line step) cut is.stands is.says) (c.in-Some.ensures.line ∙ c.number.ensures, subst (λ (t : List ℕ). IsCutOf old.options t l) (sym c.in-Some.ensures.text) cut))))
    c.note.ensures.err
