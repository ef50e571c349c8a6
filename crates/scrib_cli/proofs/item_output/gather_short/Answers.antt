use Rattle.std.proofs.Common.{Some, refl, ap}
use Rattle.std.proofs.lemmas.Result.{on_ok_weaker}
use Rattle.scrib_core.specs.Held.{state_of}
use Rattle.scrib_core.specs.declared.format.Format.TheVariants as format
use Rattle.scrib_core.specs.declared.step.Step.TheVariants.{Ask, Note, Open}
use Rattle.scrib_script_reader.specs.declared.item.Item.TheVariants as item
use Rattle.scrib_script_reader.specs.ShortLines.{short_items}
use Rattle.scrib_cli.proofs.ItemLemmas.{bad_line_written, short_carried_out, skipped}
use Rattle.scrib_cli.proofs.item_output.gather_short.Goals as goal

pub returns-in-Note-clause-ok : goal.returns-in-Note-clause-ok
returns-in-Note-clause-ok c =
    on_ok_weaker c.gather_note.result (short_carried_out c.args.output_mode c.args.line (item.Step format.Line (Note c.in-Note.id c.in-Note.event)) (state_of c.args.core.now) (state_of c.gather_note.new.core) (Some c.args.gathered.now.bytes.items) (Some c.gather_note.new.gathered.bytes.items) (ap short_items c.in-Note.is)) c.gather_note.ensures.ok

pub returns-in-Ask-clause-ok : goal.returns-in-Ask-clause-ok
returns-in-Ask-clause-ok c =
    on_ok_weaker c.gather_asked.result (short_carried_out c.args.output_mode c.args.line (item.Step format.Line (Ask c.in-Ask.id)) (state_of c.args.core.now) (state_of c.gather_asked.new.core) (Some c.args.gathered.now.bytes.items) (Some c.gather_asked.new.gathered.bytes.items) (ap short_items c.in-Ask.is)) c.gather_asked.ensures.ok

pub returns-in-Open-clause-ok : goal.returns-in-Open-clause-ok
returns-in-Open-clause-ok c =
    on_ok_weaker c.gather_opened.result (short_carried_out c.args.output_mode c.args.line (item.Step format.Line (Open c.in-Open.id c.in-Open.name)) (state_of c.args.core.now) (state_of c.gather_opened.new.core) (Some c.args.gathered.now.bytes.items) (Some c.gather_opened.new.gathered.bytes.items) (ap short_items c.in-Open.is)) c.gather_opened.ensures.ok

pub returns-in-Bad-clause-ok : goal.returns-in-Bad-clause-ok
returns-in-Bad-clause-ok c =
    let state = state_of c.args.core.now in
    let was = Some c.args.gathered.now.bytes.items in
    let now = Some c.gather_bad_line.new.gathered.bytes.items in
    let bad = item.BadLine c.in-Bad.number in
    on_ok_weaker c.gather_bad_line.result (λ shown. short_carried_out c.args.output_mode c.args.line bad state state was now (ap short_items c.in-Bad.is) (bad_line_written c.args.output_mode bad state was now c.in-Bad.number refl shown)) c.gather_bad_line.ensures.ok

pub returns-in-Skipped-clause-ok : goal.returns-in-Skipped-clause-ok
returns-in-Skipped-clause-ok c =
    skipped c.args.output_mode c.args.line (state_of c.args.core.now) (Some c.args.gathered.now.bytes.items) (ap short_items c.in-Skipped.is)
