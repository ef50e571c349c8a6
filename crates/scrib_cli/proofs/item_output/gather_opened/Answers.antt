use Rattle.std.proofs.Common.{Some, refl, sym, subst}
use Rattle.std.proofs.lemmas.Result.{on_ok_weaker}
use Rattle.scrib_core.specs.declared.format.Format.TheVariants as format
use Rattle.scrib_core.specs.declared.reply.Reply.{Reply}
use Rattle.scrib_core.specs.declared.step.Step.TheVariants.{Open}
use Rattle.scrib_core.specs.Answers.{IsAnswered}
use Rattle.scrib_core.specs.Held.{state_of}
use Rattle.scrib_core.specs.ReplyValues.{open_reply_of}
use Rattle.scrib_script_reader.specs.declared.item.Item.TheVariants as item
use Rattle.scrib_cli.proofs.ItemLemmas.{shown_plainly, shown_silently, step_written}
use Rattle.scrib_cli.proofs.item_output.gather_opened.Goals as goal

pub returns-in_ok-add_opened-in-Printed-clause-ok : goal.returns-in_ok-add_opened-in-Printed-clause-ok
returns-in_ok-add_opened-in-Printed-clause-ok c =
    let step = Open c.args.id c.args.name.now in
    let reply = open_reply_of c.args.id c.open_conversation-opened.result in
    step_written c.args.output_mode (item.Step format.Line step) (state_of c.args.core.now) (state_of c.open_conversation-opened.new.self) (Some c.args.gathered.now.bytes.items) (Some c.add_opened.new.self.bytes.items) format.Line step reply refl
    c.open_conversation-opened.ensures.answered
    (shown_plainly c.args.output_mode c.in-Printed.format reply c.args.gathered.now.bytes.items c.add_opened.new.self.bytes.items c.in-Printed.is c.in_ok-add_opened-in-Printed.ensures.ok)

pub returns-in-Silent-clause-ok : goal.returns-in-Silent-clause-ok
returns-in-Silent-clause-ok c =
    let step = Open c.args.id c.args.name.now in
    let reply = c.open_reply.result in
    let answered = subst (λ (r : Reply). IsAnswered (state_of c.args.core.now) step r (state_of c.open_conversation-opened.new.self)) (sym c.open_reply.ensures) c.open_conversation-opened.ensures.answered in
    let held = Some c.args.gathered.now.bytes.items in
    on_ok_weaker c.check_memory.result
    (λ kept. step_written c.args.output_mode (item.Step format.Line step) (state_of c.args.core.now) (state_of c.open_conversation-opened.new.self) held held format.Line step reply refl answered (shown_silently c.args.output_mode format.Line reply held c.in-Silent.is kept))
    c.check_memory.ensures.ok
