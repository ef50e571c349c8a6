use Rattle.std.proofs.Common.{◌∙◌, ◌++◌, Some, ap}
use Rattle.std.specs.Prelude.{is_some}
use Rattle.std.specs.Result.{result_ok}
use Rattle.scrib_core.specs.Held.{state_of}
use Rattle.scrib_report.specs.ReplyTexts.{swept_text}
use Rattle.scrib_cli.proofs.ItemLemmas.{sweep_printed, sweep_silent}
use Rattle.scrib_cli.proofs.item_output.gather_sweep.Goals as goal

pub returns-in_ok-add_swept-in-Printed-clause-ok : goal.returns-in_ok-add_swept-in-Printed-clause-ok
returns-in_ok-add_swept-in-Printed-clause-ok c =
    let swept = result_ok c.sweep-swept.result in
    sweep_printed c.args.output_mode c.in-Printed.output c.args.asked swept (state_of c.args.core.now) (state_of c.sweep-swept.new.core) c.args.gathered.now.bytes.items c.add_swept.new.self.bytes.items
    c.in-Printed.is
    c.sweep-swept.ensures.swept
    (c.in_ok-add_swept-in-Printed.ensures.ok ∙ ap (λ f. c.args.gathered.now.bytes.items ++ swept_text f swept) c.reply_format-format.ensures)

pub returns-in-Ok-clause-ok : goal.returns-in-Ok-clause-ok
returns-in-Ok-clause-ok c =
    sweep_silent c.args.output_mode c.args.asked (result_ok c.sweep-swept.result) (state_of c.args.core.now) (state_of c.sweep-swept.new.core) (Some c.args.gathered.now.bytes.items)
    c.in-Silent.is
    c.sweep-swept.ensures.swept
    (ap (λ r. is_some (result_ok r)) c.in-Ok.is)
