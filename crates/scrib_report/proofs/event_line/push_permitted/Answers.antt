use Rattle.std.proofs.Common.{◌∙◌}
use Rattle.std.proofs.lemmas.Result.{on_ok_weaker}
use Rattle.scrib_report.proofs.EventLine.{line_and_end}
use Rattle.scrib_report.proofs.event_line.push_permitted.Goals as goal

pub returns-clause-ok : goal.returns-clause-ok
returns-clause-ok c =
    on_ok_weaker c.push_event.result (λ e. e ∙ line_and_end c.args.out.now.items c.args.id c.args.place) c.push_event.ensures.ok
