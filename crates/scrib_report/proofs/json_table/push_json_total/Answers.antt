use Rattle.std.proofs.lemmas.Result.{on_ok_weaker}
use Rattle.scrib_report.proofs.Totals.{json_total_joined}
use Rattle.scrib_report.proofs.json_table.push_json_total.Goals as goal

pub returns : goal.returns
returns c = on_ok_weaker c.push_count-2.result
    (json_total_joined c.args.conversations c.args.events _ _ _ _ c.in_ok-push_bytes.ensures c.in_ok-push_count.ensures)
    c.push_count-2.ensures
