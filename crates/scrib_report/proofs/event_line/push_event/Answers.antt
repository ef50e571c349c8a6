use Rattle.std.proofs.Common.{◌≤◌, ◌-◌, ◌∷◌, [], ◌∙◌, drop, length, arith}
use Rattle.std.proofs.lemmas.List.{length-drop, take_all}
use Rattle.std.specs.Fmt.{decimal}
use Rattle.scrib_report.proofs.EventLine.{line_added}
use Rattle.scrib_report.proofs.event_line.push_event.Goals as goal

pub returns-clause-ok : goal.returns-clause-ok
returns-clause-ok c =
    let line = c.write_event-id_at in
    let behind : length (drop line.result line.new.line) ≤ 49 - line.result = omega (arith, length-drop line.result line.new.line, line.auto.line) in
    line_added c.extend_from_slice.result _ _ _ (decimal c.args.id) (46 ∷ []) (decimal c.args.place) (drop c.args.digits_end c.args.template) (take_all (49 - line.result) (drop line.result line.new.line) behind ∙ line.ensures.written) c.extend_from_slice.ensures.items
