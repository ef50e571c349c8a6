use Rattle.std.proofs.Common.{◌≡◌, ◌+◌, arith}
use Rattle.std.proofs.lemmas.Result.{on_ok_weaker}
use Rattle.scrib_labelled.specs.NamedLines.{label_of}
use Rattle.scrib_hold_labelled.proofs.StageLemmas.{keeps_item}
use Rattle.scrib_hold_labelled.proofs.line_stage.LineStage.keep_item.Goals as goal

pub returns-clause-ok : goal.returns-clause-ok
returns-clause-ok c =
    let old = c.args.self.now in
    let next : c.in-Some.number ≡ c.entries_taken.result + 1 = omega (arith, c.in-Some.ensures) in
    on_ok_weaker c.put.result
    (λ h. keeps_item old (record old { held = record old.held { sink = record old.held.sink { waiting = c.put.new.self } }; last = c.push_end.new.out }) (label_of c.args.parts) c.args.item.now c.entries_taken.result c.in-Some.number (record { lines = c.in_ok-lines.lines; closes = c.in_ok-closes.closes })
    c.entries_taken.ensures next (c.is_one_line.ensures c.if-not-is_one_line.false) c.in_ok-lines.ensures h c.in_ok-push_end.ensures)
    c.put.ensures.ok
