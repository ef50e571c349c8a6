use Rattle.std.proofs.Common.{◌≡◌, ◌+◌, arith}
use Rattle.std.proofs.lemmas.Result.{on_ok_weaker}
use Rattle.scrib_labelled.specs.NamedLines.{label_of}
use Rattle.scrib_held_labels.proofs.LabelLemmas.{labels_none, labels_put}
use Rattle.scrib_held_labels.proofs.held_stage.HeldStage.put_label.Goals as goal

pub returns-then-is_skipped-clause-ok : goal.returns-then-is_skipped-clause-ok
returns-then-is_skipped-clause-ok c = labels_none c.args.self.now (label_of c.args.parts) c.args.entry.now

pub returns-clause-ok : goal.returns-clause-ok
returns-clause-ok c =
    let old = c.args.self.now in
    let next : c.in-Some.number ≡ c.entries_taken.result + 1 = omega (arith, c.in-Some.ensures) in
    on_ok_weaker c.put.result
    (λ h. labels_put old (record old { held = record old.held { sink = record old.held.sink { waiting = c.put.new.self } } }) (label_of c.args.parts) c.args.entry.now c.entries_taken.result c.in-Some.number c.in_ok-kept.kept
    c.entries_taken.ensures next c.in_ok-kept.ensures h)
    c.put.ensures.ok
