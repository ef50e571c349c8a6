use Rattle.std.proofs.Common.{◌∙◌, sym}
use Rattle.scrib_labels.specs.Naming.{number_of}
use Rattle.scrib_hold_labelled.specs.Stages.{HasGone, naming_of}
use Rattle.scrib_held_labels.proofs.NameLemmas.{keeps_dropped}
use Rattle.scrib_hold_labelled.proofs.line_stage.LineStage.drop_name.Goals as goal

pub returns-then-not-has_left-clause-kept : goal.returns-then-not-has_left-clause-kept
returns-then-not-has_left-clause-kept c =
    let old = c.args.self.now in
    keeps_dropped (naming_of old) (number_of c.remove.new.self) c.args.name.now c.in-Some.number (HasGone old) (sym c.number_of.ensures ∙ c.in-Some.is) (c.has_left.ensures c.if-not-has_left.true) c.remove.ensures
