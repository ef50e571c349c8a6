use Rattle.std.proofs.Common.{refl}
use Rattle.scrib_hold_labelled.specs.declared.line_stage.LineStage.{LineStage}
use Rattle.scrib_hold_labelled.specs.Stages.{HasGone, naming_of}
use Rattle.scrib_held_labels.proofs.NameLemmas.{keeps_all}
use Rattle.scrib_hold_labelled.proofs.StageLemmas.{keeps_more, renamed_alone, renamed_both}
use Rattle.scrib_hold_labelled.proofs.line_stage.LineStage.drop_names.Goals as goal

pub loop-name-init : goal.loop-name-init
loop-name-init c = record { same = refl; kept = keeps_all (naming_of c.args.self.now) (HasGone c.args.self.now) }

pub loop-name-preserved : goal.loop-name-preserved
loop-name-preserved c =
    let first = c.args.self.now in
    let last = c.loop-name.self in
    let popped : LineStage = record last { held = record last.held { sink = record last.held.sink { closed = c.pop.new.self } } } in
    let same = renamed_both first last popped c.loop-name.invariant.same refl in
    record {
      same = renamed_both first popped c.drop_name.new.self same (renamed_alone popped c.drop_name.new.self c.drop_name.ensures.same);
      kept = keeps_more first popped c.drop_name.new.self (naming_of first) same c.loop-name.invariant.kept c.drop_name.ensures.kept;
    }
