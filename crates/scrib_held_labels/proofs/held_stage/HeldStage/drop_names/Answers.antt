use Rattle.std.proofs.Common.{refl}
use Rattle.scrib_held_labels.specs.declared.held_stage.HeldStage.{HeldStage}
use Rattle.scrib_held_labels.specs.Stages.{HasGone, naming_of}
use Rattle.scrib_held_labels.proofs.NameLemmas.{keeps_all}
use Rattle.scrib_held_labels.proofs.StageLemmas.{keeps_more, renamed_alone, renamed_both}
use Rattle.scrib_held_labels.proofs.held_stage.HeldStage.drop_names.Goals as goal

pub loop-session-init : goal.loop-session-init
loop-session-init c = record { same = refl; kept = keeps_all (naming_of c.args.self.now) (HasGone c.args.self.now) }

pub loop-session-preserved : goal.loop-session-preserved
loop-session-preserved c =
    let first = c.args.self.now in
    let last = c.loop-session.self in
    let popped : HeldStage = record last { held = record last.held { sink = record last.held.sink { met = c.pop.new.self } } } in
    let same = renamed_both first last popped c.loop-session.invariant.same refl in
    record {
      same = renamed_both first popped c.drop_name.new.self same (renamed_alone popped c.drop_name.new.self c.drop_name.ensures.same);
      kept = keeps_more first popped c.drop_name.new.self (naming_of first) same c.loop-session.invariant.kept c.drop_name.ensures.kept;
    }
