use Rattle.std.proofs.Common.{◌∙◌, sym, ap}
use Rattle.scrib_global.proofs.LogPrefixes.{own_more, own_same}
use Rattle.scrib_global.proofs.logs.own_actions.Goals.{then-is_action_of+in_ok-action_of+in_ok-push, else-is_action_of}
use Rattle.scrib_global.proofs.logs.own_actions.Goals as goal

pub loop-event-preserved : goal.loop-event-preserved
loop-event-preserved c = elim c.if-is_action_of.branch [
  | then-is_action_of+in_ok-action_of+in_ok-push w ↦
      own_more c.args.role.now c.args.log.now c.loop-event.event-index c.event-item.result c.loop-event.acts.items c.if-is_action_of.acts.items w.in_ok-action_of.field-0 c.loop-event-test.true c.event-item.is
      (sym c.is_action_of.ensures ∙ w.if-is_action_of.true) w.in_ok-action_of.ensures c.loop-event.invariant (ap (λ v. v.items) w.acts-is ∙ w.in_ok-push.ensures.items)
  | else-is_action_of w ↦
      ap (λ v. v.items) w.acts-is
      ∙ own_same c.args.role.now c.args.log.now c.loop-event.event-index c.event-item.result c.loop-event.acts.items c.loop-event-test.true c.event-item.is
      (sym c.is_action_of.ensures ∙ w.if-is_action_of.false) c.loop-event.invariant
]
