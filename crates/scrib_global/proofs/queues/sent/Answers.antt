use Rattle.std.proofs.Common.{◌∙◌, sym, ap}
use Rattle.scrib_types.specs.Queues.{sent_message}
use Rattle.scrib_global.proofs.LogPrefixes.{given_more, given_none}
use Rattle.scrib_global.proofs.queues.sent.Goals.{in-Some+in_ok-push-in-Some, in-None}
use Rattle.scrib_global.proofs.queues.sent.Goals as goal

pub loop-event-preserved : goal.loop-event-preserved
loop-event-preserved c = elim c.match-branch-2.branch [
  | in-Some+in_ok-push-in-Some w ↦
      given_more (sent_message c.args.from.now c.args.to.now) c.args.log.now c.loop-event.event-index c.event-item.result c.loop-event.messages.items c.match-branch-2.messages.items w.in-Some.message c.loop-event-test.true c.event-item.is
      (sym c.in_ok-message.ensures ∙ w.in-Some.is) c.loop-event.invariant (ap (λ v. v.items) w.messages-is ∙ w.in_ok-push-in-Some.ensures.items)
  | in-None w ↦
      ap (λ v. v.items) w.messages-is
      ∙ given_none (sent_message c.args.from.now c.args.to.now) c.args.log.now c.loop-event.event-index c.event-item.result c.loop-event.messages.items c.loop-event-test.true c.event-item.is
      (sym c.in_ok-message.ensures ∙ w.in-None.is) c.loop-event.invariant
]
