use Rattle.std.proofs.Common.{◌≡◌, take}
use Rattle.scrib_types.specs.Logs.{own_actions}
use Rattle.scrib_global.proofs.logs.own_actions.Given as goal

abbrev pub invariant-loop-event : goal.invariant-loop-event
invariant-loop-event l = l.acts.items ≡ own_actions l.role (take l.event-index l.log)
