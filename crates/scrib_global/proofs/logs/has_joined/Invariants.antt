use Rattle.std.proofs.Common.{◌≡◌, drop}
use Rattle.scrib_types.specs.Logs.{has_joined}
use Rattle.scrib_global.proofs.logs.has_joined.Given as goal

abbrev pub invariant-loop-event : goal.invariant-loop-event
invariant-loop-event l = has_joined l.role (drop l.event-index l.log) ≡ has_joined l.role l.log
