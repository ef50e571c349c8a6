use Rattle.std.proofs.Common.{◌≡◌, ◌≤◌, ◌+◌, drop, length}
use Rattle.scrib_show.specs.ChartLines.{received}
use Rattle.scrib_show.proofs.arrows.count_received.Given as goal

abbrev pub invariant-loop-event : goal.invariant-loop-event
invariant-loop-event l = record {
  counted : l.count + length (received (drop l.event-index l.log)) ≡ length (received l.log);
  few : l.count ≤ l.event-index;
}
