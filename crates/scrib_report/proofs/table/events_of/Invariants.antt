use Rattle.std.proofs.Common.{◌≡◌, ◌≤◌, ◌*◌, ◌^◌, take}
use Rattle.scrib_report.specs.Table.{events_of}
use Rattle.scrib_report.proofs.table.events_of.Given as goal

abbrev pub invariant-loop-ended : goal.invariant-loop-ended
invariant-loop-ended l = record {
  sum : l.events ≡ events_of (take l.ended-index l.list);
  small : l.events ≤ l.ended-index * 2 ^ 64;
}
