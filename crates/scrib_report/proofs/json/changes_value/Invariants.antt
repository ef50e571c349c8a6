use Rattle.std.proofs.Common.{◌≡◌, ◌++◌, map, drop}
use Rattle.serde_json.specs.View.{view}
use Rattle.scrib_report.specs.Json.{change_item}
use Rattle.scrib_report.proofs.json.changes_value.Given as goal

abbrev pub invariant-loop-change : goal.invariant-loop-change
invariant-loop-change l = map view l.values.items ++ map change_item (drop l.change-index l.changes) ≡ map change_item l.changes
