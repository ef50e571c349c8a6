use Rattle.std.proofs.Common.{◌≡◌, ◌++◌, map, drop}
use Rattle.serde_json.specs.View.{view}
use Rattle.scrib_report.specs.Json.{action_item}
use Rattle.scrib_findings.proofs.json_values.actions_value.Given as goal

abbrev pub invariant-loop-action : goal.invariant-loop-action
invariant-loop-action l = map view l.values.items ++ map action_item (drop l.action-index l.actions) ≡ map action_item l.actions
