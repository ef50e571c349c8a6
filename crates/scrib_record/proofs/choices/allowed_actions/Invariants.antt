use Rattle.std.proofs.Common.{map}
use Rattle.scrib_record.specs.Configurations.{IsEnabled, in_flight}
use Rattle.scrib_record.proofs.NextActions.{act_of, PassSoFar}
use Rattle.scrib_record.proofs.choices.allowed_actions.Given as goal

abbrev pub invariant-loop-edge : goal.invariant-loop-edge
invariant-loop-edge l = PassSoFar (IsEnabled l.roles (in_flight l.configuration) l.at) (map act_of l.edges) l.edge-index l.list
