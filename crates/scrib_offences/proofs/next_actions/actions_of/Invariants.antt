use Rattle.std.proofs.Common.{◌≡◌, take}
use Rattle.scrib_offences.specs.Participants.{actions_of}
use Rattle.scrib_offences.proofs.next_actions.actions_of.Given as goal

abbrev pub invariant-loop-edge : goal.invariant-loop-edge
invariant-loop-edge l = l.actions ≡ actions_of (take l.edge-index l.edges)
