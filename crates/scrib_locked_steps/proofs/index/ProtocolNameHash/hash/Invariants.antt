use Rattle.std.proofs.Common.{◌≡◌, take, fold}
use Rattle.std.specs.List.{flat_map}
use Rattle.std.specs.Hash as fed
use Rattle.scrib_locked_steps.proofs.index.ProtocolNameHash.hash.Given as goal

abbrev pub invariant-loop-part : goal.invariant-loop-part
invariant-loop-part g l = l.state ≡ fold g.H.Hasher.write l.initial.state (flat_map (fed.slice fed.u8) (take l.part-index l.self.name))
