use Rattle.std.proofs.Common.{◌≡◌, take}
use Rattle.scrib_elaborate.specs.Typing.{origin_sites}
use Rattle.scrib_elaborate.proofs.elaborate.choice_sites.Given as goal

abbrev pub invariant-loop-found : goal.invariant-loop-found
invariant-loop-found l = l.found_sites.items ≡ origin_sites (take l.found-index l.origins)
