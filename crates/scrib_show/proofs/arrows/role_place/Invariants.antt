use Rattle.std.proofs.Common.{◌≡◌, ◌+◌, drop}
use Rattle.scrib_show.specs.ChartLines.{role_place}
use Rattle.scrib_show.proofs.arrows.role_place.Given as goal

abbrev pub invariant-loop-i : goal.invariant-loop-i
invariant-loop-i l = role_place l.role (drop l.i l.roles) + l.i ≡ role_place l.role l.roles
