use Rattle.std.proofs.Common.{sym, ◌∙◌}
use Rattle.scrib_static_checks.proofs.Places.{IsPlace-at}
use Rattle.scrib_static_checks.proofs.modules.place_of.Goals as goal

pub returns-then-same_name : goal.returns-then-same_name
returns-then-same_name c =
    IsPlace-at c.args.trees.now c.args.name.now c.loop-i.i c.index-trees-i.result c.loop-i-test.true c.index-trees-i.is c.loop-i.invariant (sym c.same_name.ensures ∙ c.if-same_name.true)
