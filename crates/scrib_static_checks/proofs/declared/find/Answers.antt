use Rattle.std.proofs.Common.{sym, ◌∙◌}
use Rattle.std.proofs.lemmas.Bool.{and_from}
use Rattle.scrib_static_checks.specs.Names.{is_called}
use Rattle.scrib_static_checks.proofs.Places.{IsFound-at}
use Rattle.scrib_static_checks.proofs.declared.find.Goals as goal

pub returns-then-same_name : goal.returns-then-same_name
returns-then-same_name c =
    IsFound-at (is_called c.args.home.now c.args.name.now) c.args.declared.now c.loop-i.i c.index-declared-i.result c.loop-i-test.true c.index-declared-i.is c.loop-i.invariant
    (and_from _ _ (sym c.equal.ensures.test ∙ c.if-equal.true) (sym c.same_name.ensures ∙ c.if-same_name.true))
