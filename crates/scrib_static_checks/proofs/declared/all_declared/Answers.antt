use Rattle.std.proofs.Common.{◌<◌, ◌++◌, length, get_or, ap, sym, ◌∙◌, subst, arith}
use Rattle.std.proofs.lemmas.Grind.{common_steps}
use Rattle.scrib_static_checks.specs.Names.{declared_in}
use Rattle.scrib_static_checks.proofs.Places.{declarations-more}
use Rattle.scrib_static_checks.proofs.declared.all_declared.Goals as goal

pub loop-i-preserved : goal.loop-i-preserved
loop-i-preserved c =
    let home = c.home-item.result in
    let same = c.as_slice-home-items.ensures in
    record {
      shown =
          c.in_ok-declare.ensures.all ∙ ap (λ xs. xs ++ declared_in home home.protocols) c.loop-i.invariant.shown ∙ sym (declarations-more c.args.modules.now c.loop-i.i home (subst (λ ms. c.loop-i.i < length ms) same c.loop-i-test.true) (c.home-item.is ∙ ap (λ ms. get_or ms c.loop-i.i home) same));
      names_checked = c.in_ok-declare.ensures.names_checked;
    }

pub declare-requires-clause-so : goal.declare-requires-clause-so
declare-requires-clause-so c = grind (arith, common_steps)

pub returns-clause-all : goal.returns-clause-all
returns-clause-all c = grind (arith, common_steps)
