use Rattle.std.proofs.Common.{refl, sym, ap, ◌∙◌, subst}
use Rattle.std.proofs.lemmas.Result.{err_from_is_err_and}
use Rattle.scrib_elaborate.specs.declared.tasks.Task.TheVariants.{Front}
use Rattle.scrib_static_checks.specs.SourceView.{body_of}
use Rattle.scrib_static_checks.specs.Elaboration.{Scope}
use Rattle.scrib_elaborate.specs.NoExit.{Stays}
use Rattle.scrib_elaborate.specs.Typing.{AreAhead}
use Rattle.scrib_elaborate.proofs.FaultPrefixes.{choice_block, choice_ahead, more_ahead}
use Rattle.scrib_elaborate.proofs.first_fault.visit_choice.Goals as goal

pub returns-then-has_exit : goal.returns-then-has_exit
returns-then-has_exit c = λ root e chooser spot rest kept a old.
    let ms = c.args.context.now.modules.now in
    let here = subst (AreAhead ms root) (sym c.loop-branch.invariant) old in
    more_ahead ms root c.loop-branch.ahead.items c.push.new.self.items (Front c.in_ok-inside.inside c.as_slice-body.result) c.in_ok-push.ensures.items here (choice_ahead ms root c.args.scope.now c.in_ok-inside.inside c.as_slice-body.result chooser c.args.branches.now spot rest c.loop-branch.branch-index c.branch-item.result c.loop-branch-test.true c.branch-item.is c.in_ok-inside.ensures c.as_slice-body.ensures a)

pub returns-in_err-try_alone : goal.returns-in_err-try_alone
returns-in_err-try_alone c = λ root e chooser spot rest kept a old.
    let ms = c.args.context.now.modules.now in
    let p = err_from_is_err_and c.from_residual-in_err-try_alone.result c.from_residual-in_err-try_alone.ensures.1 in
    let block = choice_block ms root c.args.scope.now c.in_ok-inside.inside c.as_slice-body.result.now chooser c.args.branches.now spot rest c.loop-branch.branch-index c.branch-item.result c.loop-branch-test.true c.branch-item.is c.in_ok-inside.ensures c.as_slice-body.ensures a in
    let home = ap (λ (s : Scope). s.within.home) c.in_ok-inside.ensures.scope in
    let stays = subst (λ h. Stays ms h (body_of c.as_slice-body.result.now)) (sym home) (c.if-has_exit.ensures refl) in
    rw (p.1, p.2) (c.in_err-try_alone.ensures.fault root e kept block stays)

pub loop-branch-preserved : goal.loop-branch-preserved
loop-branch-preserved c = c.in_ok-try_alone.ensures.same ∙ c.loop-branch.invariant

pub returns : goal.returns
returns c = λ root e chooser spot rest kept a old. subst (AreAhead c.args.context.now.modules.now root) (sym c.loop-branch.invariant) old
