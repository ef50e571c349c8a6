use Rattle.std.proofs.Common.{IsTrue, sym, ap, ◌∙◌, subst, arith}
use Rattle.std.proofs.lemmas.Grind.{common_steps}
use Rattle.std.proofs.lemmas.List.{drop_all}
use Rattle.std.proofs.lemmas.Result.{err_from_is_err_and}
use Rattle.scrib_types.specs.Agreement.{Agreement}
use Rattle.scrib_types.specs.WellFormed.{is_protocol}
use Rattle.scrib_elaborate.specs.Meaning.{elaborated_meaning}
use Rattle.scrib_project.specs.Faults.{first_without}
use Rattle.scrib_types.specs.LocalView.{local_of}
use Rattle.scrib_project.proofs.Projections.{projections_step, without_step}
use Rattle.scrib_project.proofs.Protocols.{makes_protocol}
use Rattle.scrib_project.proofs.protocol.protocol_with_projections.Goals as goal

pub new-requires : goal.new-requires
new-requires c =
    let a = elaborated_meaning c.args.elaborated in
    let none = sym c.loop-role.invariant.without ∙ ap (first_without c.args.profile a.global) (drop_all c.loop-role.role-index c.roles-role-items.result.now c.loop-role-test.false) in
    subst (λ (x : Agreement). IsTrue (is_protocol x.roles x.global)) (sym c.into_parts-roles.ensures.parts) (makes_protocol c.args.profile a.roles a.global c.roles-role-items.ensures.sound none)

pub loop-role-preserved : goal.loop-role-preserved
loop-role-preserved c =
    let g = (elaborated_meaning c.args.elaborated).global in
    let more = projections_step c.args.profile g c.roles-role-items.result.now c.loop-role.locals.items c.loop-role.role-index c.role-item.result c.in_ok-local.local c.loop-role-test.true c.role-item.is c.loop-role.invariant.made c.in_ok-local.ensures.value in
    record {
      without = without_step c.args.profile g c.roles-role-items.result.now c.loop-role.role-index c.role-item.result (local_of c.in_ok-local.local) c.loop-role-test.true c.role-item.is c.in_ok-local.ensures.value ∙ c.loop-role.invariant.without;
      made = rw c.in_ok-push.ensures.items more;
    }

pub returns-in_err-local-clause-place : goal.returns-in_err-local-clause-place
returns-in_err-local-clause-place c = λ modules home name sites.
    let p = err_from_is_err_and c.from_residual-in_err-local.result c.from_residual-in_err-local.ensures.1 in
    rw (p.1, p.2) (c.in_err-local.ensures.place modules home name sites)

pub returns-in_err-local-clause-value : goal.returns-in_err-local-clause-value
returns-in_err-local-clause-value c = grind (arith, common_steps)

pub invariant_of-result : goal.invariant_of-result
invariant_of-result c = grind (arith, common_steps)

pub returns-clause-value : goal.returns-clause-value
returns-clause-value c = grind (arith, common_steps)
