use Rattle.std.proofs.Common.{◌*◌, ◌<◌, sym, ap, ◌∙◌, subst, arith, rules}
use Rattle.scrib_types.specs.GlobalView.{global_of, global_branches, global_comm, global_rec, global_views}
use Rattle.scrib_types.specs.LocalView.{local_views}
use Rattle.scrib_types.specs.Nodes.{global_nodes}
use Rattle.scrib_projection.specs.Surveys.{IsProjectionResult, AreOwnBranches, AreOtherBranches}
use Rattle.scrib_projection.proofs.SurveyedBranches.{branches_more, branches_end, step, end, offer_step, offer_end, merge_step, merge_end, differ_step, differ_end}
use Rattle.scrib_projection.proofs.SurveyedTypes.{several, sender, receiver, other, nodes_within}
use Rattle.scrib_projection.proofs.project_role.+project_role.Goals as goal

pub project_role-returns-in-End : goal.project_role-returns-in-End
project_role-returns-in-End t c = c.skip_uninvolved.ensures.seen _ _ (search (rules, global_views, local_views))

pub project_role-returns-in-Var : goal.project_role-returns-in-Var
project_role-returns-in-Var t c = c.skip_uninvolved.ensures.seen _ _ (search (rules, global_views, local_views))

pub project_role-returns-in_ok-outcome-in-Rec : goal.project_role-returns-in_ok-outcome-in-Rec
project_role-returns-in_ok-outcome-in-Rec t c =
    let g = ap global_of c.in-Rec.is ∙ global_rec c.in-Rec.body in
    let seen = subst (λ b. IsProjectionResult c.args.profile c.args.role.now (global_of b) c.in_ok-body-in-Rec.body) c.get.ensures c.in_ok-body-in-Rec.ensures in
    c.skip_uninvolved.ensures.seen _ _ (subst (λ x. IsProjectionResult c.args.profile c.args.role.now x c.in_ok-outcome-in-Rec.outcome) (sym g) (c.in_ok-outcome-in-Rec.ensures c.args.profile c.args.role.now _ seen))

pub project_role-returns-then-equal : goal.project_role-returns-then-equal
project_role-returns-then-equal t c =
    let g = ap global_of c.in-Comm.is ∙ global_comm c.in-Comm.from c.in-Comm.to c.in-Comm.branches in
    let seen = subst (λ bs. AreOwnBranches c.args.profile c.args.role.now (global_branches bs) c.in_ok-own_branches-in-Comm.own_branches) c.as_slice.ensures c.in_ok-own_branches-in-Comm.ensures in
    let s = c.communication-survey.ensures in
    c.skip_uninvolved.ensures.seen _ _ (subst (λ x. IsProjectionResult c.args.profile c.args.role.now x (record { survey = c.communication-survey.result; local = c.in_ok-local-in-Comm.local })) (sym g)
    (sender c.args.profile c.args.role.now _ _ _ _ _ _ _ seen.survey (several c.in-Comm.branches _ c.len-several.ensures) s.depth s.choice_count _ (sym c.equal.ensures.test ∙ c.if-equal.true) s.occurs s.first seen.locals c.in_ok-local-in-Comm.ensures))

pub project_role-returns-then-equal-2 : goal.project_role-returns-then-equal-2
project_role-returns-then-equal-2 t c =
    let g = ap global_of c.in-Comm.is ∙ global_comm c.in-Comm.from c.in-Comm.to c.in-Comm.branches in
    let seen = subst (λ bs. AreOwnBranches c.args.profile c.args.role.now (global_branches bs) c.in_ok-own_branches-in-Comm-2.own_branches) c.as_slice-then-equal-2.ensures c.in_ok-own_branches-in-Comm-2.ensures in
    let s = c.communication-survey-then-equal-2.ensures in
    c.skip_uninvolved.ensures.seen _ _ (subst (λ x. IsProjectionResult c.args.profile c.args.role.now x (record { survey = c.communication-survey-then-equal-2.result; local = c.in_ok-local-in-Comm-2.local })) (sym g)
    (receiver c.args.profile c.args.role.now _ _ _ _ _ _ _ seen.survey (several c.in-Comm.branches _ c.len-several.ensures) s.depth s.choice_count _ (sym c.equal.ensures.test ∙ c.if-equal.false) (sym c.equal-in-Comm.ensures.test ∙ c.if-equal-2.true) s.occurs s.first seen.locals c.in_ok-local-in-Comm-2.ensures))

pub project_role-returns-in_ok-others-in-Comm : goal.project_role-returns-in_ok-others-in-Comm
project_role-returns-in_ok-others-in-Comm t c =
    let g = ap global_of c.in-Comm.is ∙ global_comm c.in-Comm.from c.in-Comm.to c.in-Comm.branches in
    let seen = subst (λ bs. AreOtherBranches c.args.profile c.args.role.now (global_branches bs) c.in_ok-others-in-Comm.others) c.as_slice-in-Comm.ensures c.in_ok-others-in-Comm.ensures in
    let s = c.communication-survey-in-Comm.ensures in
    c.skip_uninvolved.ensures.seen _ _ (subst (λ x. IsProjectionResult c.args.profile c.args.role.now x (record { survey = c.communication-survey-in-Comm.result; local = c.into_local-local.result })) (sym g)
    (other c.args.profile c.args.role.now _ _ _ _ _ _ _ seen.survey (several c.in-Comm.branches _ c.len-several.ensures) s.depth s.choice_count _ (sym c.equal.ensures.test ∙ c.if-equal.false) (sym c.equal-in-Comm.ensures.test ∙ c.if-equal-2.false) s.occurs s.first (c.differs-differ.ensures c.args.profile ∙ seen.differing) (c.into_local-local.ensures c.args.profile ∙ seen.merging)))

pub project_branches-project_role-requires : goal.project_branches-project_role-requires
project_branches-project_role-requires t c =
    let falls : 2 * global_nodes (global_of c.loop-message-item.result.1) < t = omega (arith, c.decreases, nodes_within c.args.branches.now c.loop-message.message-index c.loop-message-item.result c.loop-message-item.is c.loop-message-test.true) in (falls, tt)

pub project_branches-loop-message-preserved : goal.project_branches-loop-message-preserved
project_branches-loop-message-preserved t c =
    let more = branches_more c.args.branches.now c.loop-message.message-index c.loop-message-item.result c.loop-message-test.true c.loop-message-item.is in
    let s = c.with_branch-survey.ensures in
    let so = c.loop-message.invariant in
    let offered = offer_step c.args.profile c.args.role.now _ _ _ c.in_ok-outcome.outcome _ more c.in_ok-outcome.ensures c.loop-message.locals _ so.offered in
    record {
      surveyed = step c.args.profile c.args.role.now _ _ _ c.in_ok-outcome.outcome _ more c.in_ok-outcome.ensures _ _ c.with_branch-survey.result s.depth s.occurs s.choice_count s.first so.surveyed;
      offered = rw c.in_ok-locals.ensures offered;
    }

pub project_branches-returns : goal.project_branches-returns
project_branches-returns t c =
    let none = branches_end c.args.branches.now c.loop-message.message-index c.loop-message-test.false in
    let so = c.loop-message.invariant in
    record {
      survey = end c.args.profile c.args.role.now _ _ _ none so.surveyed;
      locals = offer_end c.args.profile c.args.role.now _ c.loop-message.locals _ none so.offered;
    }

pub merge_branches-project_role-requires : goal.merge_branches-project_role-requires
merge_branches-project_role-requires t c =
    let falls : 2 * global_nodes (global_of c.in-Some.global.now) < t = omega (arith, c.decreases, c.in-Some.ensures.within) in (falls, tt)

pub merge_branches-returns-in-Some : goal.merge_branches-returns-in-Some
merge_branches-returns-in-Some t c = c.same_for_all.ensures c.args.profile c.args.role.now (c.in-Some.ensures.seen c.args.profile c.in_ok-outcome.outcome c.in_ok-outcome.ensures)

pub merge_branches-project_role-requires-in-loop-global : goal.merge_branches-project_role-requires-in-loop-global
merge_branches-project_role-requires-in-loop-global t c =
    let falls : 2 * global_nodes (global_of c.loop-global-item.result.1) < t = omega (arith, c.decreases, nodes_within c.args.branches.now c.loop-global.global-index c.loop-global-item.result c.loop-global-item.is c.loop-global-test.true) in (falls, tt)

pub merge_branches-loop-global-preserved : goal.merge_branches-loop-global-preserved
merge_branches-loop-global-preserved t c =
    let more = branches_more c.args.branches.now c.loop-global.global-index c.loop-global-item.result c.loop-global-test.true c.loop-global-item.is in
    let s = c.with_branch-survey.ensures in
    let so = c.loop-global.invariant in
    record {
      surveyed = step c.args.profile c.args.role.now _ _ _ c.in_ok-outcome-2.outcome _ more c.in_ok-outcome-2.ensures _ _ c.with_branch-survey.result s.depth s.occurs s.choice_count s.first so.surveyed;
      merging = merge_step c.args.profile c.args.role.now _ _ _ c.in_ok-outcome-2.outcome _ more c.in_ok-outcome-2.ensures c.loop-global.merge _ _ c.in_ok-merge.ensures.merged so.merging;
      differing = differ_step c.args.profile c.args.role.now _ _ _ c.in_ok-outcome-2.outcome _ more c.in_ok-outcome-2.ensures c.loop-global.merge _ _ c.in_ok-merge.ensures.differ so.differing;
    }

pub merge_branches-returns : goal.merge_branches-returns
merge_branches-returns t c =
    let none = branches_end c.args.branches.now c.loop-global.global-index c.loop-global-test.false in
    let so = c.loop-global.invariant in
    record {
      survey = end c.args.profile c.args.role.now _ _ _ none so.surveyed;
      merging = merge_end c.args.profile c.args.role.now _ c.loop-global.merge _ none so.merging;
      differing = differ_end c.args.profile c.args.role.now _ c.loop-global.merge _ none so.differing;
    }
