use Rattle.std.proofs.Common.{subst}
use Rattle.scrib_projection.specs.Surveys.{AreSeen}
use Rattle.scrib_projection.proofs.EqualBranches.{alike_others}
use Rattle.scrib_projection.proofs.SurveyedBranches.{branches_more, step}
use Rattle.scrib_projection.proofs.project_role.same_for_all.Goals as goal

pub loop-preserved : goal.loop-preserved
loop-preserved c = λ profile r seen.
    let so = c.loop.invariant profile r seen in
    let more = branches_more c.args.branches.now c.loop.index c.loop-item.result c.loop-test.true c.loop-item.is in
    let here = subst (AreSeen profile r c.args.outcome) more so.1 in
    let s = c.with_branch-survey.ensures in (
      step profile r _ _ _ c.args.outcome _ more here.0 _ _ c.with_branch-survey.result s.depth s.occurs s.choice_count s.first so.0,
      here.1,
    )

pub returns : goal.returns
returns c = λ profile r seen.
    let so = c.loop.invariant profile r seen in
    alike_others profile r c.args.outcome c.args.branches.now c.loop.index c.loop.survey c.of-merge.result c.requires c.loop-test.false so.0 seen c.of-merge.ensures
