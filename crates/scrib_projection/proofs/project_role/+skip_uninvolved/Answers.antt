use Rattle.std.proofs.Common.{get_or, sym, ap, ◌∙◌, subst, arith}
use Rattle.scrib_types.specs.Trees.{Comm}
use Rattle.scrib_types.specs.GlobalView.{global_of, global_branches, global_comm}
use Rattle.scrib_types.specs.Nodes.{global_nodes}
use Rattle.scrib_projection.specs.Surveys.{IsProjectionResult}
use Rattle.scrib_projection.proofs.SurveyedTypes.{only, alone}
use Rattle.scrib_projection.proofs.project_role.+skip_uninvolved.Goals as goal

pub returns-then-not-equal-2-clause-seen : goal.returns-then-not-equal-2-clause-seen
returns-then-not-equal-2-clause-seen t c = λ profile s seen.
    let from = c.in-Comm.from in
    let to = c.in-Comm.to in
    let b = get_or c.as_slice.result.now 0 c.index-follows-0.result in
    let one = only c.as_slice.result.now c.index-follows-0.result c.in-len1.len_at_least c.in-len1.len_below in
    let g = ap global_of c.in-Comm.is ∙ global_comm from to c.in-Comm.branches ∙ ap (λ bs. Comm from to (global_branches bs)) (sym c.as_slice.ensures) ∙ ap (Comm from to) one in
    subst (λ x. IsProjectionResult profile c.args.role.now x s) (sym g) (alone profile c.args.role.now from to b.0 (global_of b.1) s (sym c.equal.ensures.test ∙ c.if-not-equal.true) (sym c.equal-then-not-equal.ensures.test ∙ c.if-not-equal-2.true) (c.skip_uninvolved.ensures.seen profile s seen))

pub returns-then-not-equal-2-clause-within : goal.returns-then-not-equal-2-clause-within
returns-then-not-equal-2-clause-within t c =
    let from = c.in-Comm.from in
    let to = c.in-Comm.to in
    let b = get_or c.as_slice.result.now 0 c.index-follows-0.result in
    let one = only c.as_slice.result.now c.index-follows-0.result c.in-len1.len_at_least c.in-len1.len_below in
    let g = ap global_of c.in-Comm.is ∙ global_comm from to c.in-Comm.branches ∙ ap (λ bs. Comm from to (global_branches bs)) (sym c.as_slice.ensures) ∙ ap (Comm from to) one in
    omega (arith, c.skip_uninvolved.ensures.within, ap global_nodes g)
