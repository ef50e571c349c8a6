use Rattle.std.proofs.Common.{List, subst}
use Rattle.std.specs.Option.{option_copied}
use Rattle.std.proofs.lemmas.Result.{err_from_is_err_and, IfErr-weaker}
use Rattle.scrib_tree.specs.declared.tree.ModuleTree.{ModuleTree}
use Rattle.scrib_library.specs.Edits.{HasRoom, ModuleFails}
use Rattle.scrib_library.specs.Plans.{StopsPut}
use Rattle.scrib_library.specs.Drafts.{StopsDraft}
use Rattle.scrib_library.proofs.PlanLemmas.{stopped, stopped_draft}
use Rattle.scrib_library.proofs.plan.plan_put.Goals as goal

pub returns-in_err-check_room-clause-fault : goal.returns-in_err-check_room-clause-fault
returns-in_err-check_room-clause-fault c =
    let p = err_from_is_err_and c.from_residual.result c.from_residual.ensures.1 in
    let f = c.in_err-check_room.field-0.0 in
    let stops : StopsPut c.args.profile c.args.new.now c.args.modules.now (option_copied c.args.gone) c.args.versions.now.items c.args.used f =
    (λ before placed h g s l. let P : List ModuleTree → Type 0 = λ ms. ModuleFails c.args.profile before c.args.used c.args.new.now ms f in subst P c.as_slice.ensures (c.in_err-check_room.ensures.fault c.args.profile before c.args.used)) in
    rw (p.1, p.2) stops

pub returns-in_err-meanings-clause-fault : goal.returns-in_err-meanings-clause-fault
returns-in_err-meanings-clause-fault c =
    let p = err_from_is_err_and c.from_residual-in_err-meanings.result c.from_residual-in_err-meanings.ensures.1 in
    rw (p.1, p.2) (stopped c.args.profile c.args.new.now c.args.modules.now (option_copied c.args.gone) c.args.versions.now.items c.args.used c.in_err-meanings.field-0.0 c.in_err-meanings.ensures.fault)

pub returns-clause-fault : goal.returns-clause-fault
returns-clause-fault c =
    let m = c.args.new.now in
    let gone = option_copied c.args.gone in
    let ys = c.in_ok-meanings.meanings.items in
    let vs = c.args.versions.now.items in
    let P : List ModuleTree → Type 0 = λ ms. HasRoom m ms in
    IfErr-weaker c.plan_edits.result (StopsDraft vs ys c.args.used) (StopsPut c.args.profile m c.args.modules.now gone vs c.args.used)
    (stopped_draft c.args.profile m c.args.modules.now gone vs c.args.used (subst P c.as_slice.ensures c.in_ok-check_room.ensures.ok) ys c.in_ok-meanings.ensures.sorted c.in_ok-meanings.ensures.ok)
    c.plan_edits.ensures.fault
