use Rattle.std.proofs.Common.{IfErr, subst}
use Rattle.scrib_elaborate.specs.Meaning.{elaborated_meaning}
use Rattle.scrib_project.specs.Faults.{IsOfSite}
use Rattle.scrib_project.proofs.PositionLemmas.{fault_placed}
use Rattle.scrib_project.proofs.project.project.Goals as goal

pub returns-clause-place : goal.returns-clause-place
returns-clause-place c = λ modules home name sites.
    let e = c.args.elaborated.now in
    let at = subst (λ js. IfErr c.project_among.result (IsOfSite c.args.profile js (elaborated_meaning e).global)) c.sites.ensures c.project_among.ensures.place in
    fault_placed c.args.profile modules home name e c.args.role.now c.project_among.result sites c.project_among.ensures.value at
