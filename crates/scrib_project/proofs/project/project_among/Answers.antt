use Rattle.scrib_types.specs.GlobalView.{global_of}
use Rattle.scrib_elaborate.specs.Meaning.{elaborated_meaning}
use Rattle.scrib_project.proofs.Protocols.{is_well_formed}
use Rattle.scrib_project.proofs.UndefinedProjections.{told}
use Rattle.scrib_project.proofs.project.project_among.Goals as goal

pub returns-in_ok-fault-in-None-clause-value : goal.returns-in_ok-fault-in-None-clause-value
returns-in_ok-fault-in-None-clause-value c =
    let a = elaborated_meaning c.args.elaborated.now in
    told c.args.profile a.global (global_of c.global.result.now) c.args.role.now a.roles c.in_ok-outcome.outcome c.in_ok-fault-in-None.fault
    c.global.ensures.global c.in_ok-outcome.ensures c.in-None.is (is_well_formed a.roles a.global c.global.ensures.sound) c.in_ok-fault-in-None.ensures.role
