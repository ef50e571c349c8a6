use Rattle.std.proofs.Common.{List, subst, sym}
use Rattle.scrib_types.specs.Meaning.{agreement_of}
use Rattle.scrib_machine.specs.declared.machine.Edge.{Edge}
use Rattle.scrib_record.specs.RoleMachines.{AreMachinesOf}
use Rattle.scrib_record.proofs.MachineLemmas.{all_compilable, are_machines}
use Rattle.scrib_record.proofs.machines.machines_of.Goals as goal

pub compile_all-requires : goal.compile_all-requires
compile_all-requires c =
    let a = agreement_of c.args.protocol.now in all_compilable a.roles a.global c.args.locals.now c.roles-roles.ensures.valid c.requires.small c.requires.projections

pub returns : goal.returns
returns c =
    let a = agreement_of c.args.protocol.now in
    subst (λ (ms : List (List (List Edge))). AreMachinesOf a ms) (sym c.from_vec.ensures)
    (are_machines a c.args.locals.now c.in_ok-machines.machines.items c.requires.projections c.in_ok-machines.ensures)
