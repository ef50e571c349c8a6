use Rattle.std.proofs.Common.{List, sym, subst}
use Rattle.scrib_types.specs.LocalView.{local_of}
use Rattle.scrib_machine.specs.declared.machine.Edge.{Edge}
use Rattle.scrib_machine.specs.Machines.{IsSystemOf, HasTracesOf}
use Rattle.scrib_machine.specs.Paths.{system_follows}
use Rattle.scrib_machine.proofs.States.{placed_system}
use Rattle.scrib_machine.proofs.compile.compile.Goals as goal

pub from_rows-requires : goal.from_rows-requires
from_rows-requires c =
    (placed_system c.new-rows.result.items c.lay.new.rows.items c.new-outer.result.items (local_of c.args.local.now) c.in_ok-lay.field-0 c.requires c.new-rows.ensures.items c.new-outer.ensures.items c.in_ok-lay.ensures.placed).0

pub returns-clause-system : goal.returns-clause-system
returns-clause-system c =
    let l = local_of c.args.local.now in
    let system = placed_system c.new-rows.result.items c.lay.new.rows.items c.new-outer.result.items l c.in_ok-lay.field-0 c.requires c.new-rows.ensures.items c.new-outer.ensures.items c.in_ok-lay.ensures.placed in
    subst (λ (m : List (List Edge)). IsSystemOf l m) (sym c.from_rows.ensures) system.1

pub returns-clause-follows : goal.returns-clause-follows
returns-clause-follows c =
    let l = local_of c.args.local.now in
    let system = placed_system c.new-rows.result.items c.lay.new.rows.items c.new-outer.result.items l c.in_ok-lay.field-0 c.requires c.new-rows.ensures.items c.new-outer.ensures.items c.in_ok-lay.ensures.placed in
    subst (λ (m : List (List Edge)). HasTracesOf l m) (sym c.from_rows.ensures) (system_follows l c.lay.new.rows.items system.0 system.1)
