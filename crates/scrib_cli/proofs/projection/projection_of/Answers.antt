use Rattle.std.proofs.Common.{[], sym, subst}
use Rattle.scrib_static_checks.specs.declared.fault.Fault.{Fault}
use Rattle.scrib_elaborate.specs.Meaning.{elaborated_meaning}
use Rattle.scrib_static_checks.specs.Elaboration.{Elaborates}
use Rattle.scrib_static_checks.specs.Faults.{IsBroken}
use Rattle.scrib_elaborate.specs.Sites.{AreSites}
use Rattle.scrib_library.specs.declared.fault.EditFault.TheVariants as edit
use Rattle.scrib_cli.specs.declared.projection.Projection.TheVariants.{Refused}
use Rattle.scrib_cli.specs.Projections.{IsFullName, AreAdded, IsProjection, FailsAmong, unnamed, unread, meaningless}
use Rattle.scrib_cli.proofs.ProjectionLemmas.{ok_role}
use Rattle.scrib_cli.proofs.projection.projection_of.Goals as goal

pub returns-in_default-clause-ok : goal.returns-in_default-clause-ok
returns-in_default-clause-ok c = unnamed (rw c.in_default.is at c.in_ok-name.ensures)

pub returns-in-Some-2-clause-ok : goal.returns-in-Some-2-clause-ok
returns-in-Some-2-clause-ok c =
    let named : IsFullName c.args.protocol.now c.in-Some.name = rw c.in-Some.is at c.in_ok-name.ensures in
    let failed : FailsAmong c.args.texts.now c.in-Some-2.fault = rw c.in-Some-2.is at c.in_ok-fault.ensures.ok in
    unread c.in-Some.name c.in-Some-2.fault named failed

pub returns-in-Ok-clause-ok : goal.returns-in-Ok-clause-ok
returns-in-Ok-clause-ok c =
    let named : IsFullName c.args.protocol.now c.in-Some.name = rw c.in-Some.is at c.in_ok-name.ensures in
    let added : AreAdded [] c.args.texts.now c.add_texts.new.modules = rw (c.in_default-2.is, c.new-modules.ensures) at c.in_ok-fault.ensures.ok in
    let means : Elaborates c.add_texts.new.modules c.in-Some.name.home c.in-Some.name.protocol (elaborated_meaning c.in-Ok.elaborated) = c.in-Ok.ensures.ok in
    let sites : AreSites c.add_texts.new.modules c.in-Some.name.home c.in-Some.name.protocol c.in-Ok.elaborated = c.in-Ok.ensures.sites in
    ok_role c.args.profile c.args.texts.now c.args.protocol.now c.args.role.now c.in-Some.name c.add_texts.new.modules (elaborated_meaning c.in-Ok.elaborated) c.projection_on.result named added means
    c.projection_on.ensures.ok (c.projection_on.ensures.place c.add_texts.new.modules c.in-Some.name.home c.in-Some.name.protocol sites)

pub returns-in-Err-Broken-clause-ok : goal.returns-in-Err-Broken-clause-ok
returns-in-Err-Broken-clause-ok c =
    let named : IsFullName c.args.protocol.now c.in-Some.name = rw c.in-Some.is at c.in_ok-name.ensures in
    let added : AreAdded [] c.args.texts.now c.add_texts.new.modules = rw (c.in_default-2.is, c.new-modules.ensures) at c.in_ok-fault.ensures.ok in
    let broken : IsBroken c.add_texts.new.modules c.in-Some.name.home c.in-Some.name.protocol c.in-Err-Broken.fault = rw c.in-Err-Broken.field-0-is at c.in-Err-Broken.ensures.fault in
    subst (λ (f : Fault). IsProjection c.args.profile c.args.texts.now c.args.protocol.now c.args.role.now (Refused (edit.Elaborate f))) (sym c.in-Err-Broken.fault-is)
    (meaningless c.in-Some.name c.add_texts.new.modules c.in-Err-Broken.fault named added broken)
