use Rattle.std.proofs.Common.{◌∙◌, ap, length, subst, arith}
use Rattle.scrib_record.specs.declared.version.Edition.{Edition}
use Rattle.scrib_record.specs.RoleMachines.{AreMachinesOf}
use Rattle.scrib_record.specs.Versions.{meaning_of}
use Rattle.scrib_record.proofs.StartLemmas.{led_start, permitted_start}
use Rattle.scrib_record.proofs.configuration.Configuration.start.Goals as goal

pub returns-clause-led_to : goal.returns-clause-led_to
returns-clause-led_to c =
    let v = c.args.numbering.version in
    let made = c.machines-machines.ensures in
    let long = ap length made.machines ∙ ap (λ (x : Edition). length x.machines) c.version.ensures.version in
    let follow = subst (λ (x : Edition). AreMachinesOf (meaning_of x) x.machines) c.version.ensures.version made.follow in
    led_start (meaning_of v) v.machines _ c.loop-machine.machine-index follow (omega (arith, long)) c.loop-machine.invariant (c.new-queues.ensures.roles ∙ long) c.new-queues.ensures.empty c.version.ensures.numbered

pub returns-clause-permitted : goal.returns-clause-permitted
returns-clause-permitted c =
    let v = c.args.numbering.version in
    permitted_start (meaning_of v) v.machines (subst (λ (x : Edition). AreMachinesOf (meaning_of x) x.machines) c.version.ensures.version c.machines-machines.ensures.follow)
