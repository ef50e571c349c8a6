use Rattle.scrib_types.specs.GlobalView.{global_of}
use Rattle.scrib_global.proofs.NextLists.{statuses_none, statuses_more, statuses_all}
use Rattle.scrib_global.proofs.next.all_next.Goals as goal

pub loop-role-init : goal.loop-role-init
loop-role-init c = statuses_none (global_of c.args.global.now) c.args.log.now c.new-found.result.items c.new-found.ensures.items

pub loop-role-preserved : goal.loop-role-preserved
loop-role-preserved c =
    statuses_more (global_of c.args.global.now) c.args.log.now c.args.roles.now c.loop-role.role-index c.role-item.result _ _ _ c.loop-role-test.true c.role-item.is c.in_ok-push.ensures.items c.in_ok-role.ensures c.in_ok-next.ensures c.loop-role.invariant

pub returns : goal.returns
returns c = statuses_all (global_of c.args.global.now) c.args.log.now c.args.roles.now c.loop-role.role-index c.loop-role.found.items c.loop-role-test.false c.loop-role.invariant
