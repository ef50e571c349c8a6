use Rattle.std.proofs.Common.{arith}
use Rattle.std.proofs.lemmas.Grind.{common_steps}
use Rattle.scrib_record.proofs.MachineLemmas.{zip_more}
use Rattle.scrib_record.proofs.machines.compile_all.Goals as goal

pub loop-local-preserved : goal.loop-local-preserved
loop-local-preserved c =
    zip_more c.args.locals.now c.loop-local.machines.items c.push.new.self.items c.loop-local.local-index c.local-item.result c.in_ok-machine.machine
    c.loop-local-test.true c.local-item.is c.loop-local.invariant c.in_ok-machine.ensures c.in_ok-push.ensures.items

pub returns : goal.returns
returns c = grind (arith, common_steps)
