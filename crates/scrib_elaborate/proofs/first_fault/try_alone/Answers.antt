use Rattle.scrib_elaborate.proofs.FaultPrefixes.{block_target, trial_state, turned_stops}
use Rattle.scrib_elaborate.proofs.first_fault.try_alone.Goals as goal

pub returns-clause-fault : goal.returns-clause-fault
returns-clause-fault c = λ root e kept a stays.
    let ms = c.args.context.now.modules.now in
    let state = trial_state ms root c.new-tasks.result.items c.push.new.self.items c.args.scope c.args.body c.new-tasks.ensures.items c.in_ok-push.ensures.items a stays in
    turned_stops ms root c.perform_tasks.new.tasks.items c.reverse.new.self.items c.in-Err.fault c.reverse.ensures.permutation (c.in-Err.ensures (block_target root c.args.scope c.args.body.now) e kept state)
