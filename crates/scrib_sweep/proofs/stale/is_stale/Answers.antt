use Rattle.scrib_sweep.proofs.StaleLists.{stale_test}
use Rattle.scrib_sweep.proofs.stale.is_stale.Goals as goal

pub returns-in-None : goal.returns-in-None
returns-in-None c = stale_test c.args.core.now c.args.id c.fresh_record.result c.view.result c.is_some.result c.in-None.is c.fresh_record.ensures c.view.ensures c.is_some.ensures
