use Rattle.std.proofs.Common.{◌∷◌, []}
use Rattle.scrib_run_service.proofs.ConnectionLemmas.{takes_one}
use Rattle.scrib_run_service.proofs.connection.Connection.submit_alone.Goals as goal

pub returns-clause-took : goal.returns-clause-took
returns-clause-took g c =
    takes_one c.submit_now.result c.args.self.now c.flush.new.self c.submit_now.new.self (c.args.item ∷ []) c.in_ok-flush.ensures.took c.in_ok-flush.ensures.none c.submit_now.ensures.yielded
