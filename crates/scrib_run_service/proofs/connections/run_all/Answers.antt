use Rattle.scrib_run_service.specs.ConnectionResults.{IsConnectionClosed}
use Rattle.scrib_run_service.proofs.ThreadResultLemmas.{zip_ok}
use Rattle.scrib_run_service.proofs.connections.run_all.Goals as goal

pub returns : goal.returns
returns g c = zip_ok (λ r ran. IsConnectionClosed c.args.common.now.format r ran) g.C.Read.remaining c.args.readers c.run_each.result c.run_each.ensures.len c.run_each.ensures.each
