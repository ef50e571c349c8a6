use Rattle.std.proofs.Common.{map}
use Rattle.scrib_run_service.proofs.RunLemmas.{all_texts}
use Rattle.scrib_run_service.proofs.run_service.run_to_last_sweep.Goals as goal

pub returns-clause-texts : goal.returns-clause-texts
returns-clause-texts g c =
    all_texts c.args.common.now.format (map (λ x. g.C.Read.remaining x) c.args.connections.items) c.in_ok-closed.closed.items c.in_ok-ran.ran.items c.in_ok-closed.ensures c.in_ok-ran.ensures
