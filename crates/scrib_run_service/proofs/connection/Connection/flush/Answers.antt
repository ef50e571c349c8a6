use Rattle.std.proofs.Common.{sym, eqb-true}
use Rattle.scrib_run_service.proofs.ConnectionLemmas.{takes_none, none_left}
use Rattle.scrib_run_service.proofs.connection.Connection.flush.Goals as goal

pub returns-then-is_empty-clause-took : goal.returns-then-is_empty-clause-took
returns-then-is_empty-clause-took g c = takes_none c.args.self.now
