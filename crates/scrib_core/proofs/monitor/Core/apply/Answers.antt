use Rattle.std.proofs.Common.{sym}
use Rattle.scrib_core.specs.Held.{world_of}
use Rattle.scrib_core.proofs.Runs.{permits_runs}
use Rattle.scrib_core.proofs.monitor.Core.apply.Goals as goal

pub returns-clause-runs : goal.returns-clause-runs
returns-clause-runs c = rw (sym c.self-2.view_is) (permits_runs (world_of c.self-2.inside.library c.self-2.inside.records.entries) c.means_protocols.ensures)
