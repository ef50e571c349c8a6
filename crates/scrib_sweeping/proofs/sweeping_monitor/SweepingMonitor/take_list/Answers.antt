use Rattle.std.proofs.Common.{◌≡◌, ◌∙◌, Some, sym}
use Rattle.scrib_sweeping.specs.StaleLists.{left_in}
use Rattle.scrib_sweeping.specs.SweepingMonitors.{state_in}
use Rattle.scrib_sweeping.proofs.ListLemmas.{covers_of}
use Rattle.scrib_sweeping.proofs.sweeping_monitor.SweepingMonitor.take_list.Goals as goal

pub returns-in-Some-clause-covers : goal.returns-in-Some-clause-covers
returns-in-Some-clause-covers c =
    let old = c.args.self.now in
    let list = c.in-Some.list in
    let is : old.listed ≡ Some list = sym c.take.ensures.value ∙ c.in-Some.is in
    covers_of (state_in old) (left_in list) (old.rising list is) (old.covered list is)
