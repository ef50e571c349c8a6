use Rattle.std.proofs.Common.{sym}
use Rattle.scrib_core.proofs.CompleteLemmas.{complete_test}
use Rattle.scrib_core.proofs.monitor.Core.is_complete.Goals as goal

pub returns : goal.returns
returns c =
    let test = complete_test c.self.inside.library c.self.inside.records.entries c.args.id c.are_numbered.ensures.numbers c.are_numbered.ensures.once c.self.invariant c.is_complete.result c.is_complete.ensures in
    rw (sym c.self.view_is) test
