use Rattle.std.proofs.Common.{sym}
use Rattle.scrib_core.proofs.FreshRecordLemmas.{found_fresh}
use Rattle.scrib_core.proofs.monitor.Core.fresh_record.Goals as goal

pub returns : goal.returns
returns c =
    let found = found_fresh c.self.inside.library c.self.inside.records.entries c.args.id c.are_numbered.ensures.numbers c.are_numbered.ensures.once c.self.invariant c.fresh_record.result c.fresh_record.ensures in
    rw (sym c.self.view_is) found
