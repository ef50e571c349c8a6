use Rattle.std.proofs.Common.{◌∙◌}
use Rattle.scrib_library.proofs.SummaryLemmas.{outlined_last, outlined_over}
use Rattle.scrib_library.proofs.module_store.ModuleStore.put.Goals as goal

pub invariant_of-self-in-Some : goal.invariant_of-self-in-Some
invariant_of-self-in-Some c =
    outlined_over c.args.tree c.self.inside.modules c.put_there.new.self c.in_ok-placed.placed c.in_ok-placed.ensures.ok c.reserve.new.self.items (c.reserve.ensures.items ∙ c.self.invariant) c.in-Some.field-0 c.in-Some.is c.summary_of-summary.result c.summary_of-summary.ensures

pub invariant_of-self-in-None : goal.invariant_of-self-in-None
invariant_of-self-in-None c =
    c.push_reserved.ensures.items ∙ outlined_last c.args.tree c.self.inside.modules c.put_there.new.self c.in_ok-placed.placed c.in_ok-placed.ensures.ok c.reserve.new.self.items (c.reserve.ensures.items ∙ c.self.invariant) c.in-None.is c.summary_of-summary.result c.summary_of-summary.ensures
