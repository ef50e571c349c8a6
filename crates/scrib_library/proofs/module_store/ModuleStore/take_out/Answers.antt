use Rattle.std.proofs.Common.{sym, ap, ◌∙◌}
use Rattle.std.specs.List.{remove}
use Rattle.scrib_library.specs.Summaries.{summary, summaries_of}
use Rattle.scrib_library.proofs.Lists.{map-remove}
use Rattle.scrib_library.proofs.module_store.ModuleStore.take_out.Goals as goal

pub invariant_of-self : goal.invariant_of-self
invariant_of-self c =
    c.remove.ensures.items ∙ ap (λ os. remove os c.args.at) c.self.invariant ∙ sym (ap summaries_of c.take_out.ensures.out ∙ map-remove summary c.self.inside.modules c.args.at)
