use Rattle.std.proofs.Common.{map, take, ap, sym, ◌∙◌}
use Rattle.std.proofs.lemmas.List.{take-map}
use Rattle.scrib_static_checks.specs.Names.{has_checked_names, declarations}
use Rattle.scrib_static_checks.proofs.Slots.{none_kept}
use Rattle.scrib_static_checks.proofs.modules.Modules.undo.Goals as goal

pub invariant_of-self : goal.invariant_of-self
invariant_of-self c =
    let ds = declarations c.truncate.new.self.items in (
      c.truncate-in-None.ensures.items ∙ ap (take c.args.placed.at) c.self.invariant.0 ∙ take-map has_checked_names c.args.placed.at c.self.inside.trees.items ∙ ap (map has_checked_names) (sym c.truncate.ensures.items),
      none_kept ds c.clear.new.self.items c.self.inside.protocol_index.indexed c.clear.ensures.items,
    )
