use Rattle.std.proofs.Common.{map, ap, sym, ◌∙◌}
use Rattle.std.specs.List.{remove}
use Rattle.scrib_static_checks.specs.Names.{has_checked_names, declarations}
use Rattle.scrib_static_checks.proofs.ModulePlaceLemmas.{remove-map}
use Rattle.scrib_static_checks.proofs.Slots.{none_kept}
use Rattle.scrib_static_checks.proofs.modules.Modules.take_out.Goals as goal

pub invariant_of-self : goal.invariant_of-self
invariant_of-self c =
    let ds = declarations c.remove-2.new.self.items in (
      c.remove.ensures.items ∙ ap (λ ss. remove ss c.args.at) c.self.invariant.0 ∙ remove-map has_checked_names c.self.inside.trees.items c.args.at ∙ ap (map has_checked_names) (sym c.remove-2.ensures.items),
      none_kept ds c.clear.new.self.items c.self.inside.protocol_index.indexed c.clear.ensures.items,
    )
