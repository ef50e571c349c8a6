use Rattle.std.proofs.Common.{◌≡◌, ℕ, ◌<◌, List, Option, length, map, set, ap, sym, ◌∙◌, subst, arith}
use Rattle.std.proofs.lemmas.List.{map-set}
use Rattle.scrib_tree.specs.declared.tree.ModuleTree.{ModuleTree}
use Rattle.scrib_static_checks.specs.ProtocolIndex.{IsIndexed}
use Rattle.scrib_static_checks.specs.Names.{has_checked_names, protocol_names, declarations}
use Rattle.scrib_static_checks.proofs.ProtocolIndexLemmas.{indexed_set}
use Rattle.scrib_static_checks.proofs.Slots.{none_kept}
use Rattle.scrib_static_checks.proofs.modules.Modules.exchange.Goals.{then-not-declare_alike, else-not-declare_alike}
use Rattle.scrib_static_checks.proofs.modules.Modules.exchange.Goals as goal

pub invariant_of-self : goal.invariant_of-self
invariant_of-self c =
    let at = c.args.at in
    let dest = c.replace.new.dest in
    let old = c.self.inside in
    let inside = c.if-not-declare_alike.self-inside in
    let noted = c.has_checked_names.ensures ∙ ap has_checked_names (sym c.replace.ensures.after) in
    let names_checked : inside.names_checked.items ≡ map has_checked_names inside.trees.items = elim c.if-not-declare_alike.branch [
      | then-not-declare_alike w ↦ ap (λ s. s.names_checked.items) w.self-inside-is ∙ c.self.invariant.0 ∙ sym (ap (λ s. map has_checked_names s.trees.items) w.self-inside-is)
      | else-not-declare_alike w ↦ ap (λ s. s.names_checked.items) w.self-inside-is ∙ c.self.invariant.0 ∙ sym (ap (λ s. map has_checked_names s.trees.items) w.self-inside-is)
    ] in
    let P : List ModuleTree → List (Option ℕ) → ℕ → Type 0 = λ ts ss n. IsIndexed (declarations (set ts at dest)) ss n in (
      (λ i. set (names_checked i) at (noted i)) ∙ sym (map-set has_checked_names inside.trees.items at dest),
      elim c.if-not-declare_alike.branch [
        | then-not-declare_alike w ↦ none_kept (declarations (set inside.trees.items at dest)) inside.protocol_index.slots.items inside.protocol_index.indexed (ap (λ s. s.protocol_index.slots.items) w.self-inside-is ∙ w.clear.ensures.items)
        | else-not-declare_alike w ↦ (
            let lt : at < length old.trees.items = omega (arith, c.requires, ap length c.self.view_is) in
            let alike = w.if-not-declare_alike.false in
            let named = c.declare_alike.ensures.name alike ∙ ap (λ m. m.name) (sym c.replace.ensures.after) in
            let same = c.declare_alike.ensures.protocols alike ∙ ap (λ m. protocol_names m.protocols) (sym c.replace.ensures.after) in
            let kept = indexed_set old.trees.items at c.index.result.now dest old.protocol_index.slots.items old.protocol_index.indexed lt c.index.ensures named same c.self.invariant.1 in
            let is = sym w.self-inside-is in
            subst (λ s. P s.trees.items s.protocol_index.slots.items s.protocol_index.indexed) is kept)
      ],
    )
