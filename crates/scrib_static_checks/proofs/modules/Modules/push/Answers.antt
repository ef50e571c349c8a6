use Rattle.std.proofs.Common.{◌≡◌, ◌++◌, ◌∷◌, [], map, ap, sym, ◌∙◌, subst}
use Rattle.std.proofs.lemmas.List.{map-append}
use Rattle.scrib_static_checks.specs.ProtocolIndex.{IsIndexed}
use Rattle.scrib_static_checks.specs.Names.{has_checked_names, declarations}
use Rattle.scrib_static_checks.proofs.Places.{declarations-push}
use Rattle.scrib_static_checks.proofs.modules.Modules.push.Goals as goal

pub invariant_of-self-in_default : goal.invariant_of-self-in_default
invariant_of-self-in_default c =
    let trees = c.self.inside.trees.items in
    let new = c.add.new.self in
    let now : c.push-2.new.self.items ≡ trees ++ c.args.tree ∷ [] = c.in_default.ensures.items in
    let noted : c.push.new.self.items ≡ map has_checked_names c.push-2.new.self.items =
    c.in_ok-push.ensures.items ∙ ap (λ ss. ss ++ c.has_checked_names.result ∷ []) c.self.invariant.0 ∙ ap (λ b. map has_checked_names trees ++ b ∷ []) c.has_checked_names.ensures ∙ sym (ap (map has_checked_names) now ∙ map-append has_checked_names trees (c.args.tree ∷ [])) in (
      noted,
      subst (λ ds. IsIndexed ds new.slots.items new.indexed) (sym (ap declarations now ∙ declarations-push trees c.args.tree)) (c.add.ensures (declarations trees) c.self.invariant.1),
    )
