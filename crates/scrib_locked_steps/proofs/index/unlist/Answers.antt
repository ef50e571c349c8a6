use Rattle.std.proofs.Common.{◌≡◌, ◌∷◌, ◌∙◌, [], Some, List, ℕ, length, sym, ap, subst, refl, eqb-true, arith}
use Rattle.std.specs.Prelude.{IsSome, vec_len}
use Rattle.std.specs.Option.{option_copied_mut}
use Rattle.std.specs.Map.{lookup}
use Rattle.scrib_static_checks.specs.Names.{dotted_eq}
use Rattle.scrib_locked_steps.proofs.NameIndexLemmas.{unlisted_written, unlisted_dropped}
use Rattle.scrib_locked_steps.proofs.index.unlist.Goals as goal

empty_list : (xs : List ℕ) → length xs ≡ 0 → xs ≡ []
empty_list [] is = refl
empty_list (x ∷ xs) is = cc is

pub returns-then-is_empty : goal.returns-then-is_empty
returns-then-is_empty c =
    let there : lookup (λ k. dotted_eq c.args.key.now.name k.name) c.args.index.now.entries ≡ Some c.in-Some.ids.now = sym c.get_mut.ensures.value ∙ ap option_copied_mut c.in-Some.is in
    let left = c.take_id-moved.new.ids in
    let through = c.get_mut.follows.holds left in
    let none : vec_len left ≡ 0 = eqb-true (vec_len left) 0 (sym c.is_empty.ensures ∙ c.if-is_empty.true) in
    let empty : length left.items ≡ 0 = omega (arith, left.ok.0, none) in
    unlisted_dropped c.args.index.now.entries _ c.args.key.now.name c.args.id c.in-Some.ids.now left there (through.3 (subst IsSome (sym there) refl)).0 c.take_id-moved.ensures
    c.swap_remove.new.self.entries (empty_list left.items empty) c.swap_remove.ensures.updates.0

pub returns-else-is_empty : goal.returns-else-is_empty
returns-else-is_empty c =
    let there : lookup (λ k. dotted_eq c.args.key.now.name k.name) c.args.index.now.entries ≡ Some c.in-Some.ids.now = sym c.get_mut.ensures.value ∙ ap option_copied_mut c.in-Some.is in
    let left = c.take_id-moved.new.ids in
    let through = c.get_mut.follows.holds left in
    unlisted_written c.args.index.now.entries _ c.args.key.now.name c.args.id c.in-Some.ids.now left there (through.3 (subst IsSome (sym there) refl)).0 c.take_id-moved.ensures
