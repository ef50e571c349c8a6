use Rattle.std.proofs.Common.{◌≡◌, Some, None, Option, Vec, Global, Ok, Err, Result, List, ℕ, ◌++◌, ◌∷◌, [], sym, ap, subst, refl, ◌∙◌}
use Rattle.std.specs.Prelude.{IsSome, OnErr}
use Rattle.std.specs.Option.{option_copied_mut}
use Rattle.std.specs.Map.{lookup}
use Rattle.scrib_static_checks.specs.Names.{dotted_eq}
use Rattle.scrib_locked_steps.specs.Indexing.{ids_in}
use Rattle.scrib_locked_steps.proofs.NameIndexLemmas.{listed_kept, listed_more}
use Rattle.scrib_locked_steps.proofs.index.list.Goals as goal

on_err : {X E : Type 0} {P : Type 0} (r : Result X E) → P → OnErr r P
on_err (Ok x) p = tt
on_err (Err e) p = p

pub returns-in_err-push-in-Some-clause-err : goal.returns-in_err-push-in-Some-clause-err
returns-in_err-push-in-Some-clause-err c =
    let there : lookup (λ k. dotted_eq c.in_ok-copy.field-0 k.name) c.args.index.now.entries ≡ Some c.in-Some.ids.now = sym c.get_mut.ensures.value ∙ ap option_copied_mut c.in-Some.is in
    let through = c.get_mut.follows.holds c.push.new.self in
    on_err c.from_residual-in_err-push-in-Some.result (listed_kept c.args.index.now.entries _ c.in_ok-copy.field-0 c.push.new.self
    (through.3 (subst IsSome (sym there) refl)).0 (c.in_err-push-in-Some.ensures.items ∙ sym (ap ids_in there)))

pub returns-in_ok-push-in-Some-clause-ok : goal.returns-in_ok-push-in-Some-clause-ok
returns-in_ok-push-in-Some-clause-ok c =
    let there : lookup (λ k. dotted_eq c.in_ok-copy.field-0 k.name) c.args.index.now.entries ≡ Some c.in-Some.ids.now = sym c.get_mut.ensures.value ∙ ap option_copied_mut c.in-Some.is in
    let through = c.get_mut.follows.holds c.push.new.self in
    listed_more c.args.index.now.entries _ c.in_ok-copy.field-0 c.args.name.now c.args.id c.push.new.self c.in_ok-copy.ensures
    (through.3 (subst IsSome (sym there) refl)).0 (c.in_ok-push-in-Some.ensures.items ∙ ap (λ (xs : List ℕ). xs ++ c.args.id ∷ []) (sym (ap ids_in there)))

pub returns-in_ok-insert-in-None-clause-ok : goal.returns-in_ok-insert-in-None-clause-ok
returns-in_ok-insert-in-None-clause-ok c =
    let none : lookup (λ k. dotted_eq c.in_ok-copy.field-0 k.name) c.args.index.now.entries ≡ None = sym c.get_mut.ensures.value ∙ ap option_copied_mut c.in-None.is in
    listed_more c.args.index.now.entries c.insert.new.self.entries c.in_ok-copy.field-0 c.args.name.now c.args.id c.in_ok-ids-in-None.ids c.in_ok-copy.ensures
    (rw c.get_mut.follows.holds-at-none at c.in_ok-insert-in-None.ensures.updates.0) (c.in_ok-ids-in-None.ensures.items ∙ sym (ap (λ (o : Option (Vec ℕ Global)). ids_in o ++ c.args.id ∷ []) none))
