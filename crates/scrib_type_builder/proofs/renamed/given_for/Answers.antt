use Rattle.std.proofs.Common.{◌≡◌, ℕ, List, [], ◌∷◌, drop, sym, ap, ◌∙◌}
use Rattle.std.proofs.lemmas.List.{drop_all}
use Rattle.scrib_static_checks.specs.Names.{role_names}
use Rattle.scrib_static_checks.specs.Elaboration.{given_for}
use Rattle.scrib_type_builder.specs.Renaming.{named}
use Rattle.scrib_type_builder.proofs.renamed.given_for.Goals as goal

none_given : (ds rest : List (List ℕ)) (r s : List ℕ) → rest ≡ [] → given_for ds rest r ≡ s → r ≡ s
none_given [] rest r s e f = f
none_given (d ∷ ds) rest r s e f = sym (ap (λ gs. given_for (d ∷ ds) gs r) e) ∙ f

pub returns : goal.returns
returns c =
    let end = ap named (drop_all c.loop-i.i c.args.given.now c.loop-i-test.false) in
    none_given (role_names (drop c.loop-i.i c.args.declared.now)) (named (drop c.loop-i.i c.args.given.now)) c.args.role.now _ end c.loop-i.invariant
