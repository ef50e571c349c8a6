use Rattle.std.proofs.Common.{List, ℕ, Option, sym, ap, ◌∙◌, subst}
use Rattle.std.specs.Option.{option_copied}
use Rattle.scrib_library.specs.Withdrawals.{IsLesserName}
use Rattle.scrib_library.proofs.ImporterLemmas.{is_greater, not_greater, first_kept, first_second}
use Rattle.scrib_library.proofs.removal.first_of.Goals as goal

pub returns-then-eq : goal.returns-then-eq
returns-then-eq c =
    let a = c.in-Some.name.now in
    let b = c.args.second.now in
    let greater = is_greater c.compare.result (sym c.eq.ensures ∙ c.if-eq.true) in
    let P : Option (List (List ℕ)) → Type 0 = λ o. IsLesserName o b b in
    subst P (sym (ap option_copied c.in-Some.is)) (first_second a b (sym c.compare.ensures ∙ greater))

pub returns-else-eq : goal.returns-else-eq
returns-else-eq c =
    let a = c.in-Some.name.now in
    let b = c.args.second.now in
    let not_after = not_greater c.compare.result (sym c.eq.ensures ∙ c.if-eq.false) in
    let P : Option (List (List ℕ)) → Type 0 = λ o. IsLesserName o b a in
    subst P (sym (ap option_copied c.in-Some.is)) (first_kept a b (λ g. not_after (c.compare.ensures ∙ g)))
