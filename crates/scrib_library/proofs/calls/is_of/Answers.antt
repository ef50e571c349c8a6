use Rattle.std.proofs.Common.{◌≡◌, Some, None, sym, ◌∙◌}
use Rattle.std.proofs.lemmas.Bool.{false≢true}
use Rattle.scrib_library.proofs.CallLemmas.{last_at, looked_at}
use Rattle.scrib_library.proofs.calls.is_of.Goals as goal

pub returns-then-not-equal : goal.returns-then-not-equal
returns-then-not-equal c = λ f l e.
    let n = last_at c.args.path.now c.as_slice-names.result.now c.index-names-last.result c.as_slice-names.ensures.names c.as_slice-names.ensures.some c.index-names-last.is in
    false≢true (sym c.if-not-equal.true ∙ c.equal.ensures.same.1 (n ∙ e))

pub returns-in-Some : goal.returns-in-Some
returns-in-Some c = λ f l e.
    let at = looked_at c.args.at.now c.args.path.now c.as_slice-names.result.now (Some c.in-Some.module.now) c.as_slice-names.ensures.names c.as_slice-names.ensures.some c.in-Some.ensures in
    let same : Some c.in-Some.module.now ≡ Some c.args.home.now = at ∙ l in
    let is : c.in-Some.module.now ≡ c.args.home.now = cc in
    false≢true (sym f ∙ c.equal-in-Some.ensures.1 is)

pub returns-in-None : goal.returns-in-None
returns-in-None c = λ f l e.
    let at = looked_at c.args.at.now c.args.path.now c.as_slice-names.result.now None c.as_slice-names.ensures.names c.as_slice-names.ensures.some c.in-None.ensures in
    let none : None ≡ Some c.args.home.now = at ∙ l in
    absurd (cc)
