use Rattle.std.proofs.Common.{refl, sym, ◌∙◌}
use Rattle.scrib_types.specs.Same.{same_operator}
use Rattle.scrib_projection.specs.declared.alternatives.Fit.TheVariants.{Known, New, Clashing}
use Rattle.scrib_projection.proofs.AlternativeLemmas.{locals_more, locals_end, fit_here, fit_later, fit_none}
use Rattle.scrib_projection.proofs.alternatives.fit_of.Goals as goal

pub returns-then-same_alternative : goal.returns-then-same_alternative
returns-then-same_alternative c =
    let next = locals_more c.args.known.now c.loop-other.other-index c.loop-other-item.result c.loop-other-test.true c.loop-other-item.is in
    let operator = (λ i. same_operator (sym c.get.ensures i).op (sym c.get-in-loop-other.ensures i).op) ∙ sym c.operators_equal.ensures.test ∙ c.if-operators_equal.true in
    c.loop-other.invariant Known (fit_here _ _ _ _ _ _ _ Known next operator (sym c.same_alternative.ensures ∙ c.if-same_alternative.true) refl)

pub returns-then-operators_equal : goal.returns-then-operators_equal
returns-then-operators_equal c =
    let next = locals_more c.args.known.now c.loop-other.other-index c.loop-other-item.result c.loop-other-test.true c.loop-other-item.is in
    let operator = (λ i. same_operator (sym c.get.ensures i).op (sym c.get-in-loop-other.ensures i).op) ∙ sym c.operators_equal.ensures.test ∙ c.if-operators_equal.true in
    c.loop-other.invariant Clashing (fit_here _ _ _ _ _ _ _ Clashing next operator (sym c.same_alternative.ensures ∙ c.if-same_alternative.false) refl)

pub loop-other-preserved : goal.loop-other-preserved
loop-other-preserved c = λ f fits.
    let next = locals_more c.args.known.now c.loop-other.other-index c.loop-other-item.result c.loop-other-test.true c.loop-other-item.is in
    let operator = (λ i. same_operator (sym c.get.ensures i).op (sym c.get-in-loop-other.ensures i).op) ∙ sym c.operators_equal.ensures.test ∙ c.if-operators_equal.false in
    c.loop-other.invariant f (fit_later f _ _ _ _ _ _ next operator fits)

pub returns : goal.returns
returns c =
    c.loop-other.invariant New (fit_none _ _ _ (locals_end c.args.known.now c.loop-other.other-index c.loop-other-test.false))
