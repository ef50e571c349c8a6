use Rattle.std.proofs.Common.{◌<◌, length, sym, ap, ◌∙◌, rules, arith}
use Rattle.std.proofs.lemmas.Bool.{false≢true}
use Rattle.scrib_library.proofs.Places.{has_name-more}
use Rattle.scrib_library.proofs.SummaryLemmas.{as_many, some_at, place_at, other_bit}
use Rattle.scrib_library.proofs.summaries.place_of.Goals.{else-summary-bit-via-then-summary-bit+else-same, else-summary-bit-via-else-summary-bit}
use Rattle.scrib_library.proofs.summaries.place_of.Goals as goal

pub returns-then-same : goal.returns-then-same
returns-then-same c =
    let ms = c.args.modules.now in
    let m = c.index-modules-at.result in
    let lt : c.loop-at.at < length ms = omega (arith, c.loop-at-test.true, as_many ms c.args.summaries.now c.requires) in
    place_at ms c.args.name.now c.loop-at.at m lt c.index-modules-at.is c.loop-at.invariant (c.same.ensures.0 (search rules) ∙ ap (λ x. x.name) (sym c.index-modules-at.is))

pub loop-at-preserved : goal.loop-at-preserved
loop-at-preserved c =
    let ms = c.args.modules.now in
    let lt : c.loop-at.at < length ms = omega (arith, c.loop-at-test.true, as_many ms c.args.summaries.now c.requires) in
    elim c.else-summary-bit.branch [
      | else-summary-bit-via-then-summary-bit+else-same w ↦ has_name-more c.args.name.now ms c.loop-at.at w.index-modules-at.result lt w.index-modules-at.is c.loop-at.invariant (λ e. false≢true (sym w.if-same.false ∙ w.same.ensures.1 (e ∙ ap (λ x. x.name) w.index-modules-at.is)))
      | else-summary-bit-via-else-summary-bit w ↦ (
          let some = some_at ms c.loop-at.at lt in
          has_name-more c.args.name.now ms c.loop-at.at some.0 lt some.1 c.loop-at.invariant (other_bit ms c.args.summaries.now c.requires c.loop-at.at some.0 _ lt some.1 c.args.name.now c.filter_bit-bit.result c.filter_bit-bit.ensures.bit w.if-summary-bit.false))
    ]
