use Rattle.std.proofs.Common.{sym, refl, arith}
use Rattle.std.proofs.lemmas.Bool.{true≢false}
use Rattle.std.proofs.lemmas.Option.{slice_get_within}
use Rattle.scrib_queues.proofs.QueueViews.{none_more}
use Rattle.scrib_queues.proofs.queues.none_waits.Goals as goal

pub returns-then-waits : goal.returns-then-waits
returns-then-waits g c = (
  λ f. absurd (true≢false (sym f)),
  λ none. absurd (none c.loop-place.place (c.waits.ensures.0 c.if-waits.true)),
)

pub loop-place-preserved : goal.loop-place-preserved
loop-place-preserved g c = none_more c.args.pairs.now c.args.queues.now c.loop-place.place c.waits.result c.if-waits.false c.waits.ensures c.loop-place.invariant

pub returns : goal.returns
returns g c = (
  λ t place h. c.loop-place.invariant place (let within = slice_get_within c.args.pairs.now place h.pair h.named in omega (arith, within)) h,
  λ none. refl,
)
