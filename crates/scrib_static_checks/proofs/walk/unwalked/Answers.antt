use Rattle.std.proofs.Common.{◌+◌, ◌∙◌, ap}
use Rattle.scrib_static_checks.proofs.Walks.{none_unwalked, one_more}
use Rattle.scrib_static_checks.proofs.walk.unwalked.Goals as goal

pub loop-init : goal.loop-init
loop-init c = (none_unwalked _ c.in_ok-states.ensures.items, c.in_ok-states.ensures.len, c.in_ok-states.ensures.exact)

pub loop-preserved : goal.loop-preserved
loop-preserved c = (
  one_more _ _ _ c.loop.invariant.0 c.push_reserved.ensures.items,
  c.push_reserved.ensures.len ∙ ap (λ n. n + 1) c.loop.invariant.1,
  c.push_reserved.ensures.capacity ∙ c.loop.invariant.2,
)
