use Rattle.std.proofs.Common.{◌+◌, ◌∙◌, ap}
use Rattle.scrib_elaborate.proofs.MemoLemmas.{empty_memo_start, empty_memo_more}
use Rattle.scrib_elaborate.proofs.memo.empty_memo.Goals as goal

pub loop-init : goal.loop-init
loop-init c = (empty_memo_start _ c.in_ok-memo.ensures.items, c.in_ok-memo.ensures.len, c.in_ok-memo.ensures.exact)

pub loop-preserved : goal.loop-preserved
loop-preserved c = (
  empty_memo_more _ _ c.loop.invariant.0 c.push_reserved.ensures.items,
  c.push_reserved.ensures.len ∙ ap (λ n. n + 1) c.loop.invariant.1,
  c.push_reserved.ensures.capacity ∙ c.loop.invariant.2,
)
