use Rattle.std.proofs.Common.{◌≡◌}
use Rattle.std.specs.Prelude.{vec_len, vec_capacity}
use Rattle.scrib_elaborate.specs.Typing.{IsEmptyMemo}
use Rattle.scrib_elaborate.proofs.memo.empty_memo.Given as goal

abbrev pub invariant-loop : goal.invariant-loop
invariant-loop l = IsEmptyMemo l.memo.items × (vec_len l.memo ≡ l.counter) × (vec_capacity l.memo ≡ l.count)
