use Rattle.std.proofs.Common.{◌≡◌, ℕ, ◌<◌, get_or}
use Rattle.scrib_types.specs.FlatEvents.{exchange_bytes}
use Rattle.scrib_record.specs.declared.exchanges.Exchange.{Exchange}
use Rattle.scrib_record.proofs.exchanges.search.Given as goal

abbrev pub invariant-loop-number : goal.invariant-loop-number
invariant-loop-number l = (k : ℕ) (d : Exchange) → k < l.number → exchange_bytes (get_or l.list k d).send ≡ exchange_bytes l.event → ⊥
