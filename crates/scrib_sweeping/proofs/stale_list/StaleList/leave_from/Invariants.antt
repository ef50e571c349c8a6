use Rattle.std.proofs.Common.{◌≡◌, ◌≤◌, ◌<◌, ◌-◌, length, ℕ, get_or}
use Rattle.scrib_sweeping.proofs.stale_list.StaleList.leave_from.Given as goal

abbrev pub invariant-loop-id : goal.invariant-loop-id
invariant-loop-id l = record {
  same : l.self.ids.items ≡ l.initial.self.ids.items;
  from : l.initial.self.done ≤ l.self.done;
  below : (k : ℕ) → l.initial.self.done ≤ k → k < l.self.done → get_or l.initial.self.ids.items k 0 < l.first;
}

abbrev pub decreases-loop-id : goal.decreases-loop-id
decreases-loop-id l = length l.self.ids.items - l.self.done
