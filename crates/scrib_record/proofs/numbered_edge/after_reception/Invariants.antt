use Rattle.std.proofs.Common.{◌≡◌, ℕ, ◌<◌, get_or}
use Rattle.scrib_record.specs.declared.numbered_edge.NumberedEdge.{NumberedEdge}
use Rattle.scrib_record.specs.declared.numbered_edge.NumberedEdge.TheVariants.{Receives}
use Rattle.scrib_record.proofs.numbered_edge.after_reception.Given as goal

abbrev pub invariant-loop-edge : goal.invariant-loop-edge
invariant-loop-edge l = (k : ℕ) (d : NumberedEdge) → k < l.edge-index → (next : ℕ) → get_or l.row k d ≡ Receives l.exchange next → ⊥
