-- The open conversations that were counted, one more.
use Rattle.std.proofs.Common.{◌≡◌, ◌<◌, ◌+◌, ◌↔◌, ◌++◌, ◌∷◌, ℕ, Bool, IsTrue, List, [], Some, None, inl, inr, length, slice_get, take, ap, ◌∙◌, arith}
use Rattle.std.proofs.lemmas.List.{take_more}
use Rattle.std.proofs.lemmas.Map.Entries.{length-keys_of}
use Rattle.std.proofs.lemmas.Option.{get_or_from_slice_get, slice_get_cases, slice_get_within}
use Rattle.std.specs.Map.{keys_of}
use Rattle.scrib_types.specs.declared.event.Told.{Told}
use Rattle.scrib_core.specs.Answers.{State, IsCompleteIn, IsReportedIn}
use Rattle.scrib_summary.specs.declared.verdict_counts.VerdictCounts.{VerdictCounts}
use Rattle.scrib_summary.specs.VerdictCounts.{CountsVerdicts, with_complete, with_told}

-- an index within a list of pairs has a key
pub has_key : {X : Type 0} (xs : List (ℕ × X)) (i : ℕ) → i < length xs → slice_get (keys_of xs) i ≡ None → ⊥
has_key xs i within none = elim (slice_get_cases (keys_of xs) i).1 [
  | inl h ↦ absurd (cc)
  | inr h ↦ omega (arith, h.0, length-keys_of xs, within)
]

-- the next conversation is counted
pub counts_next : (s : State) (ids : List ℕ) (i id : ℕ) (old new : VerdictCounts) (told : Told) (complete : Bool)
    → slice_get ids i ≡ Some id → CountsVerdicts s (take i ids) old new → IsReportedIn s id told
    → (IsTrue complete ↔ IsCompleteIn s id)
    → CountsVerdicts s (take (i + 1) ids) old (with_complete complete (with_told told new))
counts_next s ids i id old new told complete is counted reported completes =
    let more : take (i + 1) ids ≡ take i ids ++ id ∷ [] =
    take_more ids i id (slice_get_within ids i id is)
    ∙ ap (λ k. take i ids ++ k ∷ []) (get_or_from_slice_get ids i id id is) in
    rw more
    (CountsVerdicts.one_further (take i ids) old new id told complete counted reported completes)
