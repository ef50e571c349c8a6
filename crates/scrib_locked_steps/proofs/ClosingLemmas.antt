-- The receipts of several passes: the cases of one more pass.
use Rattle.std.proofs.Common.{◌≡◌, ◌++◌, ◌∷◌, [], ℕ, min, inl, inr, List, Option, Some, None, sym, subst, arith}
use Rattle.std.proofs.lemmas.Bool.{cases_lt}
use Rattle.std.proofs.lemmas.List.Elements.{All-push, Contains-append_left, Contains-push}
use Rattle.scrib_locked_steps.specs.Receipts.{min_place}
use Rattle.scrib_locked_steps.specs.Shards.{ShardHeld}
use Rattle.scrib_locked_steps.specs.Passes.{PassHeld}
use Rattle.scrib_locked_steps.specs.Closing.{AllAgree, AllAgreeBelow, DiffersAt, IsLeastMismatch}

module _ (s : ShardHeld) (ps : List PassHeld) (p : PassHeld) where
  -- all receipts of the pass agree
  pub agrees_more : (least : Option ℕ) → IsLeastMismatch s ps least → AllAgree s p → IsLeastMismatch s (ps ++ p ∷ []) least
  agrees_more None all agrees = All-push (AllAgree s) ps p all agrees
  agrees_more (Some place) one agrees = (
    (one.0.0, Contains-append_left ps (p ∷ []) one.0.0 one.0.1, one.0.2),
    All-push (AllAgreeBelow place s) ps p one.1 (λ k d within below. agrees k d within),
  )

  -- the receipt of the pass for this place differs, and none for a lesser place
  pub differs_more : (place : ℕ) (least : Option ℕ) → IsLeastMismatch s ps least → DiffersAt s place p → AllAgreeBelow place s p → IsLeastMismatch s (ps ++ p ∷ []) (Some (min_place place least))
  differs_more place None all differs before = (
    (p, Contains-push ps p, differs),
    All-push (AllAgreeBelow place s) ps p (λ i q inside k d within below. all i q inside k d within) before,
  )
  differs_more place (Some other) one differs before = elim (cases_lt place other) [
    | inl less ↦ (let is : min other place ≡ place = omega arith in
        let made : IsLeastMismatch s (ps ++ p ∷ []) (Some place) = (
          (p, Contains-push ps p, differs),
          All-push (AllAgreeBelow place s) ps p (λ i q inside k d within below. one.1 i q inside k d within (omega (arith, below, less))) before,
        ) in
        subst (λ (n : ℕ). IsLeastMismatch s (ps ++ p ∷ []) (Some n)) (sym is) made)
    | inr more ↦ (let is : min other place ≡ other = omega arith in
        let made : IsLeastMismatch s (ps ++ p ∷ []) (Some other) = (
          (one.0.0, Contains-append_left ps (p ∷ []) one.0.0 one.0.1, one.0.2),
          All-push (AllAgreeBelow other s) ps p one.1 (λ k d within below. before k d within (omega (arith, below, more))),
        ) in
        subst (λ (n : ℕ). IsLeastMismatch s (ps ++ p ∷ []) (Some n)) (sym is) made)
  ]
