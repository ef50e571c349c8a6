-- The least place of a receipt that differs: the case of one more receipt.
use Rattle.std.proofs.Common.{◌≡◌, ◌<◌, ◌+◌, ◌++◌, ◌∷◌, ◌∙◌, [], ℕ, min, inl, inr, List, Option, Some, None, length, take, get_or, refl, sym, ap, subst, arith}
use Rattle.std.proofs.lemmas.Bool.{cases_lt}
use Rattle.std.proofs.lemmas.List.{take_more}
use Rattle.std.proofs.lemmas.List.Elements.{All-push, Contains-append_left, Contains-push}
use Rattle.scrib_types.specs.declared.event.Event.{Event}
use Rattle.scrib_locked_steps.specs.declared.pass.Receipt.{Receipt}
use Rattle.scrib_locked_steps.specs.Receipts.{AgreesWith, IsFirstMismatch, min_place}

pub take_one : {X : Type 0} (xs : List X) (i : ℕ) (x : X) → i < length xs → x ≡ get_or xs i x → take (i + 1) xs ≡ take i xs ++ x ∷ []
take_one {X} xs i x within is = take_more xs i x within ∙ ap (λ (y : X). take i xs ++ y ∷ []) (sym is)

-- the case where it agrees
pub stray_right : (log : List Event) (rs : List Receipt) (r : Receipt) (least : Option ℕ) → IsFirstMismatch log rs least → AgreesWith log r → IsFirstMismatch log (rs ++ r ∷ []) least
stray_right log rs r None all agrees = All-push (AgreesWith log) rs r all agrees
stray_right log rs r (Some p) one agrees = (
  (one.0.0, Contains-append_left rs (r ∷ []) one.0.0 one.0.1, one.0.2, one.0.3),
  All-push (λ (q : Receipt). q.place < p → AgreesWith log q) rs r one.1 (λ below. agrees),
)

-- the case where it differs
pub stray_wrong : (log : List Event) (rs : List Receipt) (r : Receipt) (least : Option ℕ) → IsFirstMismatch log rs least → (AgreesWith log r → ⊥) → IsFirstMismatch log (rs ++ r ∷ []) (Some (min_place r.place least))
stray_wrong log rs r None all bad = (
  (r, Contains-push rs r, refl, bad),
  All-push (λ (q : Receipt). q.place < r.place → AgreesWith log q) rs r (λ k d h below. all k d h) (λ below. absurd (omega (arith, below))),
)
stray_wrong log rs r (Some p) one bad = elim (cases_lt r.place p) [
  | inl less ↦ (let is : min p r.place ≡ r.place = omega arith in
      let made : IsFirstMismatch log (rs ++ r ∷ []) (Some r.place) = (
        (r, Contains-push rs r, refl, bad),
        All-push (λ (q : Receipt). q.place < r.place → AgreesWith log q) rs r (λ k d h below. one.1 k d h (omega (arith, below, less))) (λ below. absurd (omega (arith, below))),
      ) in
      subst (λ (n : ℕ). IsFirstMismatch log (rs ++ r ∷ []) (Some n)) (sym is) made)
  | inr more ↦ (let is : min p r.place ≡ p = omega arith in
      let made : IsFirstMismatch log (rs ++ r ∷ []) (Some p) = (
        (one.0.0, Contains-append_left rs (r ∷ []) one.0.0 one.0.1, one.0.2, one.0.3),
        All-push (λ (q : Receipt). q.place < p → AgreesWith log q) rs r one.1 (λ below. absurd (omega (arith, below, more))),
      ) in
      subst (λ (n : ℕ). IsFirstMismatch log (rs ++ r ∷ []) (Some n)) (sym is) made)
]
