-- The case of one more pass's share.
use Rattle.std.proofs.Common.{◌≡◌, ◌<◌, ◌-◌, ◌+◌, ◌%◌, ◌^◌, ◌∙◌, inl, inr, ℕ, List, min, length, get_or, set, take, refl, sym, ap, arith, eq-eqb}
use Rattle.std.proofs.lemmas.Bool.{cases_eq, ne_eqb}
use Rattle.std.proofs.lemmas.List.{get_or-set_same, get_or-set_other}
use Rattle.std.proofs.lemmas.List.Sums.{sum_by_more}
use Rattle.scrib_locked_steps.specs.Passes.{PassHeld}
use Rattle.scrib_settlement.specs.Shares.{shares_in, share_in}

pub share_counted : (count : ℕ) (ps : List PassHeld) (i : ℕ) (p : PassHeld) (k : ℕ) (shares : List ℕ) (n : ℕ)
    → p.conversation % count < length shares → i < length ps → p ≡ get_or ps i p
    → get_or shares k 0 ≡ min (shares_in count k (take i ps)) (2 ^ 64 - 1)
    → n ≡ min (get_or shares (p.conversation % count) 0 + length p.receipts) (2 ^ 64 - 1)
    → get_or (set shares (p.conversation % count) n) k 0 ≡ min (shares_in count k (take (i + 1) ps)) (2 ^ 64 - 1)
share_counted count ps i p k shares n within in_ps is before now =
    let own = p.conversation % count in
    let more : shares_in count k (take (i + 1) ps) ≡ shares_in count k (take i ps) + share_in count k p =
    sum_by_more (share_in count k) ps i p in_ps ∙ ap (λ (q : PassHeld). shares_in count k (take i ps) + share_in count k q) (sym is) in
    elim (cases_eq (p.conversation % count) k) [
      | inl e ↦
          (let same : get_or (set shares own n) k 0 ≡ n = ap (λ (j : ℕ). get_or (set shares own n) j 0) (sym e) ∙ get_or-set_same shares own n 0 within in
          let share : share_in count k p ≡ length p.receipts = rw (eq-eqb own k e) refl in
          let prior : get_or shares own 0 ≡ min (shares_in count k (take i ps)) (2 ^ 64 - 1) = ap (λ (j : ℕ). get_or shares j 0) e ∙ before in
          omega (arith, same, share, prior, more, now))
      | inr differs ↦
          (let other : get_or (set shares own n) k 0 ≡ get_or shares k 0 = get_or-set_other shares own k n 0 (λ e. differs (sym e)) in
          let share : share_in count k p ≡ 0 = rw (ne_eqb own k differs) refl in
          omega (arith, other, share, before, more))
    ]
