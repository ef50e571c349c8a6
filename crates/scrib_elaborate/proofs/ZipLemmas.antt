-- A loop over a slice and a consumed list, side by side.
use Rattle.std.proofs.Common.{◌≡◌, ◌⊎◌, ℕ, zero, suc, ◌≤◌, List, [], ◌∷◌, length, drop, Option, Some, None, sym, ap, ◌∙◌, subst, ⊎_elim, arith, length-drop}
use Rattle.std.specs.Borrow.{Bor}
use Rattle.std.specs.List.{slice_get}
use Rattle.std.specs.Iterator.{Yields}
use Rattle.std.specs.Iterator.Adapters.{zip_first, zip_second}
use Rattle.std.specs.Slice.Iter.{iter_rest}
use Rattle.std.specs.Vec.Iter.{into_iter_items, into_iter_steps}
use Rattle.std.specs.declared.iter.Zip.{Zip}
use Rattle.std.specs.declared.slice.Iter.{Iter}
use Rattle.std.specs.declared.vec.IntoIter.{IntoIter}
use Rattle.std.proofs.iter.Yields.{fronts}
use Rattle.std.proofs.lemmas.Iterator.{zips}

drop_on : {A : Type 0} (all rest : List A) (x : A) → all ≡ x ∷ rest → (n : ℕ) → drop (suc n) all ≡ drop n rest
drop_on all rest x e n = ap (drop (suc n)) e

first_of_drop : {A : Type 0} (xs rest : List A) (n : ℕ) (x : A) → x ∷ rest ≡ drop n xs → slice_get xs n ≡ Some x
first_of_drop [] rest zero x e = absurd (cc e)
first_of_drop [] rest (suc n) x e = absurd (cc e)
first_of_drop (y ∷ ys) rest zero x e = let same : x ≡ y = cc e in ap Some (sym same)
first_of_drop (y ∷ ys) rest (suc n) x e = first_of_drop ys rest n x e

-- the pairs so far
so_far : {A B Z : Type 0} (xs : List (Bor A × B)) (s t : Zip (Iter A) (IntoIter B Z)) → Yields (zips fronts into_iter_steps) s xs t
    → (iter_rest (zip_first t) ≡ drop (length xs) (iter_rest (zip_first s))) × (into_iter_items (zip_second t) ≡ drop (length xs) (into_iter_items (zip_second s)))
so_far [] s t y = (ap (λ z. iter_rest (zip_first z)) (sym y), ap (λ z. into_iter_items (zip_second z)) (sym y))
so_far (x ∷ xs) s t y =
    let k = so_far xs y.0 t y.2 in (k.0 ∙ sym (drop_on _ _ _ y.1.0 (length xs)), k.1 ∙ sym (drop_on _ _ _ y.1.1.0 (length xs)))

-- the index of the next pair
pub zip_turn : {A B Z : Type 0} (ks : List A) (vs : List B) (xs : List (Bor A × B)) (s t u : Zip (Iter A) (IntoIter B Z)) (r : Option (Bor A × B)) (p : Bor A × B)
    → iter_rest (zip_first s) ≡ ks → into_iter_items (zip_second s) ≡ vs → Yields (zips fronts into_iter_steps) s xs t → r ≡ Some p → zips fronts into_iter_steps t r u
    → (slice_get ks (length xs) ≡ Some p.0.now) × (slice_get vs (length xs) ≡ Some p.1)
zip_turn ks vs xs s t u r p first second y e step =
    let k = so_far xs s t y in
    let h = subst (λ o. zips fronts into_iter_steps t o u) e step in (
      first_of_drop ks _ (length xs) p.0.now (sym h.0 ∙ k.0 ∙ ap (drop (length xs)) first),
      first_of_drop vs _ (length xs) p.1 (sym h.1.0 ∙ k.1 ∙ ap (drop (length xs)) second),
    )

-- none is left of either, if they have the same length
pub zip_end : {A B Z : Type 0} (ks : List A) (vs : List B) (xs : List (Bor A × B)) (s t u : Zip (Iter A) (IntoIter B Z)) (r : Option (Bor A × B))
    → iter_rest (zip_first s) ≡ ks → into_iter_items (zip_second s) ≡ vs → Yields (zips fronts into_iter_steps) s xs t → r ≡ None → zips fronts into_iter_steps t r u → length vs ≡ length ks → length ks ≤ length xs
zip_end {A} {B} {Z} ks vs xs s t u r first second y e step long =
    ⊎_elim (λ a. omega (arith, a.1.0, ap length left, length-drop (length xs) ks)) (λ b. omega (arith, long, b.1.0, (zip_second t).rest.ok.0, ap length right, length-drop (length xs) vs)) h
  where
    k : (iter_rest (zip_first t) ≡ drop (length xs) (iter_rest (zip_first s))) × (into_iter_items (zip_second t) ≡ drop (length xs) (into_iter_items (zip_second s)))
    k = so_far xs s t y

    left : iter_rest (zip_first t) ≡ drop (length xs) ks
    left = k.0 ∙ ap (drop (length xs)) first

    right : into_iter_items (zip_second t) ≡ drop (length xs) vs
    right = k.1 ∙ ap (drop (length xs)) second

    h : ((v : Iter A) × fronts (zip_first t) None v) ⊎ ((v : IntoIter B Z) × into_iter_steps (zip_second t) None v)
    h = subst (λ o. zips fronts into_iter_steps t o u) e step
