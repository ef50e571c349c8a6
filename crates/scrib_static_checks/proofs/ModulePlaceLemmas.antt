-- A module that is put in its place, and the undoing of that.
use Rattle.std.proofs.Common.{◌≡◌, ℕ, zero, suc, ◌<◌, false, List, [], ◌∷◌, ◌++◌, length, get_or, drop, map, set, take, Some, None, refl, sym, ap, ◌∙◌, arith}
use Rattle.std.specs.List.{remove}
use Rattle.std.proofs.Math.Seq.{take-append_seam}
use Rattle.std.proofs.lemmas.List.{take-map, drop-map, map-append, length-set, length-append, length_push, get_or-set_same, get_or_push}
use Rattle.scrib_tree.specs.declared.tree.ModuleTree.{ModuleTree}
use Rattle.scrib_static_checks.specs.Names.{has_name, module_names}
use Rattle.scrib_static_checks.specs.Table.{IsPlace}
use Rattle.scrib_static_checks.specs.Placed.{IsModulePlaced}
use Rattle.scrib_static_checks.proofs.Places.{with_module-at, with_module-last}

-- removing an element of a list removes it from the image too
pub remove-map : {X Y : Type 0} (f : X → Y) (xs : List X) (k : ℕ) → remove (map f xs) k ≡ map f (remove xs k)
remove-map f xs k =
    ap (λ ys. ys ++ drop (suc k) (map f xs)) (take-map f k xs) ∙ ap (λ ys. map f (take k xs) ++ ys) (drop-map f (suc k) xs) ∙ sym (map-append f (take k xs) (drop (suc k) xs))

set-back : {X : Type 0} (xs : List X) (k : ℕ) (x y : X) → y ≡ get_or xs k y → set (set xs k x) k y ≡ xs
set-back [] k x y e = refl
set-back (z ∷ zs) zero x y e = ap (λ w. w ∷ zs) e
set-back (z ∷ zs) (suc k) x y e = ap (λ ws. z ∷ ws) (set-back zs k x y e)

pub put_over : (ms old : List ModuleTree) (m n o : ModuleTree) (k : ℕ) → ms ≡ old → n ≡ m → IsPlace ms m.name k → o ≡ get_or ms k o → IsModulePlaced m old (set ms k n) (record { at = k; replaced = Some o })
put_over ms old m n o k same copied p stood =
    let within : k < length ms = omega (arith, p.at, ap length p.is, length-append p.before (p.here ∷ p.after)) in
    record {
      put = with_module-at ms old m n k same copied p;
      within = omega (arith, length-set ms k n, within);
      there = λ d. get_or-set_same ms k n d within ∙ copied;
      back = set-back ms k n o stood ∙ same;
    }

pub put_last : (ms old : List ModuleTree) (m : ModuleTree) (k : ℕ) → ms ≡ old → k ≡ length old → has_name m.name (module_names old) ≡ false → IsModulePlaced m old (ms ++ m ∷ []) (record { at = k; replaced = None })
put_last ms old m k same at none = record {
  put = ap (λ xs. xs ++ m ∷ []) same ∙ sym (with_module-last m old none);
  within = omega (arith, at, length_push ms m, ap length same);
  there = λ d. ap (λ n. get_or (ms ++ m ∷ []) n d) (at ∙ ap length (sym same)) ∙ get_or_push ms m d (length ms) refl;
  back = ap (λ n. take n (ms ++ m ∷ [])) (at ∙ ap length (sym same)) ∙ take-append_seam ms (m ∷ []) ∙ same;
}
