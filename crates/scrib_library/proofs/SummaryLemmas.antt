-- Summaries beside their modules.
use Rattle.std.proofs.Common.{◌≡◌, ℕ, zero, suc, ◌+◌, ◌<◌, List, [], ◌∷◌, ◌++◌, length, get_or, set, take, drop, false, Some, None, inl, inr, refl, sym, ap, ◌∙◌, arith}
use Rattle.std.specs.List.{fold}
use Rattle.std.proofs.Math.ListN.{length-set}
use Rattle.std.proofs.lemmas.List.{get_or-map, map-append, map-set, length-map, length-take-le, take-append-drop, drop_more, take_more, take_all}
use Rattle.scrib_tree.specs.declared.tree.ModuleTree.{ModuleTree}
use Rattle.scrib_static_checks.specs.declared.modules.Placed.{Placed}
use Rattle.scrib_static_checks.specs.Names.{dotted_eq, has_name, module_names, with_module}
use Rattle.scrib_static_checks.specs.Table.{IsPlace}
use Rattle.scrib_static_checks.proofs.NameLemmas.{dotted_eq-Decides}
use Rattle.scrib_static_checks.specs.Placed.{IsModulePlaced, back_to}
use Rattle.scrib_library.specs.declared.summaries.ModuleSummary.{ModuleSummary}
use Rattle.scrib_library.specs.NameFilter.{filter_bit}
use Rattle.scrib_library.specs.Summaries.{summary, summaries_of, declared_count}
use Rattle.scrib_library.specs.Modules.{protocol_count}
use Rattle.scrib_library.proofs.Places.{either}
use Rattle.scrib_library.proofs.ReplacementLemmas.{before_set}

pub summary_at : (ms : List ModuleTree) (os : List ModuleSummary) → os ≡ summaries_of ms → (k : ℕ) (m : ModuleTree) (other : ModuleSummary) → k < length ms → m ≡ get_or ms k m → get_or os k other ≡ summary m
summary_at ms os same k m other lt here =
    ap (λ l. get_or l k other) same ∙ get_or-map summary ms k m other lt ∙ ap summary (sym here)

pub some_at : {X : Type 0} (xs : List X) (k : ℕ) → k < length xs → (x : X) × (x ≡ get_or xs k x)
some_at [] k lt = absurd (omega (arith, lt))
some_at (x ∷ xs) zero lt = (x, refl)
some_at (x ∷ xs) (suc k) lt = some_at xs k (omega (arith, lt))

pub as_many : (ms : List ModuleTree) (os : List ModuleSummary) → os ≡ summaries_of ms → length os ≡ length ms
as_many ms os same = ap length same ∙ length-map ms summary

-- a module with another filter bit has another name
pub other_bit : (ms : List ModuleTree) (os : List ModuleSummary) → os ≡ summaries_of ms → (k : ℕ) (m : ModuleTree) (other : ModuleSummary) → k < length ms → m ≡ get_or ms k m → (name : List (List ℕ)) (bit : ℕ) → bit ≡ filter_bit name → ((get_or os k other).bit ≡ bit → ⊥) → name ≡ m.name → ⊥
other_bit ms os same k m other lt here name bit is non e =
    non (ap (λ (o : ModuleSummary). o.bit) (summary_at ms os same k m other lt here) ∙ ap filter_bit (sym e) ∙ sym is)

count_from : (ms : List ModuleTree) (n : ℕ) → fold (λ (k : ℕ) (o : ModuleSummary). k + o.protocols) n (summaries_of ms) ≡ fold (λ (k : ℕ) (m : ModuleTree). k + length m.protocols) n ms
count_from [] n = refl
count_from (m ∷ ms) n = count_from ms (n + length m.protocols)

pub count_is : (ms : List ModuleTree) → declared_count (summaries_of ms) ≡ protocol_count ms
count_is ms = count_from ms 0

-- the index of the first module of the name
pub place_at : (ms : List ModuleTree) (name : List (List ℕ)) (i : ℕ) (m : ModuleTree) → i < length ms → m ≡ get_or ms i m → has_name name (module_names (take i ms)) ≡ false → name ≡ m.name → IsPlace ms name i
place_at ms name i m lt e none named = record {
  before = take i ms;
  here = m;
  after = drop (i + 1) ms;
  is = sym (take-append-drop i ms) ∙ ap (λ ys. take i ms ++ ys) (drop_more ms i m lt ∙ ap (λ y. y ∷ drop (i + 1) ms) (sym e));
  at = omega (arith, length-take-le i ms (omega (arith, lt)));
  named = (dotted_eq-Decides name m.name).1 named;
  first = none;
}

-- ---- a module is put, and the put undone

set_again : {X : Type 0} (xs : List X) (k : ℕ) (y x : X) → get_or xs k x ≡ x → set (set xs k y) k x ≡ xs
set_again [] k y x e = refl
set_again (z ∷ zs) zero y x e = ap (λ w. w ∷ zs) (sym e)
set_again (z ∷ zs) (suc k) y x e = ap (λ ws. z ∷ ws) (set_again zs k y x e)

with_one : (m : ModuleTree) (ms : List ModuleTree) → length (with_module m ms) < length ms + 2
with_one m [] = omega arith
with_one m (n ∷ ns) =
    elim (either (dotted_eq m.name n.name)) [
      | inl t ↦ rw t (omega arith)
      | inr f ↦ rw f (omega (arith, with_one m ns))
    ]

-- without a replaced module the new one is last
put_last : (m : ModuleTree) (before after : List ModuleTree) (p : Placed) → IsModulePlaced m before after p → p.replaced ≡ None → after ≡ before ++ m ∷ []
put_last m before after p h is =
    let back : take p.at after ≡ before = sym (ap (λ o. back_to p.at o after) is) ∙ h.back in
    let long = with_one m before in
    let cut = length-take-le p.at after (omega (arith, h.within)) in
    let all : take (p.at + 1) after ≡ after = take_all (p.at + 1) after (omega (arith, long, cut, ap length back, ap length h.put)) in
    sym all ∙ take_more after p.at m h.within ∙ (λ i. back i ++ h.there m i ∷ [])

module _ (m : ModuleTree) (before after : List ModuleTree) (p : Placed) (h : IsModulePlaced m before after p) (os : List ModuleSummary) (same : os ≡ summaries_of before) where
  pub outlined_last : p.replaced ≡ None → (o : ModuleSummary) → o ≡ summary m → os ++ o ∷ [] ≡ summaries_of after
  outlined_last is o e =
      (λ i. same i ++ e i ∷ []) ∙ sym (ap summaries_of (put_last m before after p h is) ∙ map-append summary before (m ∷ []))

  pub outlined_over : (r : ModuleTree) → p.replaced ≡ Some r → (o : ModuleSummary) → o ≡ summary m → set os p.at o ≡ summaries_of after
  outlined_over r is o e =
      let back = before_set m before after p h r is in
      let again : set before p.at m ≡ after = sym (ap (λ l. set l p.at m) back) ∙ set_again after p.at r m (h.there m) in
      (λ i. set (same i) p.at (e i)) ∙ sym (map-set summary before p.at m) ∙ ap summaries_of again

  pub outlined_within : (r : ModuleTree) → p.replaced ≡ Some r → p.at < length os
  outlined_within r is = let back = before_set m before after p h r is in omega (arith, h.within, as_many before os same, ap length back, length-set after p.at r)
