-- The module that a put replaces.
use Rattle.std.proofs.Common.{◌≡◌, ℕ, zero, suc, ◌<◌, List, [], ◌∷◌, length, get_or, set, take, drop, Option, Some, None, ◌⊎◌, inl, inr, refl, sym, ap, ◌∙◌, subst, arith}
use Rattle.std.specs.List.{Contains}
use Rattle.std.proofs.Math.ListN.{length-set}
use Rattle.std.proofs.lemmas.List.{take-append-drop, get_or-set_same}
use Rattle.std.proofs.lemmas.List.Elements.{Contains-append_left}
use Rattle.scrib_tree.specs.declared.tree.ModuleTree.{ModuleTree}
use Rattle.scrib_static_checks.specs.Names.{dotted_eq, with_module}
use Rattle.scrib_static_checks.specs.declared.modules.Placed.{Placed}
use Rattle.scrib_static_checks.specs.Placed.{IsModulePlaced, back_to}
use Rattle.scrib_static_checks.proofs.NameLemmas.{dotted_eq-Decides}
use Rattle.scrib_library.proofs.Lists.{Contains-set_cases}
use Rattle.scrib_library.proofs.Orders.{get_or_any}
use Rattle.scrib_library.proofs.Places.{either}

-- the replaced module has the name of the new one
names_alike : (m r : ModuleTree) (before : List ModuleTree) (at : ℕ) → at < length before → get_or before at r ≡ r → get_or (with_module m before) at m ≡ m → r.name ≡ m.name
names_alike m r [] at lt old new = absurd (omega (arith, lt))
names_alike m r (n ∷ ns) at lt old new =
    elim (either (dotted_eq m.name n.name)) [
      | inl t ↦ replaced at lt old (rw t at new) ((dotted_eq-Decides m.name n.name).0 t)
      | inr f ↦ other at lt old (rw f at new) (λ k l o w. names_alike m r ns k l o w)
    ]
  where
    replaced : (k : ℕ) → k < length (n ∷ ns) → get_or (n ∷ ns) k r ≡ r → get_or (m ∷ ns) k m ≡ m → m.name ≡ n.name → r.name ≡ m.name
    replaced zero l o w e = ap (λ (x : ModuleTree). x.name) (sym o) ∙ sym e
    replaced (suc k) l o w e = ap (λ (x : ModuleTree). x.name) (sym o ∙ get_or_any ns k r m (omega (arith, l)) ∙ w)

    other : (k : ℕ) → k < length (n ∷ ns) → get_or (n ∷ ns) k r ≡ r → get_or (n ∷ with_module m ns) k m ≡ m → ((j : ℕ) → j < length ns → get_or ns j r ≡ r → get_or (with_module m ns) j m ≡ m → r.name ≡ m.name) → r.name ≡ m.name
    other zero l o w rest = ap (λ (x : ModuleTree). x.name) (sym o ∙ w)
    other (suc k) l o w rest = rest k (omega (arith, l)) o w

-- the old modules, if one is replaced
pub before_set : (m : ModuleTree) (before after : List ModuleTree) (p : Placed) → IsModulePlaced m before after p → (r : ModuleTree) → p.replaced ≡ Some r → set after p.at r ≡ before
before_set m before after p h r is = sym (ap (λ o. back_to p.at o after) is) ∙ h.back

pub gone_named : (m : ModuleTree) (before after : List ModuleTree) (p : Placed) → IsModulePlaced m before after p → (r : ModuleTree) → p.replaced ≡ Some r → r.name ≡ m.name
gone_named m before after p h r is =
    let back = before_set m before after p h r is in
    let long : length before ≡ length after = ap length (sym back) ∙ length-set after p.at r in
    let lt : p.at < length before = omega (arith, h.within, long) in
    let old : get_or before p.at r ≡ r = ap (λ l. get_or l p.at r) (sym back) ∙ get_or-set_same after p.at r r h.within in
    let new : get_or (with_module m before) p.at m ≡ m = ap (λ l. get_or l p.at m) (sym h.put) ∙ h.there m in
    names_alike m r before p.at lt old new

-- each old module is still there, or is the replaced one and has the new one's name
pub still_there : (m : ModuleTree) (before after : List ModuleTree) (p : Placed) → IsModulePlaced m before after p → (t : ModuleTree) → Contains before t → Contains after t ⊎ ((p.replaced ≡ Some t) × (t.name ≡ m.name))
still_there m before after p h t c = by p.replaced refl
  where
    by : (o : Option ModuleTree) → p.replaced ≡ o → Contains after t ⊎ ((p.replaced ≡ Some t) × (t.name ≡ m.name))
    by None is =
        let back : take p.at after ≡ before = sym (ap (λ o. back_to p.at o after) is) ∙ h.back in
        let P : List ModuleTree → Type 0 = λ l. Contains l t in
        inl (subst P (take-append-drop p.at after) (Contains-append_left (take p.at after) (drop p.at after) t (subst P (sym back) c)))
    by (Some r) is =
        let back = before_set m before after p h r is in
        let P : List ModuleTree → Type 0 = λ l. Contains l t in
        elim (Contains-set_cases after p.at r t (subst P (sym back) c)) [
          | inl e ↦ inr (is ∙ ap (λ (x : ModuleTree). Some x) e, ap (λ (x : ModuleTree). x.name) (sym e) ∙ gone_named m before after p h r is)
          | inr q ↦ inl q
        ]
