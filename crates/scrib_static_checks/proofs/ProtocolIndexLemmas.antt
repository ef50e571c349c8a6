-- An index stays valid where modules declare protocols of the same names.
use Rattle.std.proofs.Common.{◌≡◌, ℕ, zero, suc, ◌+◌, ◌<◌, List, [], ◌∷◌, ◌++◌, length, get_or, map, set, take, Option, Some, refl, sym, ap, ◌∙◌, subst, arith}
use Rattle.std.specs.List.{slice_get}
use Rattle.std.proofs.lemmas.List.{length-map, map-append, map_more, take_all}
use Rattle.scrib_tree.specs.declared.tree.ModuleTree.{ModuleTree}
use Rattle.scrib_tree.specs.declared.tree.ProtocolDeclaration.{ProtocolDeclaration}
use Rattle.scrib_static_checks.specs.ProtocolIndex.{protocol_slot, slot_for, IsReached, IsFilled, IsIndexed}
use Rattle.scrib_static_checks.specs.Names.{Declaration, protocol_names, declared_in, declarations}

-- of two lists with the same image, elements at the same place have the same image
same_image : (f : Declaration → ℕ) (ds es : List Declaration) → map f ds ≡ map f es → (j : ℕ) (e : Declaration) → slice_get es j ≡ Some e → (d : Declaration) × (slice_get ds j ≡ Some d) × (f d ≡ f e)
same_image f [] [] h j e p = absurd (cc p)
same_image f [] (y ∷ ys) h j e p = absurd (cc h)
same_image f (x ∷ xs) [] h j e p = absurd (cc p)
same_image f (x ∷ xs) (y ∷ ys) h zero e p =
    let here : y ≡ e = cc p in
    let same : f x ≡ f y = cc h in
    (x, refl, same ∙ ap f here)
same_image f (x ∷ xs) (y ∷ ys) h (suc j) e p =
    let rest : map f xs ≡ map f ys = cc h in
    same_image f xs ys rest j e p

indexed_alike : (ds es : List Declaration) (size n : ℕ) (slots : List (Option ℕ)) → map (slot_for size) ds ≡ map (slot_for size) es → IsFilled ds size n slots → IsFilled es size n slots
indexed_alike ds es size n slots alike f = record {
  long = f.long;
  within = f.within;
  reached = λ j d p l. let q = same_image (slot_for size) ds es alike j d p in subst (λ z. IsReached slots size z j) q.2 (f.reached j q.0 q.1 l);
}

kept_alike : (ds es : List Declaration) (slots : List (Option ℕ)) (n : ℕ) → ((size : ℕ) → map (slot_for size) ds ≡ map (slot_for size) es) → IsIndexed ds slots n → IsIndexed es slots n
kept_alike ds es slots n alike h l =
    let size = length slots in
    let q = h l in
    let long : length ds ≡ length es = sym (length-map ds (slot_for size)) ∙ ap length (alike size) ∙ length-map es (slot_for size) in
    (subst (λ z. IsFilled es size z slots) long (indexed_alike ds es size (length ds) slots (alike size) q.0), q.1 ∙ long)

-- the slots of protocols of the same names, in modules of one name
slots_alike : (size : ℕ) (a b : ModuleTree) → a.name ≡ b.name → (ps qs : List ProtocolDeclaration) → protocol_names ps ≡ protocol_names qs → map (slot_for size) (declared_in a ps) ≡ map (slot_for size) (declared_in b qs)
slots_alike size a b n [] [] e = refl
slots_alike size a b n [] (q ∷ qs) e = absurd (cc e)
slots_alike size a b n (p ∷ ps) [] e = absurd (cc e)
slots_alike size a b n (p ∷ ps) (q ∷ qs) e =
    let head : p.name ≡ q.name = cc e in
    let tail : protocol_names ps ≡ protocol_names qs = cc e in
    let rest = slots_alike size a b n ps qs tail in
    λ i. protocol_slot size (n i) (head i) ∷ rest i

slots_set : (size : ℕ) (ms : List ModuleTree) (k : ℕ) (o m : ModuleTree) → k < length ms → o ≡ get_or ms k o → map (slot_for size) (declared_in o o.protocols) ≡ map (slot_for size) (declared_in m m.protocols) → map (slot_for size) (declarations ms) ≡ map (slot_for size) (declarations (set ms k m))
slots_set size [] k o m lt at e = absurd (omega (arith, lt))
slots_set size (x ∷ xs) zero o m lt at e =
    let P : ModuleTree → Type 0 = λ y. map (slot_for size) (declared_in y y.protocols) ≡ map (slot_for size) (declared_in m m.protocols) in
    map-append (slot_for size) (declared_in x x.protocols) (declarations xs) ∙ ap (λ l. l ++ map (slot_for size) (declarations xs)) (subst P at e) ∙ sym (map-append (slot_for size) (declared_in m m.protocols) (declarations xs))
slots_set size (x ∷ xs) (suc k) o m lt at e =
    map-append (slot_for size) (declared_in x x.protocols) (declarations xs) ∙ ap (λ l. map (slot_for size) (declared_in x x.protocols) ++ l) (slots_set size xs k o m (omega (arith, lt)) at e)
    ∙ sym (map-append (slot_for size) (declared_in x x.protocols) (declarations (set xs k m)))

-- the index stays valid where a module replaces such a module
pub indexed_set : (ms : List ModuleTree) (k : ℕ) (o m : ModuleTree) (slots : List (Option ℕ)) (n : ℕ) → k < length ms → o ≡ get_or ms k o → o.name ≡ m.name → protocol_names o.protocols ≡ protocol_names m.protocols → IsIndexed (declarations ms) slots n → IsIndexed (declarations (set ms k m)) slots n
indexed_set ms k o m slots n lt at named same h =
    kept_alike (declarations ms) (declarations (set ms k m)) slots n (λ size. slots_set size ms k o m lt at (slots_alike size o m named o.protocols m.protocols same)) h

-- names that were compared one after another
pub names_more : (ps qs : List ProtocolDeclaration) (k : ℕ) (p q : ProtocolDeclaration) → k < length ps → k < length qs → p ≡ get_or ps k p → q ≡ get_or qs k q → p.name ≡ q.name → protocol_names (take k ps) ≡ protocol_names (take k qs) → protocol_names (take (k + 1) ps) ≡ protocol_names (take (k + 1) qs)
names_more ps qs k p q lt less at there same h =
    let f : ProtocolDeclaration → List ℕ = λ x. x.name in
    map_more f ps k p lt ∙ ap (λ y. map f (take k ps) ++ f y ∷ []) (sym at) ∙ (λ i. h i ++ same i ∷ []) ∙ sym (map_more f qs k q less ∙ ap (λ y. map f (take k qs) ++ f y ∷ []) (sym there))

pub names_all : (ps qs : List ProtocolDeclaration) (k : ℕ) → length ps ≡ length qs → k ≡ length ps → protocol_names (take k ps) ≡ protocol_names (take k qs) → protocol_names ps ≡ protocol_names qs
names_all ps qs k long end h =
    ap protocol_names (sym (take_all k ps (omega (arith, end)))) ∙ h ∙ ap protocol_names (take_all k qs (omega (arith, end, long)))
