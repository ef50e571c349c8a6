-- Edges sorted by the printed texts of their actions.
use Rattle.std.proofs.Common.{◌≡◌, ◌≢◌, ◌⊎◌, inl, inr, Bool, false, ℕ, ◌<◌, List, [], ◌∷◌, length, get_or, map, AllPairs, refl, sym, ap, subst, ◌∙◌, arith}
use Rattle.std.specs.Cmp.{IsStrictWeakOrder}
use Rattle.std.specs.Cmp.Lexicographic.{slice_cmp}
use Rattle.std.specs.Fn.{Called, ComparesAs}
use Rattle.std.specs.List.{swap}
use Rattle.std.specs.List.Sorted.{IsPermutation, IsSortedBy}
use Rattle.std.specs.Ordering.{nat_cmp, is_lt, ordering_reverse}
use Rattle.std.specs.declared.cmp.Ordering.{Ordering}
use Rattle.std.specs.declared.cmp.Ordering.TheVariants.{Less, Greater}
use Rattle.std.proofs.lemmas.Bool.{true≢false, cases_lt, cases_eq}
use Rattle.std.proofs.lemmas.Cmp.{nat_list_cmp_total}
use Rattle.std.proofs.lemmas.Fn.{always_returns_same}
use Rattle.std.proofs.lemmas.List.{get_or-map, length-map}
use Rattle.std.proofs.lemmas.List.Edits.{Swapped, swapped_from_swap, length-swap}
use Rattle.std.proofs.lemmas.List.Sorted.{IsPermutation-keeps, IsPermutation-map, ranks_by, sorted_far}
use denote.Param.Members.{Mut}
use denote.Ref.{Bor}
use Rattle.scrib_types.specs.declared.event.Action.{Action}
use Rattle.scrib_types.specs.Judgement.{ComesBefore}
use Rattle.scrib_types.specs.Texts.{action_text}
use Rattle.scrib_machine.specs.declared.machine.Edge.{Edge}
use Rattle.scrib_machine.specs.declared.sorted.Printed.{Printed}
use Rattle.scrib_machine.specs.Layout.{actions_of, printed_edges, AllPrinted}

-- no two of the actions are the same
abbrev Apart : List Action → Type 0
Apart l = (i j : ℕ) (d : Action) → i ≢ j → i < length l → j < length l → get_or l i d ≢ get_or l j d

sides : (i j : ℕ) → i ≢ j → (i < j) ⊎ (j < i)
sides i j ne = elim (cases_lt i j) [ inl lt ↦ inl lt | inr le ↦ (let lt : j < i = omega arith in inr lt) ]

apart_from : (l : List Action) → AllPairs (λ a b. a ≢ b) l → Apart l
apart_from l h i j d ne hi hj e = elim (sides i j ne) [ inl lt ↦ h i j d lt hj e | inr lt ↦ h j i d lt hi (sym e) ]

moved : (f g : ℕ → Action) (a b n : ℕ) → Swapped f g a b → a < n → b < n → (p : ℕ) → p < n → (s : ℕ) × (s < n) × (g p ≡ f s) × (p ≡ a → s ≡ b) × (p ≡ b → s ≡ a) × ((p ≡ a → ⊥) → (p ≡ b → ⊥) → s ≡ p)
moved f g a b n sw la lb p lp = elim (cases_eq p a) [
  | inl ea ↦ (b, lb, ap g ea ∙ sw.0, (λ _. refl), (λ eb. sym eb ∙ ea), (λ u v. absurd (u ea)))
  | inr na ↦ elim (cases_eq p b) [
    | inl eb ↦ (a, la, ap g eb ∙ sw.1, (λ e. absurd (na e)), (λ _. refl), (λ u v. absurd (v eb)))
    | inr nb ↦ (p, lp, sw.2 p na nb, (λ e. absurd (na e)), (λ e. absurd (nb e)), (λ u v. refl))
  ]
]

images_differ : (a b i j s t : ℕ) → (i ≡ j → ⊥) → (i ≡ a → s ≡ b) → (i ≡ b → s ≡ a) → ((i ≡ a → ⊥) → (i ≡ b → ⊥) → s ≡ i) → (j ≡ a → t ≡ b) → (j ≡ b → t ≡ a) → ((j ≡ a → ⊥) → (j ≡ b → ⊥) → t ≡ j) → s ≡ t → ⊥
images_differ a b i j s t ne p q r x y z e = grind arith

apart_swap : (l : List Action) (a b : ℕ) → a < length l → b < length l → Apart l → Apart (swap l a b)
apart_swap l a b la lb h i j d ne hi hj e =
    let long : length (swap l a b) ≡ length l = length-swap l a b in
    let f : ℕ → Action = λ k. get_or l k d in
    let g : ℕ → Action = λ k. get_or (swap l a b) k d in
    let sw = swapped_from_swap l (swap l a b) a b d la lb refl in
    let s = moved f g a b (length l) sw la lb i (omega (arith, long, hi)) in
    let t = moved f g a b (length l) sw la lb j (omega (arith, long, hj)) in
    h s.0 t.0 d (images_differ a b i j s.0 t.0 ne s.3 s.4 s.5 t.3 t.4 t.5) s.1 t.1 (sym s.2 ∙ e ∙ t.2)

apart_permuted : (xs ys : List Action) → IsPermutation xs ys → Apart xs → Apart ys
apart_permuted xs ys p h = IsPermutation-keeps xs (λ l. Apart l) h (λ l a b la lb q. apart_swap l a b la lb q) ys p

not_greater : (xs ys : List ℕ) → is_lt (slice_cmp nat_cmp ys xs) ≡ false → slice_cmp nat_cmp xs ys ≢ Greater
not_greater xs ys h e =
    let back : slice_cmp nat_cmp ys xs ≡ Less = nat_list_cmp_total.antisymm ys xs ∙ ap ordering_reverse e in
    true≢false (sym (ap is_lt back) ∙ h)

abbrev text_lt : Printed → Printed → Bool
text_lt x y = is_lt (slice_cmp nat_cmp x.text.items y.text.items)

sorted_pairs' : (p : Printed) (ps : List Printed) → AllPrinted ps → IsSortedBy text_lt ps → Apart (actions_of (printed_edges ps)) → AllPairs ComesBefore (actions_of (printed_edges ps))
sorted_pairs' p ps texts up apart i j d lt hj =
    let f : Edge → Action = λ e. e.action in
    let g : Printed → Edge = λ q. q.edge in
    let long : length (map f (map g ps)) ≡ length ps = length-map (map g ps) f ∙ length-map ps g in
    let mid : length (map g ps) ≡ length ps = length-map ps g in
    let pj : j < length ps = omega (arith, long, hj) in
    let pi : i < length ps = omega (arith, lt, pj) in
    let act : (k : ℕ) → k < length ps → get_or (map f (map g ps)) k d ≡ (get_or ps k p).edge.action =
    λ k h. get_or-map f (map g ps) k p.edge d (omega (arith, mid, h)) ∙ ap f (get_or-map g ps k p p.edge h) in
    let text : (k : ℕ) → k < length ps → (get_or ps k p).text.items ≡ action_text (get_or (map f (map g ps)) k d) =
    λ k h. texts k p h ∙ ap action_text (sym (act k h)) in
    let far : text_lt (get_or ps j p) (get_or ps i p) ≡ false = sorted_far text_lt (ranks_by nat_list_cmp_total (λ (q : Printed). q.text.items)) ps up i j p (omega arith) pj in
    let ti = (get_or ps i p).text.items in
    let tj = (get_or ps j p).text.items in (
      apart i j d (omega arith) (omega (arith, long, pi)) hj,
      subst (λ t. slice_cmp nat_cmp t (action_text (get_or (map f (map g ps)) j d)) ≢ Greater) (text i pi)
          (subst (λ t. slice_cmp nat_cmp ti t ≢ Greater) (text j pj) (not_greater ti tj far)),
    )

sorted_pairs : (ps : List Printed) → AllPrinted ps → IsSortedBy text_lt ps → Apart (actions_of (printed_edges ps)) → AllPairs ComesBefore (actions_of (printed_edges ps))
sorted_pairs [] texts up apart i j d lt hj = absurd (omega arith)
sorted_pairs (p ∷ ps) texts up apart i j d lt hj = sorted_pairs' p (p ∷ ps) texts up apart i j d lt hj

-- the edges, after their texts were sorted
pub sorted_before : (old new : List Printed) (edges : List Edge) → AllPrinted new → printed_edges old ≡ edges → IsPermutation old new → IsSortedBy text_lt new → AllPairs (λ a b. a ≢ b) (actions_of edges) → AllPairs ComesBefore (actions_of (printed_edges new))
sorted_before old new edges texts is p up h =
    let f : Edge → Action = λ e. e.action in
    let g : Printed → Edge = λ q. q.edge in
    let start : Apart (actions_of (printed_edges old)) = subst (λ (es : List Edge). Apart (actions_of es)) (sym is) (apart_from (actions_of edges) h) in
    sorted_pairs new texts up (apart_permuted (map f (map g old)) (map f (map g new)) (IsPermutation-map f (map g old) (map g new) (IsPermutation-map g old new p)) start)

pub sorted_by_text : {F : Type 0} {g : Mut F (Bor Printed × (Bor Printed × Unit {0})) Ordering} {f : F} (xs : List Printed) → ((lt : Printed → Printed → Bool) → IsStrictWeakOrder lt → ComparesAs g lt f → IsSortedBy lt xs) → ((a : Bor Printed × (Bor Printed × Unit {0})) (r : Ordering) (f' : F) → Called g f a r f' → (r ≡ slice_cmp nat_cmp a.0.now.text.items a.1.0.now.text.items) × (f' ≡ f)) → IsSortedBy text_lt xs
sorted_by_text {g = g} {f = f} xs up h =
    up text_lt (ranks_by nat_list_cmp_total (λ (q : Printed). q.text.items))
    (always_returns_same g (λ a r. is_lt r ≡ text_lt a.0.now a.1.0.now) f (λ a r f' k. (ap is_lt (h a r f' k).0, (h a r f' k).1)))
