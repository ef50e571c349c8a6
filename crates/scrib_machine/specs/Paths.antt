-- Paths of machines. The transition system of a local type follows its traces, the actions determine the path, and a
-- step at its end extends a path.
use Rattle.std.specs.Prelude.{◌≡◌, ◌↔◌, ◌<◌, ℕ, List, [], ◌∷◌, ◌++◌, length, map, slice_index_or, Some, Contains, AllPairs, refl}
use Rattle.std.proofs.Common.{sym, ap, subst, ◌∙◌, arith}
use Rattle.std.proofs.lemmas.List.{get_or_default, get_or-map, length-map}
use Rattle.scrib_types.specs.declared.event.Action.{Action}
use Rattle.scrib_types.specs.Judgement.{ComesBefore}
use Rattle.scrib_types.specs.Trees.{LocalTree, LocalRec}
use Rattle.scrib_types.specs.Traces.{unfolding_of, LocalTransition, unfolds, IsTrace}
use Rattle.scrib_machine.specs.declared.machine.Edge.{Edge}
use Rattle.scrib_machine.specs.Machines.{Steps, Path, UnfoldsTo, as_is, unfolded, IsSystemOf, HasTracesOf, IsMachine}

unfolding_does : {body k : LocalTree} {a : Action} → LocalTransition (LocalRec body) a k
    → LocalTransition (unfolding_of body) a k
unfolding_does (unfolds d) = d

-- a local type makes the transitions of its unfoldings
same_steps : {l k : LocalTree} → UnfoldsTo l k → (a : Action) (t : LocalTree)
    → LocalTransition l a t ↔ LocalTransition k a t
same_steps as_is a t = (λ d. d, λ d. d)
same_steps (unfolded u) a t = let same = same_steps u a t in (λ d. same.0 (unfolding_does d), λ d. unfolds (same.1 d))

traces_from : (l : LocalTree) (m : List (List Edge)) → IsMachine m → (s : IsSystemOf l m)
    → (w : List Action) (i : ℕ) (t : LocalTree) → i < length m → UnfoldsTo t (s.type_of i)
    → IsTrace t w ↔ ((j : ℕ) × Path m i w j)
traces_from l m machine s [] i t h u = (λ _. (i, refl), λ _. tt)
traces_from l m machine s (a ∷ w) i t h u = (
  λ trace.
      let next = s.complete i a trace.0 h ((same_steps u a trace.0).0 trace.1) in
      let path = (traces_from l m machine s w next.0 trace.0 (machine.within i next.0 a next.1) next.2).0 trace.2 in
      (path.0, (next.0, next.1, path.1)),
  λ path.
      let next = s.sound i path.1.0 a path.1.1 in (
        next.0,
        (same_steps u a next.0).1 next.1,
        (traces_from l m machine s w path.1.0 next.0 (machine.within i path.1.0 a path.1.1) next.2).1
            (path.0, path.1.2),
      ),
)

-- a machine that is the transition system of a local type follows the traces of the type
pub system_follows : (l : LocalTree) (m : List (List Edge)) → IsMachine m → IsSystemOf l m → HasTracesOf l m
system_follows l m machine s w = traces_from l m machine s w 0 l machine.some s.first

some_is : {X : Type 0} (x y : X) → Some x ≡ Some y → x ≡ y
some_is x y e = cc

-- two edges of a sorted row don't have the same action
apart : (es : List Edge) (a : Action) (i j : ℕ) (d e : Edge) → AllPairs ComesBefore (map (λ (x : Edge). x.action) es)
    → i < length es → j < length es → slice_index_or es i d ≡ d → slice_index_or es j e ≡ e → d.action ≡ a
    → e.action ≡ a → (i < j) → ⊥
apart es a i j d e sorted hi hj at_i at_j same_i same_j lt =
    let f : Edge → Action = λ x. x.action in
    let long : length (map f es) ≡ length es = length-map es f in
    (sorted i j a lt (omega (arith, long, hj))).0
    (get_or-map f es i d a hi ∙ ap f at_i ∙ same_i ∙ sym (get_or-map f es j e a hj ∙ ap f at_j ∙ same_j))

same_place : (i j : ℕ) → ((i < j) → ⊥) → ((j < i) → ⊥) → i ≡ j
same_place i j a b = omega arith

-- an action of a state leads to one state
pub steps_one : (m : List (List Edge)) → IsMachine m → (i j k : ℕ) (a : Action) → Steps m i a j → Steps m i a k → j ≡ k
steps_one m machine i j k a s t =
    let es = s.edges in
    let d : Edge = record { action = a; next = j } in
    let e : Edge = record { action = a; next = k } in
    let there : Contains es e =
    subst (λ (x : List Edge). Contains x e) (some_is t.edges es (sym t.here ∙ s.here)) t.there in
    let sorted = machine.sorted i es s.here in
    let p = s.there in
    let place : p.0 ≡ there.0 =
    same_place p.0 there.0 (apart es a p.0 there.0 d e sorted p.1 there.1 p.2 there.2 refl refl)
    (apart es a there.0 p.0 e d sorted there.1 p.1 there.2 p.2 refl refl) in
    ap (λ (x : Edge). x.next) (sym p.2 ∙ ap (λ n. slice_index_or es n d) place
    ∙ get_or_default es there.0 d e there.1 ∙ there.2)

-- two paths by the same actions end in the same state
pub path_one : (m : List (List Edge)) → IsMachine m → (w : List Action) (i j k : ℕ) → Path m i w j → Path m i w k
    → j ≡ k
path_one m machine [] i j k p q = sym p ∙ q
path_one m machine (a ∷ w) i j k p q =
    let same : q.0 ≡ p.0 = steps_one m machine i q.0 p.0 a q.1 p.1 in
    path_one m machine w p.0 j k p.2 (subst (λ x. Path m x w k) same q.2)

-- a path and a step from its end are a path
pub path_push : (m : List (List Edge)) (w : List Action) (a : Action) (i k j : ℕ) → Path m i w k → Steps m k a j
    → Path m i (w ++ a ∷ []) j
path_push m [] a i k j p s = (j, subst (λ x. Steps m x a j) (sym p) s, refl)
path_push m (b ∷ w) a i k j p s = (p.0, p.1, path_push m w a p.0 k j p.2 s)

-- a path that is one action longer is a path and a step
pub path_last : (m : List (List Edge)) (w : List Action) (a : Action) (i j : ℕ) → Path m i (w ++ a ∷ []) j
    → (k : ℕ) × Path m i w k × Steps m k a j
path_last m [] a i j p = (i, refl, subst (λ x. Steps m i a x) p.2 p.1)
path_last m (b ∷ w) a i j p = let r = path_last m w a p.0 j p.2 in (r.0, (p.0, p.1, r.1), r.2)

-- a path from a state leads to a state
pub path_within : (m : List (List Edge)) → IsMachine m → (w : List Action) (i j : ℕ) → i < length m → Path m i w j
    → j < length m
path_within m machine [] i j h p = subst (λ x. x < length m) p h
path_within m machine (a ∷ w) i j h p = path_within m machine w p.0 j (machine.within i p.0 a p.1) p.2

-- the state that the actions lead to has an edge of the action exactly where the longer list is a trace
pub step_is_trace : (l : LocalTree) (m : List (List Edge)) → IsMachine m → HasTracesOf l m → (w : List Action) (i : ℕ)
    → Path m 0 w i → (a : Action) → ((j : ℕ) × Steps m i a j) ↔ IsTrace l (w ++ a ∷ [])
step_is_trace l m machine f w i p a = (
  λ s. (f (w ++ a ∷ [])).1 (s.0, path_push m w a 0 i s.0 p s.1),
  λ t. let q = (f (w ++ a ∷ [])).0 t in
      let r = path_last m w a 0 q.0 q.1 in
      (q.0, subst (λ x. Steps m x a q.0) (path_one m machine w 0 r.0 i r.1 p) r.2),
)
