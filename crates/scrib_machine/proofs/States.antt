-- The layout is the transition system of the tree: each of its states has a closed local type.
use Rattle.std.proofs.Common.{◌≡◌, inl, inr, ℕ, zero, suc, ◌+◌, ◌<◌, ◌≤◌, List, [], ◌∷◌, ◌++◌, AllPairs, length, get_or, reverse, slice_get, Some, Contains, refl, sym, ap, subst, ◌∙◌, arith, add-one, length-append}
use Rattle.std.proofs.lemmas.Bool.{cases_lt, cases_eq}
use Rattle.std.proofs.lemmas.List.Sorted.{IsPermutation-sym, Contains-permutation}
use Rattle.std.proofs.lemmas.Option.{slice_get_within}
use Rattle.scrib_types.specs.declared.event.Action.{Action}
use Rattle.scrib_types.specs.declared.event.Action.TheVariants.{Sends, Receives}
use Rattle.scrib_types.specs.declared.message.Message.{Message}
use Rattle.scrib_types.specs.Judgement.{ComesBefore}
use Rattle.scrib_types.specs.Trees.{LocalTree, LocalEnd, LocalVar, LocalRec, Send, Recv, LocalBranches, NoChoice, Choice}
use Rattle.scrib_types.specs.Traces.{unfolding_of, Offers, LocalTransition, sends, receives, unfolds}
use Rattle.scrib_machine.specs.declared.machine.Edge.{Edge}
use Rattle.scrib_machine.specs.Machines.{Steps, IsMachine, UnfoldsTo, as_is, unfolded, IsSystemOf}
use Rattle.scrib_machine.specs.Compilable.{Closed, ClosedAll, LeadsToChoice, Guarded, GuardedAll, Lacks, Differ, Distinct, DistinctAll, IsCompilable}
use Rattle.scrib_machine.specs.Layout.{size, sizes, actions_of, edges_of, HasEdges, Laid, LaidAll, Placed}
use Rattle.scrib_machine.proofs.ClosedSubstitution.{closing, closing_all, closing_end, closing_rec, closing_send, closing_recv, closing_none, closing_choice, closing_closed, closing_var, EachClosed}

-- The closed types of a tree's states, in order, where the trees ss replace its free variables, the innermost first.
abbrev mutual
  types : List LocalTree → LocalTree → List LocalTree
  types ss LocalEnd = LocalEnd ∷ []
  types ss (LocalVar k) = []
  types ss (LocalRec body) = types (LocalRec (closing 1 ss body) ∷ ss) body
  types ss (Send q ls) = Send q (closing_all 0 ss ls) ∷ types_all ss ls
  types ss (Recv p ls) = Recv p (closing_all 0 ss ls) ∷ types_all ss ls

  types_all : List LocalTree → LocalBranches → List LocalTree
  types_all ss NoChoice = []
  types_all ss (Choice m l ls) = types ss l ++ types_all ss ls

-- there is one for each state
mutual
  types_size : (ss : List LocalTree) (l : LocalTree) → length (types ss l) ≡ size l
  types_size ss LocalEnd = refl
  types_size ss (LocalVar k) = refl
  types_size ss (LocalRec body) = types_size (LocalRec (closing 1 ss body) ∷ ss) body
  types_size ss (Send q ls) = omega (arith, types_sizes ss ls)
  types_size ss (Recv p ls) = omega (arith, types_sizes ss ls)

  types_sizes : (ss : List LocalTree) (ls : LocalBranches) → length (types_all ss ls) ≡ sizes ls
  types_sizes ss NoChoice = refl
  types_sizes ss (Choice m l ls) = length-append (types ss l) (types_all ss ls) ∙ omega (arith, types_size ss l, types_sizes ss ls)

-- the states from n on have these types by T
abbrev Gives : (ℕ → LocalTree) → ℕ → List LocalTree → Type 0
Gives T n [] = Unit {0}
Gives T n (t ∷ ts) = (T n ≡ t) × Gives T (n + 1) ts

gives_append : (T : ℕ → LocalTree) (n : ℕ) (ts us : List LocalTree) → Gives T n (ts ++ us) → Gives T n ts × Gives T (n + length ts) us
gives_append T n [] us g = (tt, (let e : n ≡ n + 0 = omega arith in subst (λ k. Gives T k us) e g))
gives_append T n (t ∷ ts) us g =
    let rest = gives_append T (n + 1) ts us g.1 in
    let e : (n + 1) + length ts ≡ n + length (t ∷ ts) = omega arith in
    ((g.0, rest.0), subst (λ k. Gives T k us) e rest.1)

-- the types of a choice's branches, one branch after another
gives_branches : (T : ℕ → LocalTree) (n : ℕ) (ss : List LocalTree) (l : LocalTree) (ls : LocalBranches) → Gives T n (types ss l ++ types_all ss ls) → Gives T n (types ss l) × Gives T (n + size l) (types_all ss ls)
gives_branches T n ss l ls g =
    let parts = gives_append T n (types ss l) (types_all ss ls) g in
    (parts.0, subst (λ k. Gives T (n + k) (types_all ss ls)) (types_size ss l) parts.1)

gives_later : (T U : ℕ → LocalTree) (n : ℕ) (ts : List LocalTree) → ((i : ℕ) → U (i + 1) ≡ T i) → Gives T n ts → Gives U (n + 1) ts
gives_later T U n [] e g = tt
gives_later T U n (t ∷ ts) e g = (e n ∙ g.0, gives_later T U (n + 1) ts e g.1)

read_later : (t : LocalTree) (ts : List LocalTree) (i : ℕ) → get_or (t ∷ ts) (i + 1) LocalEnd ≡ get_or ts i LocalEnd
read_later t ts i = rw add-one refl

gives_itself : (ts : List LocalTree) → Gives (λ i. get_or ts i LocalEnd) 0 ts
gives_itself [] = tt
gives_itself (t ∷ ts) = (refl, gives_later (λ i. get_or ts i LocalEnd) (λ i. get_or (t ∷ ts) i LocalEnd) 0 ts (read_later t ts) (gives_itself ts))

-- a tree that leads to a choice begins at its first state, and unfolds to the type of that state
lead_root : (m : List (List Edge)) (env : List ℕ) (l : LocalTree) (n r : ℕ) → LeadsToChoice l → Laid m env l n r → r ≡ n
lead_root m env LocalEnd n r h w = absurd h
lead_root m env (LocalVar k) n r h w = absurd h
lead_root m env (LocalRec body) n r h w = lead_root m (n ∷ env) body n r h w
lead_root m env (Send q ls) n r h w = w.0
lead_root m env (Recv p ls) n r h w = w.0

lead_within : (m : List (List Edge)) (env : List ℕ) (l : LocalTree) (n r : ℕ) → LeadsToChoice l → Laid m env l n r → n < length m
lead_within m env LocalEnd n r h w = absurd h
lead_within m env (LocalVar k) n r h w = absurd h
lead_within m env (LocalRec body) n r h w = lead_within m (n ∷ env) body n r h w
lead_within m env (Send q ls) n r h w = slice_get_within m n w.1.2.edges w.1.2.here
lead_within m env (Recv p ls) n r h w = slice_get_within m n w.1.2.edges w.1.2.here

same_type : (l k t : LocalTree) → l ≡ k → t ≡ k → UnfoldsTo l t
same_type l k t e f = subst (λ x. UnfoldsTo l x) (e ∙ sym f) as_is

lead_type : (T : ℕ → LocalTree) (ss : List LocalTree) (l : LocalTree) (n : ℕ) → LeadsToChoice l → Gives T n (types ss l) → UnfoldsTo (closing 0 ss l) (T n)
lead_type T ss LocalEnd n h g = absurd h
lead_type T ss (LocalVar k) n h g = absurd h
lead_type T ss (LocalRec body) n h g =
    let s : LocalTree = LocalRec (closing 1 ss body) in
    subst (λ x. UnfoldsTo x (T n)) (sym (closing_rec 0 ss body)) (unfolded {body = closing 1 ss body} (lead_type T (s ∷ ss) body n h g))
lead_type T ss (Send q ls) n h g = same_type (closing 0 ss (Send q ls)) (Send q (closing_all 0 ss ls)) (T n) (closing_send 0 ss q ls) g.0
lead_type T ss (Recv p ls) n h g = same_type (closing 0 ss (Recv p ls)) (Recv p (closing_all 0 ss ls)) (T n) (closing_recv 0 ss p ls) g.0

-- The recursions round a tree begin in these states and are these trees, the innermost first. Each is closed,
-- and unfolds to the type of its state.
abbrev Bound : List (List Edge) → (ℕ → LocalTree) → List ℕ → List LocalTree → Type 0
Bound m T [] [] = Unit {0}
Bound m T [] (s ∷ ss) = ⊥
Bound m T (e ∷ env) [] = ⊥
Bound m T (e ∷ env) (s ∷ ss) = ((e < length m) × UnfoldsTo s (T e) × Closed s 0) × Bound m T env ss

bound_closed : (m : List (List Edge)) (T : ℕ → LocalTree) (env : List ℕ) (ss : List LocalTree) → Bound m T env ss → EachClosed ss
bound_closed m T [] [] b = tt
bound_closed m T [] (s ∷ ss) b = absurd b
bound_closed m T (e ∷ env) [] b = absurd b
bound_closed m T (e ∷ env) (s ∷ ss) b = (b.0.2, bound_closed m T env ss b.1)

-- the tree begins in a state to whose type it unfolds
record Begins (m : List (List Edge)) (T : ℕ → LocalTree) (t : LocalTree) (r : ℕ) : Type 0 where
  within : r < length m
  type : UnfoldsTo t (T r)

some_is : {X : Type 0} (x y : X) → Some x ≡ Some y → x ≡ y
some_is x y e = cc

bound_begins : (m : List (List Edge)) (T : ℕ → LocalTree) (env : List ℕ) (ss : List LocalTree) (k r : ℕ) → Bound m T env ss → slice_get env k ≡ Some r → k < length ss → Begins m T (get_or ss k LocalEnd) r
bound_begins m T [] [] k r b at h = absurd (omega arith)
bound_begins m T [] (s ∷ ss) k r b at h = absurd b
bound_begins m T (e ∷ env) [] k r b at h = absurd b
bound_begins m T (e ∷ env) (s ∷ ss) zero r b at h = subst (λ (x : ℕ). Begins m T s x) (some_is e r at) (record { within = b.0.0; type = b.0.1 })
bound_begins m T (e ∷ env) (s ∷ ss) (suc k) r b at h = let below : k < length ss = omega arith in bound_begins m T env ss k r b.1 at below

begins_here : (m : List (List Edge)) (T : ℕ → LocalTree) (t : LocalTree) (n r : ℕ) → r ≡ n → n < length m → UnfoldsTo t (T n) → Begins m T t r
begins_here m T t n r e h u = subst (λ (x : ℕ). Begins m T t x) (sym e) (record { within = h; type = u })

-- one more recursion round its body
bound_more : (m : List (List Edge)) (T : ℕ → LocalTree) (env : List ℕ) (ss : List LocalTree) (body : LocalTree) (n r : ℕ) → Bound m T env ss → Closed body (length ss + 1) → LeadsToChoice body → Laid m (n ∷ env) body n r → Gives T n (types (LocalRec (closing 1 ss body) ∷ ss) body) → Bound m T (n ∷ env) (LocalRec (closing 1 ss body) ∷ ss)
bound_more m T env ss body n r b c h w g =
    let at : length ss + 1 ≡ 1 + length ss = omega arith in
    let s : LocalTree = LocalRec (closing 1 ss body) in (
      (
        lead_within m (n ∷ env) body n r h w,
        unfolded {body = closing 1 ss body} (lead_type T (s ∷ ss) body n h g),
        closing_closed 1 ss body (bound_closed m T env ss b) (subst (λ d. Closed body d) at c),
      ),
      b,
    )

tree_begins : (m : List (List Edge)) (T : ℕ → LocalTree) (env : List ℕ) (ss : List LocalTree) (l : LocalTree) (n r : ℕ) → Bound m T env ss → Closed l (length ss) → Guarded l → Laid m env l n r → Gives T n (types ss l) → Begins m T (closing 0 ss l) r
tree_begins m T env ss LocalEnd n r b c d w g =
    begins_here m T (closing 0 ss LocalEnd) n r w.0 (slice_get_within m n [] w.1) (same_type (closing 0 ss LocalEnd) LocalEnd (T n) (closing_end 0 ss) g.0)
tree_begins m T env ss (LocalVar k) n r b c d w g =
    let e : 0 + k ≡ k = omega arith in
    subst (λ x. Begins m T x r) (sym (closing_var 0 ss k (bound_closed m T env ss b) c) ∙ ap (λ x. closing 0 ss (LocalVar x)) e) (bound_begins m T env ss k r b w c)
tree_begins m T env ss (LocalRec body) n r b c d w g =
    begins_here m T (closing 0 ss (LocalRec body)) n r (lead_root m (n ∷ env) body n r d.0 w) (lead_within m (n ∷ env) body n r d.0 w) (lead_type T ss (LocalRec body) n d.0 g)
tree_begins m T env ss (Send q ls) n r b c d w g =
    begins_here m T (closing 0 ss (Send q ls)) n r w.0 (slice_get_within m n w.1.2.edges w.1.2.here) (lead_type T ss (Send q ls) n tt g)
tree_begins m T env ss (Recv p ls) n r b c d w g =
    begins_here m T (closing 0 ss (Recv p ls)) n r w.0 (slice_get_within m n w.1.2.edges w.1.2.here) (lead_type T ss (Recv p ls) n tt g)

-- an offered message has its edge
record HasEdge (m : List (List Edge)) (T : ℕ → LocalTree) (f : Message → Action) (ls : LocalBranches) (ks : List ℕ) (x : Message) (t : LocalTree) : Type 0 where
  next : ℕ
  there : Contains (edges_of f ls ks) (record { action = f x; next = next })
  begins : Begins m T t next

offer_edge : (m : List (List Edge)) (T : ℕ → LocalTree) (env : List ℕ) (ss : List LocalTree) (f : Message → Action) (ls : LocalBranches) (n : ℕ) (ks : List ℕ) → Bound m T env ss → ClosedAll ls (length ss) → GuardedAll ls → LaidAll m env ls n ks → Gives T n (types_all ss ls) → (x : Message) (t : LocalTree) → Offers (closing_all 0 ss ls) x t → HasEdge m T f ls ks x t
offer_edge m T env ss f NoChoice n ks b c d w g x t o = absurd (subst (λ z. Offers z x t) (closing_none 0 ss) o)
offer_edge m T env ss f (Choice y l ls) n [] b c d w g x t o = absurd w
offer_edge m T env ss f (Choice y l ls) n (k ∷ ks) b c d w g x t o =
    let split : Offers (Choice y (closing 0 ss l) (closing_all 0 ss ls)) x t = subst (λ z. Offers z x t) (closing_choice 0 ss y l ls) o in
    let parts = gives_branches T n ss l ls g in
    elim split [
      | inl here ↦ record {
        next = k;
        there = (0, (let z : 0 < length (edges_of f ls ks) + 1 = omega arith in omega arith), λ i. record { action = f (sym here.0 i); next = k });
        begins = subst (λ z. Begins m T z k) (sym here.1) (tree_begins m T env ss l n k b c.0 d.0 w.0 parts.0);
      }
      | inr later ↦
          let e = offer_edge m T env ss f ls (n + size l) ks b c.1 d.1 w.1 parts.1 x t later.1 in
          record {
            next = e.next;
            there = (suc e.there.0, (let h : e.there.0 < length (edges_of f ls ks) = e.there.1 in omega arith), e.there.2);
            begins = e.begins;
          }
    ]

-- a message that no branch has isn't offered
lacks_apart : (ss : List LocalTree) (ls : LocalBranches) (y x : Message) (t : LocalTree) → Lacks y ls → Offers (closing_all 0 ss ls) x t → x ≡ y → ⊥
lacks_apart ss NoChoice y x t h o e = absurd (subst (λ z. Offers z x t) (closing_none 0 ss) o)
lacks_apart ss (Choice n l ls) y x t h o e =
    let split : Offers (Choice n (closing 0 ss l) (closing_all 0 ss ls)) x t = subst (λ z. Offers z x t) (closing_choice 0 ss n l ls) o in
    elim split [
      | inl here ↦ h.0 (sym e ∙ here.0)
      | inr later ↦ lacks_apart ss ls y x t h.1 later.1 e
    ]

-- an edge has its offer
record HasOffer (m : List (List Edge)) (T : ℕ → LocalTree) (ss : List LocalTree) (f : Message → Action) (ls : LocalBranches) (a : Action) (j : ℕ) : Type 0 where
  message : Message
  is : a ≡ f message
  after : LocalTree
  offers : Offers (closing_all 0 ss ls) message after
  begins : Begins m T after j

edge_offer : (m : List (List Edge)) (T : ℕ → LocalTree) (env : List ℕ) (ss : List LocalTree) (f : Message → Action) (ls : LocalBranches) (n : ℕ) (ks : List ℕ) → Bound m T env ss → ClosedAll ls (length ss) → GuardedAll ls → Differ ls → LaidAll m env ls n ks → Gives T n (types_all ss ls) → (a : Action) (j at : ℕ) → at < length (edges_of f ls ks) → get_or (edges_of f ls ks) at (record { action = a; next = j }) ≡ record { action = a; next = j } → HasOffer m T ss f ls a j
edge_offer m T env ss f NoChoice n ks b c d v w g a j at h is = absurd (omega arith)
edge_offer m T env ss f (Choice y l ls) n [] b c d v w g a j at h is = absurd w
edge_offer m T env ss f (Choice y l ls) n (k ∷ ks) b c d v w g a j zero h is =
    let parts = gives_branches T n ss l ls g in
    record {
      message = y;
      is = sym (ap (λ (e : Edge). e.action) is);
      after = closing 0 ss l;
      offers = subst (λ z. Offers z y (closing 0 ss l)) (sym (closing_choice 0 ss y l ls)) (inl (refl, refl));
      begins = subst (λ (i : ℕ). Begins m T (closing 0 ss l) i) (ap (λ (e : Edge). e.next) is) (tree_begins m T env ss l n k b c.0 d.0 w.0 parts.0);
    }
edge_offer m T env ss f (Choice y l ls) n (k ∷ ks) b c d v w g a j (suc at) h is =
    let below : at < length (edges_of f ls ks) = omega arith in
    let parts = gives_branches T n ss l ls g in
    let o = edge_offer m T env ss f ls (n + size l) ks b c.1 d.1 v.1 w.1 parts.1 a j at below is in
    record {
      message = o.message;
      is = o.is;
      after = o.after;
      offers = subst (λ z. Offers z o.message o.after) (sym (closing_choice 0 ss y l ls)) (inr (lacks_apart ss ls y o.message o.after v.0 o.offers, o.offers));
      begins = o.begins;
    }

-- the steps of a row are its edges
steps_row : (m : List (List Edge)) (n : ℕ) (f : Message → Action) (ls : LocalBranches) (ks : List ℕ) → HasEdges m n f ls ks → (a : Action) (j : ℕ) → Contains (edges_of f ls ks) (record { action = a; next = j }) → Steps m n a j
steps_row m n f ls ks row a j w =
    record { edges = row.edges; here = row.here; there = Contains-permutation (edges_of f ls ks) row.edges (record { action = a; next = j }) row.same w }

row_steps : (m : List (List Edge)) (n : ℕ) (f : Message → Action) (ls : LocalBranches) (ks : List ℕ) → HasEdges m n f ls ks → (a : Action) (j : ℕ) → Steps m n a j → Contains (edges_of f ls ks) (record { action = a; next = j })
row_steps m n f ls ks row a j s =
    let e : Edge = record { action = a; next = j } in
    let same : s.edges ≡ row.edges = some_is s.edges row.edges (sym s.here ∙ row.here) in
    Contains-permutation row.edges (edges_of f ls ks) e (IsPermutation-sym (edges_of f ls ks) row.edges row.same) (subst (λ (es : List Edge). Contains es e) same s.there)

-- the state's edges are sorted, and are exactly the transitions of its closed type
record IsRight (m : List (List Edge)) (T : ℕ → LocalTree) (i : ℕ) : Type 0 where
  sorted : (es : List Edge) → slice_get m i ≡ Some es → AllPairs ComesBefore (actions_of es)
  closed : Closed (T i) 0
  sound : (a : Action) (j : ℕ) → Steps m i a j → (k : LocalTree) × LocalTransition (T i) a k × Begins m T k j
  complete : (a : Action) (k : LocalTree) → LocalTransition (T i) a k → (j : ℕ) × Steps m i a j × UnfoldsTo k (T j)

-- the transitions of a tree of a known form
abbrev DoesAs : LocalTree → Action → LocalTree → Type 0
DoesAs LocalEnd a k = ⊥
DoesAs (LocalVar n) a k = ⊥
DoesAs (LocalRec body) a k = LocalTransition (unfolding_of body) a k
DoesAs (Send q ls) a k = (m : Message) × (a ≡ Sends q m) × Offers ls m k
DoesAs (Recv p ls) a k = (m : Message) × (a ≡ Receives p m) × Offers ls m k

does_as : {l k : LocalTree} {a : Action} → LocalTransition l a k → DoesAs l a k
does_as (sends {m} o) = (m, refl, o)
does_as (receives {m} o) = (m, refl, o)
does_as (unfolds d) = d

end_right : (m : List (List Edge)) (T : ℕ → LocalTree) (n : ℕ) → slice_get m n ≡ Some [] → T n ≡ LocalEnd → IsRight m T n
end_right m T n at type =
    let none : (es : List Edge) → slice_get m n ≡ Some es → [] ≡ es = λ es here. some_is [] es (sym at ∙ here) in
    record {
      sorted = λ es here. subst (λ (xs : List Edge). AllPairs ComesBefore (actions_of xs)) (none es here) (λ i j d lt h. absurd (omega (arith, h)));
      closed = subst (λ x. Closed x 0) (sym type) tt;
      sound = λ a j s. absurd (let there = subst (λ (es : List Edge). Contains es (record { action = a; next = j })) (sym (none s.edges s.here)) s.there in omega (arith, there.1));
      complete = λ a k d. absurd (does_as (subst (λ x. LocalTransition x a k) type d));
    }

send_right : (m : List (List Edge)) (T : ℕ → LocalTree) (env : List ℕ) (ss : List LocalTree) (q : List ℕ) (ls : LocalBranches) (n : ℕ) (ks : List ℕ) → Bound m T env ss → ClosedAll ls (length ss) → GuardedAll ls → Differ ls → LaidAll m env ls (n + 1) ks → HasEdges m n (Sends q) ls ks → Gives T n (types ss (Send q ls)) → IsRight m T n
send_right m T env ss q ls n ks b c d v w row g =
    let choice : LocalTree = Send q (closing_all 0 ss ls) in
    record {
      sorted = λ es here. subst (λ (xs : List Edge). AllPairs ComesBefore (actions_of xs)) (some_is row.edges es (sym row.here ∙ here)) row.sorted;
      closed = subst (λ x. Closed x 0) (closing_send 0 ss q ls ∙ sym g.0) (closing_closed 0 ss (Send q ls) (bound_closed m T env ss b) (let e : length ss ≡ 0 + length ss = omega arith in subst (λ x. ClosedAll ls x) e c));
      sound = λ a j s.
          let at = row_steps m n (Sends q) ls ks row a j s in
          let o = edge_offer m T env ss (Sends q) ls (n + 1) ks b c d v w g.1 a j at.0 at.1 at.2 in
          (o.after, subst (λ x. LocalTransition x a o.after) (sym g.0) (subst (λ x. LocalTransition choice x o.after) (sym o.is) (sends o.offers)), o.begins);
      complete = λ a k does.
          let o = does_as (subst (λ x. LocalTransition x a k) g.0 does) in
          let e = offer_edge m T env ss (Sends q) ls (n + 1) ks b c d w g.1 o.0 k o.2 in
          (e.next, subst (λ x. Steps m n x e.next) (sym o.1) (steps_row m n (Sends q) ls ks row (Sends q o.0) e.next e.there), e.begins.type);
    }

recv_right : (m : List (List Edge)) (T : ℕ → LocalTree) (env : List ℕ) (ss : List LocalTree) (p : List ℕ) (ls : LocalBranches) (n : ℕ) (ks : List ℕ) → Bound m T env ss → ClosedAll ls (length ss) → GuardedAll ls → Differ ls → LaidAll m env ls (n + 1) ks → HasEdges m n (Receives p) ls ks → Gives T n (types ss (Recv p ls)) → IsRight m T n
recv_right m T env ss p ls n ks b c d v w row g =
    let choice : LocalTree = Recv p (closing_all 0 ss ls) in
    record {
      sorted = λ es here. subst (λ (xs : List Edge). AllPairs ComesBefore (actions_of xs)) (some_is row.edges es (sym row.here ∙ here)) row.sorted;
      closed = subst (λ x. Closed x 0) (closing_recv 0 ss p ls ∙ sym g.0) (closing_closed 0 ss (Recv p ls) (bound_closed m T env ss b) (let e : length ss ≡ 0 + length ss = omega arith in subst (λ x. ClosedAll ls x) e c));
      sound = λ a j s.
          let at = row_steps m n (Receives p) ls ks row a j s in
          let o = edge_offer m T env ss (Receives p) ls (n + 1) ks b c d v w g.1 a j at.0 at.1 at.2 in
          (o.after, subst (λ x. LocalTransition x a o.after) (sym g.0) (subst (λ x. LocalTransition choice x o.after) (sym o.is) (receives o.offers)), o.begins);
      complete = λ a k does.
          let o = does_as (subst (λ x. LocalTransition x a k) g.0 does) in
          let e = offer_edge m T env ss (Receives p) ls (n + 1) ks b c d w g.1 o.0 k o.2 in
          (e.next, subst (λ x. Steps m n x e.next) (sym o.1) (steps_row m n (Receives p) ls ks row (Receives p o.0) e.next e.there), e.begins.type);
    }

mutual
  states_right : (m : List (List Edge)) (T : ℕ → LocalTree) (env : List ℕ) (ss : List LocalTree) (l : LocalTree) (n r : ℕ) → Bound m T env ss → Closed l (length ss) → Guarded l → Distinct l → Laid m env l n r → Gives T n (types ss l) → (i : ℕ) → n ≤ i → i < n + size l → IsRight m T i
  states_right m T env ss LocalEnd n r b c d v w g i lo hi =
      let here : n ≡ i = omega arith in subst (λ (x : ℕ). IsRight m T x) here (end_right m T n w.1 g.0)
  states_right m T env ss (LocalVar k) n r b c d v w g i lo hi = absurd (omega arith)
  states_right m T env ss (LocalRec body) n r b c d v w g i lo hi =
      let e : length ss + 1 ≡ length (LocalRec (closing 1 ss body) ∷ ss) = omega arith in
      states_right m T (n ∷ env) (LocalRec (closing 1 ss body) ∷ ss) body n r (bound_more m T env ss body n r b c d.0 w g) (subst (λ x. Closed body x) e c) d.1 v w g i lo hi
  states_right m T env ss (Send q ls) n r b c d v w g i lo hi = elim (cases_eq i n) [
    | inl here ↦ subst (λ (x : ℕ). IsRight m T x) (sym here) (send_right m T env ss q ls n w.1.0 b c d v.0 w.1.1 w.1.2 g)
    | inr ne ↦ branches_right m T env ss ls (n + 1) w.1.0 b c d v.1 w.1.1 g.1 i (let up : n + 1 ≤ i = omega arith in up) (omega arith)
  ]
  states_right m T env ss (Recv p ls) n r b c d v w g i lo hi = elim (cases_eq i n) [
    | inl here ↦ subst (λ (x : ℕ). IsRight m T x) (sym here) (recv_right m T env ss p ls n w.1.0 b c d v.0 w.1.1 w.1.2 g)
    | inr ne ↦ branches_right m T env ss ls (n + 1) w.1.0 b c d v.1 w.1.1 g.1 i (let up : n + 1 ≤ i = omega arith in up) (omega arith)
  ]

  branches_right : (m : List (List Edge)) (T : ℕ → LocalTree) (env : List ℕ) (ss : List LocalTree) (ls : LocalBranches) (n : ℕ) (ks : List ℕ) → Bound m T env ss → ClosedAll ls (length ss) → GuardedAll ls → DistinctAll ls → LaidAll m env ls n ks → Gives T n (types_all ss ls) → (i : ℕ) → n ≤ i → i < n + sizes ls → IsRight m T i
  branches_right m T env ss NoChoice n ks b c d v w g i lo hi = absurd (omega arith)
  branches_right m T env ss (Choice x l ls) n [] b c d v w g i lo hi = absurd w
  branches_right m T env ss (Choice x l ls) n (k ∷ ks) b c d v w g i lo hi =
      let parts = gives_branches T n ss l ls g in
      elim (cases_lt i (n + size l)) [
        | inl lt ↦ states_right m T env ss l n k b c.0 d.0 v.0 w.0 parts.0 i lo lt
        | inr ge ↦ branches_right m T env ss ls (n + size l) ks b c.1 d.1 v.1 w.1 parts.1 i ge (omega arith)
      ]

-- a closed tree begins in the first state
root_first : (m : List (List Edge)) (l : LocalTree) (r : ℕ) → Closed l 0 → Guarded l → Laid m [] l 0 r → r ≡ 0
root_first m LocalEnd r c d w = w.0
root_first m (LocalVar k) r c d w = absurd (omega (arith, c))
root_first m (LocalRec body) r c d w = lead_root m (0 ∷ []) body 0 r d.0 w
root_first m (Send q ls) r c d w = w.0
root_first m (Recv p ls) r c d w = w.0

laid_system : (m : List (List Edge)) (l : LocalTree) (r : ℕ) → IsCompilable l → length m ≡ size l → Laid m [] l 0 r → IsMachine m × IsSystemOf l m
laid_system m l r f counted w =
    let T : ℕ → LocalTree = λ i. get_or (types [] l) i LocalEnd in
    let g : Gives T 0 (types [] l) = gives_itself (types [] l) in
    let right : (i : ℕ) → i < length m → IsRight m T i = λ i h. states_right m T [] [] l 0 r tt f.closed f.guarded f.distinct w g i (omega arith) (omega (arith, counted, h)) in
    let row : (i : ℕ) (es : List Edge) → slice_get m i ≡ Some es → IsRight m T i = λ i es here. right i (slice_get_within m i es here) in
    let root : Begins m T l 0 = subst (λ (x : ℕ). Begins m T l x) (root_first m l r f.closed f.guarded w) (tree_begins m T [] [] l 0 r tt f.closed f.guarded w g) in (
      record {
        some = root.within;
        within = λ i j a s. ((row i s.edges s.here).sound a j s).2.within;
        sorted = λ i es here. (row i es here).sorted es here;
      },
      record {
        type_of = T;
        closed = λ i h. (right i h).closed;
        first = root.type;
        sound = λ i j a s. let k = (row i s.edges s.here).sound a j s in (k.0, k.1, k.2.type);
        complete = λ i a k h d. (right i h).complete a k d;
      },
    )

-- what was laid out after no rows is a machine, and the transition system of its tree
pub placed_system : (old new : List (List Edge)) (outer : List ℕ) (l : LocalTree) (r : ℕ) → IsCompilable l → old ≡ [] → outer ≡ [] → Placed old new (reverse outer) l r → IsMachine new × IsSystemOf l new
placed_system old new outer l r f none empty p =
    let start : length old ≡ 0 = ap length none in
    let env : reverse outer ≡ [] = ap reverse empty in
    let laid : Laid new [] l 0 r = subst (λ (e : List ℕ). Laid new e l 0 r) env (subst (λ n. Laid new (reverse outer) l n r) start p.laid) in
    laid_system new l r f (omega (arith, start, p.counted)) laid
