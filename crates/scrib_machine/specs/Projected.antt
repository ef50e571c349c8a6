-- The projections of a well-formed global type have machines. They are guarded: where the role occurs, its projection
-- has a choice; where it doesn't, the projection ends in each variable of the global type, and so in one alone.
use Rattle.std.specs.Prelude.{◌≡◌, ◌≢◌, ◌⊎◌, ◌≤◌, ◌<◌, ◌&&◌, ◌||◌, ◌==◌, Bool, true, false, not, max, ℕ, ◌+◌, ◌-◌, List, Option, Some, None, refl}
use Rattle.std.proofs.Common.{sym, ap, ◌∙◌, inl, inr, arith}
use Rattle.std.specs.Str.{bytes_eq}
use Rattle.std.proofs.lemmas.Bool.{and_parts, true≢false, cases_Bool, cases_eq}
use Rattle.std.proofs.lemmas.Bool.Decides.{Decides-eqb}
use Rattle.scrib_types.specs.declared.message.Message.{Message}
pub use Rattle.scrib_types.specs.Nodes.{global_nodes, branch_nodes}
use Rattle.scrib_types.specs.Trees.{GlobalTree, GlobalEnd, GlobalVar, GlobalRec, Comm, Flight, GlobalBranches, NoBranch, Branch, LocalTree, LocalEnd, LocalVar, LocalRec, Send, Recv, LocalBranches}
use Rattle.scrib_types.specs.Projection.{open_depth, branches_open_depth, is_closed, occurs, branches_occur, projection, widest}
use Rattle.scrib_types.specs.WellFormed.{leads_to_communication, uses, branches_use, same_operator, has_operator, distinct_operators, has_branches, well_formed, branches_well_formed}
use Rattle.scrib_types.specs.Merges.{operator_itself, WithOne, one_new, one_known, one_later, WithAll, all_none, all_more, Merges, merges_same, merges_receptions, kept_all}
use Rattle.scrib_machine.specs.Compilable.{Closed, ClosedAll, LeadsToChoice, Guarded, GuardedAll, Lacks, Differ, Distinct, DistinctAll, nodes, nodes_all, max_nodes, IsCompilable}
use Rattle.scrib_machine.specs.Projects.{Projects, p_end, p_var, p_send, p_recv, p_other, p_idle, p_rec, ProjectEach, each_none, each_one, ProjectMerged, merged_none, merged_one, not_from, projects_of}

or_either : (a b : Bool) → (a || b) ≡ true → (a ≡ true) ⊎ (b ≡ true)
or_either true b h = inl refl
or_either false b h = inr h

-- the parts of a well-formed communication
record Parts (roles : List (List ℕ)) (bs : GlobalBranches) : Type 0 where
  some : has_branches bs ≡ true
  distinct : distinct_operators bs ≡ true
  branches : branches_well_formed roles bs ≡ true

parts : (roles : List (List ℕ)) (p q : List ℕ) (bs : GlobalBranches) → well_formed roles (Comm p q bs) ≡ true
    → Parts roles bs
parts roles p q bs h =
    let a = and_parts _ (branches_well_formed roles bs) h in
    let b = and_parts _ (distinct_operators bs) a.0 in
    let c = and_parts _ (has_branches bs) b.0 in record { some = c.1; distinct = b.1; branches = a.1 }

record RecParts (roles : List (List ℕ)) (g : GlobalTree) : Type 0 where
  used : uses 0 g ≡ true
  formed : well_formed roles g ≡ true

rec_parts : (roles : List (List ℕ)) (g : GlobalTree) → well_formed roles (GlobalRec g) ≡ true → RecParts roles g
rec_parts roles g h =
    let a = and_parts _ (well_formed roles g) h in
    let b = and_parts (leads_to_communication g) (uses 0 g) a.0 in record { used = b.1; formed = a.1 }

-- closed
merges_closed : (d : ℕ) {j k i : LocalTree} → Merges j k i → Closed j d → Closed k d → Closed i d
merges_closed d merges_same c e = c
merges_closed d (merges_receptions w) c e =
    kept_all (λ l. Closed l d) (λ ls. ClosedAll ls d) (λ m l ls h. h.0) (λ m l ls h. h.1) (λ m l ls p q. (p, q)) w c e

mutual
  closed : (roles : List (List ℕ)) (r : List ℕ) {g : GlobalTree} {l : LocalTree} (d : ℕ) → Projects g r l
      → well_formed roles g ≡ true → open_depth g ≤ d → Closed l d
  closed roles r d p_end f h = tt
  closed roles r d p_var f h = omega arith
  closed roles r d (p_send {p} {q} {bs} e pe) f h = closed_each roles r d pe (parts roles p q bs f).branches h
  closed roles r d (p_recv {p} {q} {bs} e pe) f h = closed_each roles r d pe (parts roles p q bs f).branches h
  closed roles r d (p_other {p} {q} {m} {g} {bs} e n pj pm) f h =
      let w = and_parts (well_formed roles g) (branches_well_formed roles bs)
      (parts roles p q (Branch m g bs) f).branches in
      closed_merged roles r d pm (closed roles r d pj w.0 (omega arith)) w.1 (omega arith)
  closed roles r d (p_idle e n) f h = tt
  closed roles r d (p_rec {g} e p) f h = closed roles r (d + 1) p (rec_parts roles g f).formed (omega arith)

  closed_each : (roles : List (List ℕ)) (r : List ℕ) {bs : GlobalBranches} {ls : LocalBranches} (d : ℕ)
      → ProjectEach bs r ls → branches_well_formed roles bs ≡ true → branches_open_depth bs ≤ d → ClosedAll ls d
  closed_each roles r d each_none f h = tt
  closed_each roles r d (each_one {g} {bs} p pe) f h =
      let w = and_parts (well_formed roles g) (branches_well_formed roles bs) f in
      (closed roles r d p w.0 (omega arith), closed_each roles r d pe w.1 (omega arith))

  closed_merged : (roles : List (List ℕ)) (r : List ℕ) {bs : GlobalBranches} {j l : LocalTree} (d : ℕ)
      → ProjectMerged bs r j l → Closed j d → branches_well_formed roles bs ≡ true → branches_open_depth bs ≤ d
      → Closed l d
  closed_merged roles r d merged_none c f h = c
  closed_merged roles r d (merged_one {g} {bs} p m pm) c f h =
      let w = and_parts (well_formed roles g) (branches_well_formed roles bs) f in
      closed_merged roles r d pm (merges_closed d m c (closed roles r d p w.0 (omega arith))) w.1 (omega arith)

-- no larger than the global type
one_small : {m : Message} {l : LocalTree} {ks js : LocalBranches} → WithOne m l ks js
    → nodes_all js ≤ nodes_all ks + nodes l
one_small one_new = omega arith
one_small one_known = omega arith
one_small (one_later ne w) = omega (arith, one_small w)

all_small : {ks ls js : LocalBranches} → WithAll ks ls js → nodes_all js ≤ nodes_all ks + nodes_all ls
all_small all_none = omega arith
all_small (all_more w a) = omega (arith, one_small w, all_small a)

merges_small : {j k i : LocalTree} → Merges j k i → nodes i ≤ nodes j + nodes k
merges_small merges_same = omega arith
merges_small (merges_receptions w) = omega (arith, all_small w)

mutual
  small : (roles : List (List ℕ)) (r : List ℕ) {g : GlobalTree} {l : LocalTree} → Projects g r l
      → well_formed roles g ≡ true → nodes l ≤ global_nodes g
  small roles r p_end f = omega arith
  small roles r p_var f = omega arith
  small roles r (p_send {p} {q} {bs} e pe) f = omega (arith, small_each roles r pe (parts roles p q bs f).branches)
  small roles r (p_recv {p} {q} {bs} e pe) f = omega (arith, small_each roles r pe (parts roles p q bs f).branches)
  small roles r (p_other {p} {q} {m} {g} {bs} e n pj pm) f =
      let w = and_parts (well_formed roles g) (branches_well_formed roles bs)
      (parts roles p q (Branch m g bs) f).branches in
      omega (arith, small roles r pj w.0, small_merged roles r pm w.1)
  small roles r (p_idle e n) f = omega arith
  small roles r (p_rec {g} e p) f = omega (arith, small roles r p (rec_parts roles g f).formed)

  small_each : (roles : List (List ℕ)) (r : List ℕ) {bs : GlobalBranches} {ls : LocalBranches} → ProjectEach bs r ls
      → branches_well_formed roles bs ≡ true → nodes_all ls ≤ branch_nodes bs
  small_each roles r each_none f = omega arith
  small_each roles r (each_one {g} {bs} p pe) f =
      let w = and_parts (well_formed roles g) (branches_well_formed roles bs) f in
      omega (arith, small roles r p w.0, small_each roles r pe w.1)

  small_merged : (roles : List (List ℕ)) (r : List ℕ) {bs : GlobalBranches} {j l : LocalTree} → ProjectMerged bs r j l
      → branches_well_formed roles bs ≡ true → nodes l ≤ nodes j + branch_nodes bs
  small_merged roles r merged_none f = omega arith
  small_merged roles r (merged_one {g} {bs} p m pm) f =
      let w = and_parts (well_formed roles g) (branches_well_formed roles bs) f in
      omega (arith, merges_small m, small roles r p w.0, small_merged roles r pm w.1)

-- where neither of two tests holds, each of them does not
or_none : (a b : Bool) → (a || b) ≡ false → (a ≡ false) × (b ≡ false)
or_none true b h = absurd (true≢false h)
or_none false b h = (refl, h)

-- an operator that no branch has is the operator of no message of the projection
lacks : (r : List ℕ) (m : Message) {bs : GlobalBranches} {ls : LocalBranches} → ProjectEach bs r ls
    → has_operator m.op bs ≡ false → Lacks m ls
lacks r m each_none h = tt
lacks r m (each_one {m = n} {bs = bs} p pe) h =
    let y = or_none (same_operator m.op n.op) (has_operator m.op bs) h in (
      λ e. true≢false (sym (operator_itself m.op) ∙ ap (λ (x : Message). same_operator m.op x.op) e ∙ y.0),
      lacks r m pe y.1,
    )

branches_differ : (r : List ℕ) {bs : GlobalBranches} {ls : LocalBranches} → ProjectEach bs r ls → distinct_operators bs ≡ true
    → Differ ls
branches_differ r each_none h = tt
branches_differ r (each_one {m = m} {bs = bs} p pe) h =
    let y = and_parts (not (has_operator m.op bs)) (distinct_operators bs) h in
    (lacks r m pe (not_from (has_operator m.op bs) y.0), branches_differ r pe y.1)

one_lacks : {m : Message} {l : LocalTree} {ks js : LocalBranches} → WithOne m l ks js → (n : Message) → n ≢ m
    → Lacks n ks → Lacks n js
one_lacks one_new n ne h = (ne, tt)
one_lacks one_known n ne h = h
one_lacks (one_later other w) n ne h = (h.0, one_lacks w n ne h.1)

one_differs : {m : Message} {l : LocalTree} {ks js : LocalBranches} → WithOne m l ks js → Differ ks → Differ js
one_differs one_new d = (tt, tt)
one_differs one_known d = d
one_differs (one_later {n} ne w) d = (one_lacks w n (λ e. ne (sym e)) d.0, one_differs w d.1)

all_differ : {ks ls js : LocalBranches} → WithAll ks ls js → Differ ks → Differ js
all_differ all_none d = d
all_differ (all_more w a) d = all_differ a (one_differs w d)

merges_distinct : {j k i : LocalTree} → Merges j k i → Distinct j → Distinct k → Distinct i
merges_distinct merges_same d e = d
merges_distinct (merges_receptions w) d e = (
  all_differ w d.0,
  kept_all Distinct DistinctAll (λ m l ls h. h.0) (λ m l ls h. h.1)
      (λ m l ls p q. (p, q)) w d.1 e.1,
)

mutual
  distinct : (roles : List (List ℕ)) (r : List ℕ) {g : GlobalTree} {l : LocalTree} → Projects g r l
      → well_formed roles g ≡ true → Distinct l
  distinct roles r p_end f = tt
  distinct roles r p_var f = tt
  distinct roles r (p_send {p} {q} {bs} e pe) f =
      let w = parts roles p q bs f in (branches_differ r pe w.distinct, distinct_each roles r pe w.branches)
  distinct roles r (p_recv {p} {q} {bs} e pe) f =
      let w = parts roles p q bs f in (branches_differ r pe w.distinct, distinct_each roles r pe w.branches)
  distinct roles r (p_other {p} {q} {m} {g} {bs} e n pj pm) f =
      let w = and_parts (well_formed roles g) (branches_well_formed roles bs)
      (parts roles p q (Branch m g bs) f).branches in
      distinct_merged roles r pm (distinct roles r pj w.0) w.1
  distinct roles r (p_idle e n) f = tt
  distinct roles r (p_rec {g} e p) f = distinct roles r p (rec_parts roles g f).formed

  distinct_each : (roles : List (List ℕ)) (r : List ℕ) {bs : GlobalBranches} {ls : LocalBranches} → ProjectEach bs r ls
      → branches_well_formed roles bs ≡ true → DistinctAll ls
  distinct_each roles r each_none f = tt
  distinct_each roles r (each_one {g} {bs} p pe) f =
      let w = and_parts (well_formed roles g) (branches_well_formed roles bs) f in
      (distinct roles r p w.0, distinct_each roles r pe w.1)

  distinct_merged : (roles : List (List ℕ)) (r : List ℕ) {bs : GlobalBranches} {j l : LocalTree}
      → ProjectMerged bs r j l → Distinct j → branches_well_formed roles bs ≡ true → Distinct l
  distinct_merged roles r merged_none d f = d
  distinct_merged roles r (merged_one {g} {bs} p m pm) d f =
      let w = and_parts (well_formed roles g) (branches_well_formed roles bs) f in
      distinct_merged roles r pm (merges_distinct m d (distinct roles r p w.0)) w.1

-- the projection on a role that occurs leads to a choice
merges_leads : {j k i : LocalTree} → Merges j k i → LeadsToChoice j ⊎ LeadsToChoice k → LeadsToChoice i
merges_leads merges_same (inl a) = a
merges_leads merges_same (inr b) = b
merges_leads (merges_receptions w) h = tt

mutual
  leads : (r : List ℕ) {g : GlobalTree} {l : LocalTree} → Projects g r l → occurs r g ≡ true → LeadsToChoice l
  leads r p_end h = absurd (true≢false (sym h))
  leads r p_var h = absurd (true≢false (sym h))
  leads r (p_send e pe) h = tt
  leads r (p_recv e pe) h = tt
  leads r (p_other {p} {q} {g} {bs} {j} e n pj pm) h =
      let inside = sym (ap (λ b. b || (occurs r g || branches_occur r bs)) (ap (λ b. b || bytes_eq r q) e ∙ n)) ∙ h in
      leads_merged r pm (elim (or_either (occurs r g) (branches_occur r bs) inside)
      [ inl a ↦ inl (leads r pj a) | inr b ↦ inr b ])
  leads r (p_idle e n) h = absurd (true≢false (sym h ∙ n))
  leads r (p_rec e p) h = leads r p h

  leads_merged : (r : List ℕ) {bs : GlobalBranches} {j l : LocalTree} → ProjectMerged bs r j l
      → LeadsToChoice j ⊎ (branches_occur r bs ≡ true) → LeadsToChoice l
  leads_merged r merged_none (inl a) = a
  leads_merged r merged_none (inr h) = absurd (true≢false (sym h))
  leads_merged r (merged_one p m pm) (inl a) = leads_merged r pm (inl (merges_leads m (inl a)))
  leads_merged r (merged_one {g} {bs} p m pm) (inr h) =
      leads_merged r pm (elim (or_either (occurs r g) (branches_occur r bs) h)
      [ inl a ↦ inl (merges_leads m (inr (leads r p a))) | inr b ↦ inr b ])

-- a variable that occurs is below the depth, and the outermost one occurs
mutual
  used_depth : (g : GlobalTree) (k : ℕ) → uses k g ≡ true → k < open_depth g
  used_depth GlobalEnd k h = absurd (true≢false (sym h))
  used_depth (GlobalVar n) k h = let e : n ≡ k = (Decides-eqb n k).0 h in omega arith
  used_depth (GlobalRec g) k h = omega (arith, used_depth g (k + 1) h)
  used_depth (Comm p q bs) k h = used_depth_all bs k h
  used_depth (Flight p q j bs) k h = used_depth_all bs k h

  used_depth_all : (bs : GlobalBranches) (k : ℕ) → branches_use k bs ≡ true → k < branches_open_depth bs
  used_depth_all NoBranch k h = absurd (true≢false (sym h))
  used_depth_all (Branch m g bs) k h =
      elim (or_either (uses k g) (branches_use k bs) h) [
        | inl a ↦ (let w : k < open_depth g = used_depth g k a in omega arith)
        | inr b ↦ (let w : k < branches_open_depth bs = used_depth_all bs k b in omega arith)
      ]

or_left : (a b : Bool) → a ≡ true → (a || b) ≡ true
or_left true b h = refl
or_left false b h = absurd (true≢false (sym h))

or_right : (a b : Bool) → b ≡ true → (a || b) ≡ true
or_right true b h = refl
or_right false b h = h

max_either : (a b k : ℕ) → max a b ≡ k + 1 → (a ≡ k + 1) ⊎ (b ≡ k + 1)
max_either a b k h = elim (cases_eq a (k + 1)) [ inl e ↦ inl e | inr n ↦ (let w : b ≡ k + 1 = omega arith in inr w) ]

mutual
  depth_used : (g : GlobalTree) (k : ℕ) → open_depth g ≡ k + 1 → uses k g ≡ true
  depth_used GlobalEnd k h = absurd (omega arith)
  depth_used (GlobalVar n) k h = let e : n ≡ k = omega arith in (Decides-eqb n k).1 e
  depth_used (GlobalRec g) k h = let e : open_depth g ≡ (k + 1) + 1 = omega arith in depth_used g (k + 1) e
  depth_used (Comm p q bs) k h = depth_used_all bs k h
  depth_used (Flight p q j bs) k h = depth_used_all bs k h

  depth_used_all : (bs : GlobalBranches) (k : ℕ) → branches_open_depth bs ≡ k + 1 → branches_use k bs ≡ true
  depth_used_all NoBranch k h = absurd (omega arith)
  depth_used_all (Branch m g bs) k h = elim (max_either (open_depth g) (branches_open_depth bs) k h) [
    | inl a ↦ or_left (uses k g) (branches_use k bs) (depth_used g k a)
    | inr b ↦ or_right (uses k g) (branches_use k bs) (depth_used_all bs k b)
  ]

-- after its recursions the tree is the variable that is k outside it
abbrev EndsIn : LocalTree → ℕ → Type 0
EndsIn (LocalVar n) k = n ≡ k
EndsIn (LocalRec l) k = EndsIn l (k + 1)
EndsIn _ k = ⊥

ends_in_one : (l : LocalTree) (j k : ℕ) → EndsIn l j → EndsIn l k → j ≡ k
ends_in_one LocalEnd j k a b = absurd a
ends_in_one (LocalVar n) j k a b = sym a ∙ b
ends_in_one (LocalRec l) j k a b = let e : j + 1 ≡ k + 1 = ends_in_one l (j + 1) (k + 1) a b in omega arith
ends_in_one (Send q ls) j k a b = absurd a
ends_in_one (Recv p ls) j k a b = absurd a

merges_ends : {j i l : LocalTree} → Merges j i l → (k : ℕ) → EndsIn j k ⊎ EndsIn i k → EndsIn l k
merges_ends merges_same k (inl a) = a
merges_ends merges_same k (inr b) = b
merges_ends (merges_receptions w) k (inl a) = absurd a
merges_ends (merges_receptions w) k (inr b) = absurd b

-- the projection on a role that doesn't occur ends in each variable that occurs
mutual
  idle : (r : List ℕ) {g : GlobalTree} {l : LocalTree} (k : ℕ) → Projects g r l → occurs r g ≡ false → uses k g ≡ true
      → EndsIn l k
  idle r k p_end n u = absurd (true≢false (sym u))
  idle r k (p_var {k = i}) n u = (Decides-eqb i k).0 u
  idle r k (p_send {p} {q} {bs} e pe) n u =
      absurd (true≢false (sym e
      ∙ (or_none (bytes_eq r p) (bytes_eq r q) (or_none (bytes_eq r p || bytes_eq r q) (branches_occur r bs) n).0).0))
  idle r k (p_recv {p} {q} {bs} e pe) n u =
      absurd (true≢false (sym e
      ∙ (or_none (bytes_eq r p) (bytes_eq r q) (or_none (bytes_eq r p || bytes_eq r q) (branches_occur r bs) n).0).1))
  idle r k (p_other {p} {q} {g} {bs} e f pj pm) n u =
      let w = or_none (occurs r g) (branches_occur r bs)
      (or_none (bytes_eq r p || bytes_eq r q) (occurs r g || branches_occur r bs) n).1 in
      idle_merged r k pm w.1
      (elim (or_either (uses k g) (branches_use k bs) u) [ inl a ↦ inl (idle r k pj w.0 a) | inr b ↦ inr b ])
  idle r k (p_idle {g = g} c a) n u =
      let shut : open_depth g - 1 ≡ 0 = (Decides-eqb (open_depth g - 1) 0).0 c in
      absurd (omega (arith, shut, used_depth g (k + 1) u))
  idle r k (p_rec e p) n u = idle r (k + 1) p n u

  idle_merged : (r : List ℕ) {bs : GlobalBranches} {j l : LocalTree} (k : ℕ) → ProjectMerged bs r j l
      → branches_occur r bs ≡ false → EndsIn j k ⊎ (branches_use k bs ≡ true) → EndsIn l k
  idle_merged r k merged_none n (inl a) = a
  idle_merged r k merged_none n (inr u) = absurd (true≢false (sym u))
  idle_merged r k (merged_one {g} {bs} p m pm) n (inl a) =
      idle_merged r k pm (or_none (occurs r g) (branches_occur r bs) n).1 (inl (merges_ends m k (inl a)))
  idle_merged r k (merged_one {g} {bs} p m pm) n (inr u) =
      let w = or_none (occurs r g) (branches_occur r bs) n in
      idle_merged r k pm w.1 (elim (or_either (uses k g) (branches_use k bs) u)
      [ inl a ↦ inl (merges_ends m k (inr (idle r k p w.0 a))) | inr b ↦ inr b ])

not_closed : (g : GlobalTree) → is_closed (GlobalRec g) ≡ false → (k : ℕ) × (open_depth g ≡ (k + 1) + 1)
not_closed g h = some (open_depth g) h
  where
    some : (n : ℕ) → ((n - 1) == 0) ≡ false → (k : ℕ) × (n ≡ (k + 1) + 1)
    some n h =
        let ne : n - 1 ≢ 0 = λ (e : n - 1 ≡ 0). true≢false (sym ((Decides-eqb (n - 1) 0).1 e) ∙ h) in
        (n - 2, omega arith)

left_false : (a b : Bool) → (a && not b) ≡ false → b ≡ false → a ≡ false
left_false true true h e = e
left_false true false h e = h
left_false false b h e = refl

-- a recursion that is kept leads to a choice
kept_leads : (r : List ℕ) (g : GlobalTree) (l : LocalTree) → Projects g r l → uses 0 g ≡ true
    → (is_closed (GlobalRec g) && not (occurs r g)) ≡ false → LeadsToChoice l
kept_leads r g l p used kept = elim (cases_Bool (occurs r g)) [
  | inl here ↦ leads r p here
  | inr nowhere ↦
      let w = not_closed g (left_false (is_closed (GlobalRec g)) (occurs r g) kept nowhere) in
      let same : 0 ≡ w.0 + 1 = ends_in_one l 0 (w.0 + 1) (idle r 0 p nowhere used)
      (idle r (w.0 + 1) p nowhere (depth_used g (w.0 + 1) w.1)) in
      absurd (omega arith)
]

merges_guarded : {j k i : LocalTree} → Merges j k i → Guarded j → Guarded k → Guarded i
merges_guarded merges_same d e = d
merges_guarded (merges_receptions w) d e =
    kept_all Guarded GuardedAll (λ m l ls h. h.0) (λ m l ls h. h.1) (λ m l ls p q. (p, q)) w d e

mutual
  guarded : (roles : List (List ℕ)) (r : List ℕ) {g : GlobalTree} {l : LocalTree} → Projects g r l
      → well_formed roles g ≡ true → Guarded l
  guarded roles r p_end f = tt
  guarded roles r p_var f = tt
  guarded roles r (p_send {p} {q} {bs} e pe) f = guarded_each roles r pe (parts roles p q bs f).branches
  guarded roles r (p_recv {p} {q} {bs} e pe) f = guarded_each roles r pe (parts roles p q bs f).branches
  guarded roles r (p_other {p} {q} {m} {g} {bs} e n pj pm) f =
      let w = and_parts (well_formed roles g) (branches_well_formed roles bs)
      (parts roles p q (Branch m g bs) f).branches in
      guarded_merged roles r pm (guarded roles r pj w.0) w.1
  guarded roles r (p_idle e n) f = tt
  guarded roles r (p_rec {g = g} {l = l} e p) f =
      let w = rec_parts roles g f in (kept_leads r g l p w.used e, guarded roles r p w.formed)

  guarded_each : (roles : List (List ℕ)) (r : List ℕ) {bs : GlobalBranches} {ls : LocalBranches} → ProjectEach bs r ls
      → branches_well_formed roles bs ≡ true → GuardedAll ls
  guarded_each roles r each_none f = tt
  guarded_each roles r (each_one {g} {bs} p pe) f =
      let w = and_parts (well_formed roles g) (branches_well_formed roles bs) f in
      (guarded roles r p w.0, guarded_each roles r pe w.1)

  guarded_merged : (roles : List (List ℕ)) (r : List ℕ) {bs : GlobalBranches} {j l : LocalTree} → ProjectMerged bs r j l
      → Guarded j → branches_well_formed roles bs ≡ true → Guarded l
  guarded_merged roles r merged_none d f = d
  guarded_merged roles r (merged_one {g} {bs} p m pm) d f =
      let w = and_parts (well_formed roles g) (branches_well_formed roles bs) f in
      guarded_merged roles r pm (merges_guarded m d (guarded roles r p w.0)) w.1

-- each projection of a well-formed and closed global type that isn't too large has a machine
pub projected_compilable : (roles : List (List ℕ)) (r : List ℕ) (g : GlobalTree) (l : LocalTree)
    → well_formed roles g ≡ true → is_closed g ≡ true → global_nodes g ≤ max_nodes → projection widest r g ≡ Some l
    → IsCompilable l
projected_compilable roles r g l f c n e =
    let p = projects_of r g l e in
    let shut : open_depth g ≡ 0 = (Decides-eqb (open_depth g) 0).0 c in
    record {
      closed = closed roles r 0 p f (omega arith);
      guarded = guarded roles r p f;
      distinct = distinct roles r p f;
      small = omega (arith, n, small roles r p f);
    }
