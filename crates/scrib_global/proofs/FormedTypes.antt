-- The local types of a protocol: closed, each recursion leads to a choice, and each choice has a branch.
use Rattle.std.proofs.Common.{◌≡◌, ◌≢◌, ◌⊎◌, ◌||◌, inl, inr, Bool, true, false, ℕ, zero, suc, ◌+◌, ◌<◌, ◌≤◌, ◌==◌, List, [], ◌∷◌, if◌then◌else◌, refl, sym, ap, ◌∙◌, subst, arith}
use Rattle.std.specs.Str.{bytes_eq}
use Rattle.std.proofs.lemmas.Bool.{and_parts, true≢false, cases_Bool, cases_lt}
use Rattle.std.proofs.lemmas.Bool.Decides.{Decides-eqb}
use Rattle.scrib_types.specs.declared.message.Message.{Message}
use Rattle.scrib_types.specs.declared.event.Action.{Action}
use Rattle.scrib_types.specs.Trees.{GlobalTree, GlobalEnd, GlobalVar, GlobalRec, Comm, Flight, GlobalBranches, NoBranch, Branch, LocalTree, LocalEnd, LocalVar, LocalRec, Send, Recv, LocalBranches, NoChoice, Choice}
use Rattle.scrib_types.specs.Projection.{occurs, branches_occur}
use Rattle.scrib_types.specs.WellFormed.{leads_to_communication, uses, branches_use, well_formed, branches_well_formed}
use Rattle.scrib_types.specs.Merges.{WithAll, Merges, merges_same, merges_receptions, WithOne, one_new, one_known, one_later, all_none, all_more, kept_all}
use Rattle.scrib_types.specs.Traces.{substitute, substitute_all, Offers, LocalTransition, sends, receives, unfolds}
use Rattle.scrib_global.specs.Simulation.{Leads}
use Rattle.scrib_global.specs.Unfolded.{acts_first}
use Rattle.scrib_global.proofs.Names.{name_not}
use Rattle.scrib_global.proofs.Substitution.{Closed, ClosedAll, Absent, AbsentAll, NonEmpty}
use Rattle.scrib_global.proofs.ProjectionLemmas.{Projects, p_end, p_var, p_send, p_recv, p_other, p_idle, p_rec, ProjectEach, each_none, each_one, ProjectMerged, merged_none, merged_one}
use Rattle.scrib_global.proofs.ProtocolFacts.{absent_of, occurs_not, parts, rec_body}

abbrev pub HasChoice : LocalBranches → Type 0
HasChoice NoChoice = ⊥
HasChoice (Choice m l ls) = Unit {0}

-- n recursions round it bind all its variables; each recursion leads to a choice, and each choice has a branch
abbrev mutual
  pub Formed : LocalTree → ℕ → Type 0
  Formed LocalEnd n = Unit {0}
  Formed (LocalVar k) n = k < n
  Formed (LocalRec body) n = (acts_first body ≡ true) × Formed body (n + 1)
  Formed (Send q ls) n = HasChoice ls × FormedAll ls n
  Formed (Recv p ls) n = HasChoice ls × FormedAll ls n

  pub FormedAll : LocalBranches → ℕ → Type 0
  FormedAll NoChoice n = Unit {0}
  FormedAll (Choice m l ls) n = Formed l n × FormedAll ls n

or_either : (a b : Bool) → (a || b) ≡ true → (a ≡ true) ⊎ (b ≡ true)
or_either true b h = inl refl
or_either false b h = inr h

or_left : (a b : Bool) → a ≡ true → (a || b) ≡ true
or_left true b h = refl
or_left false b h = absurd (true≢false (sym h))

or_right : (a b : Bool) → b ≡ true → (a || b) ≡ true
or_right true b h = refl
or_right false b h = h

-- where a role occurs, its projection acts first
merges_act : {j k i : LocalTree} → Merges j k i → (acts_first j ≡ true) ⊎ (acts_first k ≡ true) → acts_first i ≡ true
merges_act merges_same (inl a) = a
merges_act merges_same (inr b) = b
merges_act (merges_receptions w) h = refl

mutual
  acts : (r : List ℕ) {g : GlobalTree} {l : LocalTree} → Projects g r l → occurs r g ≡ true → acts_first l ≡ true
  acts r p_end h = absurd (true≢false (sym h))
  acts r p_var h = absurd (true≢false (sym h))
  acts r (p_send e pe) h = refl
  acts r (p_recv e pe) h = refl
  acts r (p_other {p} {q} {g} {bs} n1 n2 pj pm) h =
      let inside = sym (ap (λ b. b || (occurs r g || branches_occur r bs)) (ap (λ b. b || bytes_eq r q) (name_not r p n1) ∙ name_not r q n2)) ∙ h in
      acts_merged r pm (elim (or_either (occurs r g) (branches_occur r bs) inside) [ inl a ↦ inl (acts r pj a) | inr b ↦ inr b ])
  acts r (p_idle {g} c a) h = absurd (true≢false (sym h ∙ occurs_not r g a))
  acts r (p_rec n p) h = acts r p h

  acts_merged : (r : List ℕ) {bs : GlobalBranches} {j l : LocalTree} → ProjectMerged bs r j l → (acts_first j ≡ true) ⊎ (branches_occur r bs ≡ true) → acts_first l ≡ true
  acts_merged r merged_none (inl a) = a
  acts_merged r merged_none (inr h) = absurd (true≢false (sym h))
  acts_merged r (merged_one p m pm) (inl a) = acts_merged r pm (inl (merges_act m (inl a)))
  acts_merged r (merged_one {g} {bs} p m pm) (inr h) =
      acts_merged r pm (elim (or_either (occurs r g) (branches_occur r bs) h) [ inl a ↦ inl (merges_act m (inr (acts r p a))) | inr b ↦ inr b ])

-- where it doesn't occur, its projection doesn't act
merges_rest : {j k i : LocalTree} → Merges j k i → acts_first j ≡ false → acts_first i ≡ false
merges_rest merges_same h = h
merges_rest (merges_receptions w) h = absurd (true≢false h)

mutual
  rests : (r : List ℕ) {g : GlobalTree} {l : LocalTree} → Projects g r l → Absent r g → acts_first l ≡ false
  rests r p_end a = refl
  rests r p_var a = refl
  rests r (p_send e pe) a = absurd (a.0 e)
  rests r (p_recv e pe) a = absurd (a.1 e)
  rests r (p_other n1 n2 pj pm) a = rests_merged r pm (rests r pj a.2.0)
  rests r (p_idle c b) a = refl
  rests r (p_rec n p) a = rests r p a

  rests_merged : (r : List ℕ) {bs : GlobalBranches} {j l : LocalTree} → ProjectMerged bs r j l → acts_first j ≡ false → acts_first l ≡ false
  rests_merged r merged_none h = h
  rests_merged r (merged_one p m pm) h = rests_merged r pm (merges_rest m h)

-- whether a projection acts first is whether its role occurs
pub acts_occurs : (r : List ℕ) (g : GlobalTree) (l : LocalTree) → Projects g r l → acts_first l ≡ occurs r g
acts_occurs r g l p = elim (cases_Bool (occurs r g)) [
  | inl here ↦ acts r p here ∙ sym here
  | inr nowhere ↦ rests r p (absent_of r g nowhere) ∙ sym nowhere
]

further : (g : GlobalTree) (n k : ℕ) → n + 1 ≤ k → uses k g ≡ true → (i : ℕ) × (n ≤ i) × (uses (i + 1) g ≡ true)
further g n zero le u = absurd (omega arith)
further g n (suc i) le u = let e : suc i ≡ i + 1 = omega arith in (i, omega arith, subst (λ x. uses x g ≡ true) e u)

-- a type is closed, or a variable further out occurs
mutual
  closed_or_uses : (g : GlobalTree) (n : ℕ) → Closed g n ⊎ ((k : ℕ) × (n ≤ k) × (uses k g ≡ true))
  closed_or_uses GlobalEnd n = inl tt
  closed_or_uses (GlobalVar i) n = elim (cases_lt i n) [ inl lt ↦ inl lt | inr le ↦ inr (i, le, (Decides-eqb i i).1 refl) ]
  closed_or_uses (GlobalRec g) n = elim (closed_or_uses g (n + 1)) [ inl c ↦ inl c | inr u ↦ inr (further g n u.0 u.1 u.2) ]
  closed_or_uses (Comm p q bs) n = closed_or_uses_all bs n
  closed_or_uses (Flight p q j bs) n = closed_or_uses_all bs n

  closed_or_uses_all : (bs : GlobalBranches) (n : ℕ) → ClosedAll bs n ⊎ ((k : ℕ) × (n ≤ k) × (branches_use k bs ≡ true))
  closed_or_uses_all NoBranch n = inl tt
  closed_or_uses_all (Branch m g bs) n = elim (closed_or_uses g n) [
    | inr u ↦ inr (u.0, u.1, or_left (uses u.0 g) (branches_use u.0 bs) u.2)
    | inl c ↦ elim (closed_or_uses_all bs n) [ inl d ↦ inl (c, d) | inr u ↦ inr (u.0, u.1, or_right (uses u.0 g) (branches_use u.0 bs) u.2) ]
  ]

mutual
  used_below : (g : GlobalTree) (n k : ℕ) → Closed g n → uses k g ≡ true → k < n
  used_below GlobalEnd n k c u = absurd (true≢false (sym u))
  used_below (GlobalVar i) n k c u = let e : i ≡ k = (Decides-eqb i k).0 u in omega arith
  used_below (GlobalRec g) n k c u = let lt : k + 1 < n + 1 = used_below g (n + 1) (k + 1) c u in omega arith
  used_below (Comm p q bs) n k c u = used_below_all bs n k c u
  used_below (Flight p q j bs) n k c u = used_below_all bs n k c u

  used_below_all : (bs : GlobalBranches) (n k : ℕ) → ClosedAll bs n → branches_use k bs ≡ true → k < n
  used_below_all NoBranch n k c u = absurd (true≢false (sym u))
  used_below_all (Branch m g bs) n k c u = elim (or_either (uses k g) (branches_use k bs) u) [ inl a ↦ used_below g n k c.0 a | inr b ↦ used_below_all bs n k c.1 b ]

-- after its recursions the type is the variable that is k outside it
abbrev EndsIn : LocalTree → ℕ → Type 0
EndsIn (LocalVar n) k = n ≡ k
EndsIn (LocalRec l) k = EndsIn l (k + 1)
EndsIn _ k = ⊥

ends_in_one : (l : LocalTree) (j k : ℕ) → EndsIn l j → EndsIn l k → j ≡ k
ends_in_one LocalEnd j k a b = absurd a
ends_in_one (LocalVar n) j k a b = sym a ∙ b
ends_in_one (LocalRec l) j k a b = let e : j + 1 ≡ k + 1 = ends_in_one l (j + 1) (k + 1) a b in omega arith
ends_in_one (Send q ls) j k a b = absurd a
ends_in_one (Recv p ls) j k a b = absurd a

merges_ends : {j i l : LocalTree} → Merges j i l → (k : ℕ) → EndsIn j k ⊎ EndsIn i k → EndsIn l k
merges_ends merges_same k (inl a) = a
merges_ends merges_same k (inr b) = b
merges_ends (merges_receptions w) k (inl a) = absurd a
merges_ends (merges_receptions w) k (inr b) = absurd b

-- the projection on a role that doesn't occur ends in each variable that occurs
mutual
  idle : (r : List ℕ) {g : GlobalTree} {l : LocalTree} (k : ℕ) → Projects g r l → Absent r g → uses k g ≡ true → EndsIn l k
  idle r k p_end a u = absurd (true≢false (sym u))
  idle r k (p_var {k = i}) a u = (Decides-eqb i k).0 u
  idle r k (p_send e pe) a u = absurd (a.0 e)
  idle r k (p_recv e pe) a u = absurd (a.1 e)
  idle r k (p_other {g} {bs} n1 n2 pj pm) a u =
      idle_merged r k pm a.2.1 (elim (or_either (uses k g) (branches_use k bs) u) [ inl x ↦ inl (idle r k pj a.2.0 x) | inr y ↦ inr y ])
  idle r k (p_idle {g} c b) a u = let lt : k + 1 < 0 + 1 = used_below g (0 + 1) (k + 1) c u in absurd (omega arith)
  idle r k (p_rec n p) a u = idle r (k + 1) p a u

  idle_merged : (r : List ℕ) {bs : GlobalBranches} {j l : LocalTree} (k : ℕ) → ProjectMerged bs r j l → AbsentAll r bs → EndsIn j k ⊎ (branches_use k bs ≡ true) → EndsIn l k
  idle_merged r k merged_none a (inl x) = x
  idle_merged r k merged_none a (inr u) = absurd (true≢false (sym u))
  idle_merged r k (merged_one p m pm) a (inl x) = idle_merged r k pm a.1 (inl (merges_ends m k (inl x)))
  idle_merged r k (merged_one {g} {bs} p m pm) a (inr u) =
      idle_merged r k pm a.1 (elim (or_either (uses k g) (branches_use k bs) u) [ inl x ↦ inl (merges_ends m k (inr (idle r k p a.0 x))) | inr y ↦ inr y ])

-- a recursion that is kept leads to a choice
kept_acts : (r : List ℕ) (g : GlobalTree) (l : LocalTree) → Projects g r l → uses 0 g ≡ true → (Closed (GlobalRec g) 0 → Absent r g → ⊥) → acts_first l ≡ true
kept_acts r g l p used kept = elim (cases_Bool (occurs r g)) [
  | inl here ↦ acts r p here
  | inr nowhere ↦
      let a = absent_of r g nowhere in
      elim (closed_or_uses (GlobalRec g) 0) [
        | inl c ↦ absurd (kept c a)
        | inr u ↦ let e : 0 ≡ u.0 + 1 = ends_in_one l 0 (u.0 + 1) (idle r 0 p a used) (idle r (u.0 + 1) p a u.2) in absurd (omega arith)
      ]
]

rec_uses : (roles : List (List ℕ)) (g : GlobalTree) → well_formed roles (GlobalRec g) ≡ true → uses 0 g ≡ true
rec_uses roles g h = (and_parts (leads_to_communication g) (uses 0 g) (and_parts _ (well_formed roles g) h).0).1

-- merged alternatives
choice_one : {m : Message} {l : LocalTree} {ks js : LocalBranches} → WithOne m l ks js → HasChoice js
choice_one one_new = tt
choice_one one_known = tt
choice_one (one_later ne w) = tt

choice_all : {ks ls js : LocalBranches} → WithAll ks ls js → HasChoice ks → HasChoice js
choice_all all_none h = h
choice_all (all_more w a) h = choice_all a (choice_one w)

merges_formed : (n : ℕ) {j k i : LocalTree} → Merges j k i → Formed j n → Formed k n → Formed i n
merges_formed n merges_same f h = f
merges_formed n (merges_receptions w) f h =
    (choice_all w f.0, kept_all (λ l. Formed l n) (λ ls. FormedAll ls n) (λ m l ls x. x.0) (λ m l ls x. x.1) (λ m l ls x y. (x, y)) w f.1 h.1)

choice_each : (r : List ℕ) {bs : GlobalBranches} {ls : LocalBranches} → ProjectEach bs r ls → NonEmpty bs → HasChoice ls
choice_each r each_none h = h
choice_each r (each_one p pe) h = tt

-- the projections of a well-formed type
mutual
  pub formed : (roles : List (List ℕ)) (r : List ℕ) {g : GlobalTree} {l : LocalTree} (n : ℕ) → Projects g r l → well_formed roles g ≡ true → Closed g n → Formed l n
  formed roles r n p_end f c = tt
  formed roles r n p_var f c = c
  formed roles r n (p_send {p} {q} {bs} e pe) f c = let y = parts roles p q bs f in (choice_each r pe y.some, formed_each roles r n pe y.branches c)
  formed roles r n (p_recv {p} {q} {bs} e pe) f c = let y = parts roles p q bs f in (choice_each r pe y.some, formed_each roles r n pe y.branches c)
  formed roles r n (p_other {p} {q} {m} {g} {bs} n1 n2 pj pm) f c =
      let y = and_parts (well_formed roles g) (branches_well_formed roles bs) (parts roles p q (Branch m g bs) f).branches in
      formed_merged roles r n pm (formed roles r n pj y.0 c.0) y.1 c.1
  formed roles r n (p_idle c' a) f c = tt
  formed roles r n (p_rec {g} {l} h p) f c =
      (kept_acts r g l p (rec_uses roles g f) h, formed roles r (n + 1) p (rec_body roles g f) c)

  formed_each : (roles : List (List ℕ)) (r : List ℕ) {bs : GlobalBranches} {ls : LocalBranches} (n : ℕ) → ProjectEach bs r ls → branches_well_formed roles bs ≡ true → ClosedAll bs n → FormedAll ls n
  formed_each roles r n each_none f c = tt
  formed_each roles r n (each_one {g} {bs} p pe) f c =
      let y = and_parts (well_formed roles g) (branches_well_formed roles bs) f in
      (formed roles r n p y.0 c.0, formed_each roles r n pe y.1 c.1)

  formed_merged : (roles : List (List ℕ)) (r : List ℕ) {bs : GlobalBranches} {j l : LocalTree} (n : ℕ) → ProjectMerged bs r j l → Formed j n → branches_well_formed roles bs ≡ true → ClosedAll bs n → Formed l n
  formed_merged roles r n merged_none h f c = h
  formed_merged roles r n (merged_one {g} {bs} p m pm) h f c =
      let y = and_parts (well_formed roles g) (branches_well_formed roles bs) f in
      formed_merged roles r n pm (merges_formed n m h (formed roles r n p y.0 c.0)) y.1 c.1

-- substitution
mutual
  formed_more : (l : LocalTree) (n k : ℕ) → n ≤ k → Formed l n → Formed l k
  formed_more LocalEnd n k le f = tt
  formed_more (LocalVar i) n k le f = omega arith
  formed_more (LocalRec body) n k le f = (f.0, formed_more body (n + 1) (k + 1) (omega arith) f.1)
  formed_more (Send q ls) n k le f = (f.0, formed_more_all ls n k le f.1)
  formed_more (Recv p ls) n k le f = (f.0, formed_more_all ls n k le f.1)

  formed_more_all : (ls : LocalBranches) (n k : ℕ) → n ≤ k → FormedAll ls n → FormedAll ls k
  formed_more_all NoChoice n k le f = tt
  formed_more_all (Choice m l ls) n k le f = (formed_more l n k le f.0, formed_more_all ls n k le f.1)

acts_substitute : (t l : LocalTree) (n : ℕ) → acts_first l ≡ true → acts_first (substitute t l n) ≡ true
acts_substitute t LocalEnd n h = absurd (true≢false (sym h))
acts_substitute t (LocalVar k) n h = absurd (true≢false (sym h))
acts_substitute t (LocalRec body) n h = acts_substitute t body (n + 1) h
acts_substitute t (Send q ls) n h = refl
acts_substitute t (Recv p ls) n h = refl

choice_substitute : (t : LocalTree) (ls : LocalBranches) (n : ℕ) → HasChoice ls → HasChoice (substitute_all t ls n)
choice_substitute t NoChoice n h = h
choice_substitute t (Choice m l ls) n h = tt

formed_var : (t : LocalTree) (k n : ℕ) → Formed t 0 → k < n + 1 → (b : Bool) → (k == n) ≡ b → Formed (if b then t else LocalVar k) n
formed_var t k n f lt true e = formed_more t 0 n (omega arith) f
formed_var t k n f lt false e = let ne : k ≢ n = λ (i : k ≡ n). true≢false (sym ((Decides-eqb k n).1 i) ∙ e) in omega arith

mutual
  formed_substitute : (t : LocalTree) → Formed t 0 → (l : LocalTree) (n : ℕ) → Formed l (n + 1) → Formed (substitute t l n) n
  formed_substitute t ft LocalEnd n f = tt
  formed_substitute t ft (LocalVar k) n f = formed_var t k n ft f (k == n) refl
  formed_substitute t ft (LocalRec body) n f = (acts_substitute t body (n + 1) f.0, formed_substitute t ft body (n + 1) f.1)
  formed_substitute t ft (Send q ls) n f = (choice_substitute t ls n f.0, formed_substitute_all t ft ls n f.1)
  formed_substitute t ft (Recv p ls) n f = (choice_substitute t ls n f.0, formed_substitute_all t ft ls n f.1)

  formed_substitute_all : (t : LocalTree) → Formed t 0 → (ls : LocalBranches) (n : ℕ) → FormedAll ls (n + 1) → FormedAll (substitute_all t ls n) n
  formed_substitute_all t ft NoChoice n f = tt
  formed_substitute_all t ft (Choice m l ls) n f = (formed_substitute t ft l n f.0, formed_substitute_all t ft ls n f.1)

-- an action keeps the form
offers_formed : (ls : LocalBranches) (m : Message) (k : LocalTree) → FormedAll ls 0 → Offers ls m k → Formed k 0
offers_formed NoChoice m k f o = absurd o
offers_formed (Choice n l ls) m k f (inl o) = subst (λ x. Formed x 0) (sym o.1) f.0
offers_formed (Choice n l ls) m k f (inr o) = offers_formed ls m k f.1 o.1

does_formed : {l k : LocalTree} {a : Action} → LocalTransition l a k → Formed l 0 → Formed k 0
does_formed (sends {m} {ls} {l} o) f = offers_formed ls m l f.1 o
does_formed (receives {m} {ls} {l} o) f = offers_formed ls m l f.1 o
does_formed (unfolds {body} d) f = does_formed d (formed_substitute (LocalRec body) f body 0 f.1)

pub leads_formed : (w : List Action) (l k : LocalTree) → Leads l w k → Formed l 0 → Formed k 0
leads_formed [] l k h f = subst (λ x. Formed x 0) h f
leads_formed (a ∷ w) l k h f = leads_formed w h.0 k h.2 (does_formed h.1 f)
