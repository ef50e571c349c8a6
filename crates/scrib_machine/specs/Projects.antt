-- Projection as a relation: the projection on a role under the reception profile, by the form of the global type.
use Rattle.std.specs.Prelude.{◌≡◌, ◌&&◌, Bool, true, false, not, ℕ, List, Option, Some, None, option_map, option_and_then, if◌then◌else◌, refl}
use Rattle.std.proofs.Common.{sym, ap, ◌∙◌, subst}
use Rattle.std.specs.Str.{bytes_eq}
use Rattle.std.proofs.lemmas.Bool.{and_parts, true≢false}
use Rattle.scrib_types.specs.declared.message.Message.{Message}
use Rattle.scrib_types.specs.Trees.{GlobalTree, GlobalEnd, GlobalVar, GlobalRec, Comm, Flight, GlobalBranches, NoBranch, Branch, LocalTree, LocalEnd, LocalVar, LocalRec, Send, Recv, LocalBranches, NoChoice, Choice}
use Rattle.scrib_types.specs.Projection.{is_closed, occurs, merged_two, merged_with, merged, with_choice, projection, branch_projections, widest}
use Rattle.scrib_types.specs.Merges.{some_same, Merges, merges_of}

-- the local type is the projection of the global type on the role r
mutual
  pub data Projects : GlobalTree → List ℕ → LocalTree → Type 0 where
    p_end : {r : List ℕ} → Projects GlobalEnd r LocalEnd
    p_var : {k : ℕ} {r : List ℕ} → Projects (GlobalVar k) r (LocalVar k)
    p_send : {p q r : List ℕ} {bs : GlobalBranches} {ls : LocalBranches} → bytes_eq r p ≡ true → ProjectEach bs r ls
        → Projects (Comm p q bs) r (Send q ls)
    p_recv : {p q r : List ℕ} {bs : GlobalBranches} {ls : LocalBranches} → bytes_eq r q ≡ true → ProjectEach bs r ls
        → Projects (Comm p q bs) r (Recv p ls)
    p_other : {p q r : List ℕ} {m : Message} {g : GlobalTree} {bs : GlobalBranches} {j l : LocalTree}
        → bytes_eq r p ≡ false → bytes_eq r q ≡ false → Projects g r j → ProjectMerged bs r j l
        → Projects (Comm p q (Branch m g bs)) r l
    p_idle : {r : List ℕ} {g : GlobalTree} → is_closed (GlobalRec g) ≡ true → occurs r g ≡ false
        → Projects (GlobalRec g) r LocalEnd
    p_rec : {r : List ℕ} {g : GlobalTree} {l : LocalTree} → (is_closed (GlobalRec g) && not (occurs r g)) ≡ false
        → Projects g r l → Projects (GlobalRec g) r (LocalRec l)

  -- each branch on its own
  pub data ProjectEach : GlobalBranches → List ℕ → LocalBranches → Type 0 where
    each_none : {r : List ℕ} → ProjectEach NoBranch r NoChoice
    each_one : {r : List ℕ} {m : Message} {g : GlobalTree} {bs : GlobalBranches} {l : LocalTree} {ls : LocalBranches}
        → Projects g r l → ProjectEach bs r ls → ProjectEach (Branch m g bs) r (Choice m l ls)

  -- the branches merged with the first type are the second
  pub data ProjectMerged : GlobalBranches → List ℕ → LocalTree → LocalTree → Type 0 where
    merged_none : {r : List ℕ} {l : LocalTree} → ProjectMerged NoBranch r l l
    merged_one : {r : List ℕ} {m : Message} {g : GlobalTree} {bs : GlobalBranches} {i j k l : LocalTree}
        → Projects g r k → Merges j k i → ProjectMerged bs r i l → ProjectMerged (Branch m g bs) r j l

-- a test whose negation holds fails
pub not_from : (b : Bool) → not b ≡ true → b ≡ false
not_from true h = absurd (true≢false (sym h))
not_from false h = refl

-- the parts of a projection that is defined
record Chosen (m : Message) (p : Option LocalTree) (o : Option LocalBranches) (ls : LocalBranches) : Type 0 where
  l : LocalTree
  rest : LocalBranches
  one : p ≡ Some l
  others : o ≡ Some rest
  is : ls ≡ Choice m l rest

chosen : (m : Message) (p : Option LocalTree) (o : Option LocalBranches) (ls : LocalBranches)
    → with_choice m p o ≡ Some ls → Chosen m p o ls
chosen m None o ls h = absurd (cc)
chosen m (Some l) None ls h = absurd (cc)
chosen m (Some l) (Some rest) ls h = record { l = l; rest = rest; one = refl; others = refl; is = cc }

-- the first branch's projection, the others', and that they merge
record Merging (p : Option LocalTree) (o : Option LocalBranches) (all : LocalTree) : Type 0 where
  l : LocalTree
  rest : LocalBranches
  one : p ≡ Some l
  others : o ≡ Some rest
  merging : merged_with widest l rest ≡ Some all

all_merging : (m : Message) (p : Option LocalTree) (o : Option LocalBranches) (all : LocalTree)
    → option_and_then (merged widest) (with_choice m p o) ≡ Some all → Merging p o all
all_merging m None o all h = absurd (cc)
all_merging m (Some l) None all h = absurd (cc)
all_merging m (Some l) (Some rest) all h = record { l = l; rest = rest; one = refl; others = refl; merging = h }

map_some : {X Y : Type 0} (f : X → Y) (o : Option X) (y : Y) → option_map f o ≡ Some y
    → (x : X) × (o ≡ Some x) × (y ≡ f x)
map_some f None y h = absurd (cc)
map_some f (Some x) y h = (x, refl, cc)

none_some : {X : Type 0} (x : X) → ◌≡◌ {A = Option X} None (Some x) → ⊥
none_some x h = cc h

projects_rec : (r : List ℕ) (g : GlobalTree) (l : LocalTree)
    → ((y : LocalTree) → projection widest r g ≡ Some y → Projects g r y) → (b : Bool)
    → (is_closed (GlobalRec g) && not (occurs r g)) ≡ b
    → (if b then Some LocalEnd else option_map LocalRec (projection widest r g)) ≡ Some l
    → Projects (GlobalRec g) r l
projects_rec r g l ih true e h =
    let y = and_parts (is_closed (GlobalRec g)) (not (occurs r g)) e in
    subst (λ x. Projects (GlobalRec g) r x) (some_same LocalEnd l h) (p_idle y.0 (not_from (occurs r g) y.1))
projects_rec r g l ih false e h =
    let y = map_some LocalRec (projection widest r g) l h in
    subst (λ x. Projects (GlobalRec g) r x) (sym y.2) (p_rec e (ih y.0 y.1))

-- two merged, and then the others
merged_more : (bs : GlobalBranches) (r : List ℕ) (m : Message) (g : GlobalTree) (j k l : LocalTree) (ls : LocalBranches)
    (o : Option LocalTree)
    → merged_two widest j k ≡ o → Projects g r k
    → ((i : LocalTree) → merged_with widest i ls ≡ Some l → ProjectMerged bs r i l)
    → option_and_then (λ i. merged_with widest i ls) o ≡ Some l → ProjectMerged (Branch m g bs) r j l
merged_more bs r m g j k l ls None two p more h = absurd (none_some l h)
merged_more bs r m g j k l ls (Some i) two p more h = merged_one p (merges_of j k i two) (more i h)

projects_comm : (r p q : List ℕ) (bs : GlobalBranches) (l : LocalTree) (o : Option LocalBranches)
    → ((ls : LocalBranches) → o ≡ Some ls → ProjectEach bs r ls)
    → (bytes_eq r p ≡ false → bytes_eq r q ≡ false → option_and_then (merged widest) o ≡ Some l
    → Projects (Comm p q bs) r l)
    → (a b : Bool) → bytes_eq r p ≡ a → bytes_eq r q ≡ b
    → (if a then option_map (Send q) o else (if b then option_map (Recv p) o else option_and_then (merged widest) o))
    ≡ Some l
    → Projects (Comm p q bs) r l
projects_comm r p q bs l o each others true b e f h =
    let y = map_some (Send q) o l h in subst (λ x. Projects (Comm p q bs) r x) (sym y.2) (p_send e (each y.0 y.1))
projects_comm r p q bs l o each others false true e f h =
    let y = map_some (Recv p) o l h in subst (λ x. Projects (Comm p q bs) r x) (sym y.2) (p_recv f (each y.0 y.1))
projects_comm r p q bs l o each others false false e f h = others e f h

-- the computed projection is in the relation
mutual
  pub projects_of : (r : List ℕ) (g : GlobalTree) (l : LocalTree) → projection widest r g ≡ Some l → Projects g r l
  projects_of r GlobalEnd l h = subst (λ x. Projects GlobalEnd r x) (some_same LocalEnd l h) p_end
  projects_of r (GlobalVar k) l h = subst (λ x. Projects (GlobalVar k) r x) (some_same (LocalVar k) l h) p_var
  projects_of r (GlobalRec g) l h =
      projects_rec r g l (λ y e. projects_of r g y e) (is_closed (GlobalRec g) && not (occurs r g)) refl h
  projects_of r (Comm p q bs) l h =
      projects_comm r p q bs l (branch_projections widest r bs) (λ ls e. each_of r bs ls e)
      (λ e f i. others_of r p q bs l e f i) (bytes_eq r p) (bytes_eq r q) refl refl h
  projects_of r (Flight p q j bs) l h = absurd (none_some l h)

  each_of : (r : List ℕ) (bs : GlobalBranches) (ls : LocalBranches) → branch_projections widest r bs ≡ Some ls
      → ProjectEach bs r ls
  each_of r NoBranch ls h = subst (λ x. ProjectEach NoBranch r x) (some_same NoChoice ls h) each_none
  each_of r (Branch m g bs) ls h =
      let y = chosen m (projection widest r g) (branch_projections widest r bs) ls h in
      subst (λ x. ProjectEach (Branch m g bs) r x) (sym y.is)
      (each_one (projects_of r g y.l y.one) (each_of r bs y.rest y.others))

  others_of : (r p q : List ℕ) (bs : GlobalBranches) (l : LocalTree) → bytes_eq r p ≡ false → bytes_eq r q ≡ false
      → option_and_then (merged widest) (branch_projections widest r bs) ≡ Some l → Projects (Comm p q bs) r l
  others_of r p q NoBranch l e f h = absurd (none_some l h)
  others_of r p q (Branch m g bs) l e f h =
      let y = all_merging m (projection widest r g) (branch_projections widest r bs) l h in
      p_other e f (projects_of r g y.l y.one) (merged_of r bs y.l y.rest l y.others y.merging)

  merged_of : (r : List ℕ) (bs : GlobalBranches) (j : LocalTree) (ls : LocalBranches) (l : LocalTree)
      → branch_projections widest r bs ≡ Some ls → merged_with widest j ls ≡ Some l → ProjectMerged bs r j l
  merged_of r NoBranch j ls l h e =
      let here : merged_with widest j NoChoice ≡ Some l =
      ap (merged_with widest j) (some_same NoChoice ls h) ∙ e in
      subst (ProjectMerged NoBranch r j) (some_same j l here) merged_none
  merged_of r (Branch m g bs) j ls l h e =
      let y = chosen m (projection widest r g) (branch_projections widest r bs) ls h in
      merged_more bs r m g j y.l l y.rest (merged_two widest j y.l) refl (projects_of r g y.l y.one)
      (λ i f. merged_of r bs i y.rest l y.others f) (ap (merged_with widest j) (sym y.is) ∙ e)
