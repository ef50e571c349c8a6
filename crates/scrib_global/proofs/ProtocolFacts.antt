-- Facts of a protocol's global type, from the tests that it passed.
use Rattle.std.proofs.Common.{◌≡◌, ◌≢◌, ◌&&◌, ◌||◌, Bool, true, false, not, ℕ, ◌+◌, ◌≤◌, List, [], ◌∷◌, Option, Some, None, is_some, option_map, option_and_then, if◌then◌else◌, refl, sym, ap, ◌∙◌, subst, arith, inl, inr}
use Rattle.std.specs.Str.{bytes_eq}
use Rattle.std.proofs.lemmas.Bool.{and_parts, and_from, true≢false, cases_Bool}
use Rattle.std.proofs.lemmas.Bool.Decides.{Decides-eqb}
use Rattle.scrib_types.specs.declared.message.Message.{Message}
use Rattle.scrib_types.specs.Trees.{GlobalTree, GlobalEnd, GlobalVar, GlobalRec, Comm, Flight, GlobalBranches, NoBranch, Branch, LocalTree, LocalEnd, LocalVar, LocalRec, Send, Recv, LocalBranches, NoChoice, Choice}
use Rattle.scrib_types.specs.Projection.{open_depth, branches_open_depth, is_closed, occurs, branches_occur, merged_two, merged_with, merged, with_choice, seen_by, projection, branch_projections, widest}
use Rattle.scrib_types.specs.WellFormed.{has_role, same_operator, has_operator, distinct_operators, has_branches, leads_to_communication, uses, well_formed, branches_well_formed, projects, is_protocol}
use Rattle.scrib_types.specs.Agreement.{Agreement}
use Rattle.scrib_types.specs.Merges.{merges_of}
use Rattle.scrib_global.proofs.Names.{which, same_name, name_is, name_not, name_itself}
use Rattle.scrib_global.proofs.Substitution.{Closed, ClosedAll, Absent, AbsentAll, NonEmpty, Lack, Distinct, Sound, SoundAll}
use Rattle.scrib_global.proofs.ProjectionLemmas.{Projects, p_end, p_var, p_send, p_recv, p_other, p_idle, p_rec, ProjectEach, each_none, each_one, ProjectMerged, merged_none, merged_one}

not_from : (b : Bool) → not b ≡ true → b ≡ false
not_from true h = absurd (true≢false (sym h))
not_from false h = refl

not_to : (b : Bool) → b ≡ false → not b ≡ true
not_to true h = absurd (true≢false h)
not_to false h = refl

or_none : (a b : Bool) → (a || b) ≡ false → (a ≡ false) × (b ≡ false)
or_none true b h = absurd (true≢false h)
or_none false b h = (refl, h)

none_or : (a b : Bool) → a ≡ false → b ≡ false → (a || b) ≡ false
none_or true b e f = absurd (true≢false e)
none_or false b e f = f

-- closed
mutual
  closed_from : (g : GlobalTree) (n : ℕ) → open_depth g ≤ n → Closed g n
  closed_from GlobalEnd n h = tt
  closed_from (GlobalVar k) n h = omega arith
  closed_from (GlobalRec g) n h = closed_from g (n + 1) (omega arith)
  closed_from (Comm p q bs) n h = closed_from_all bs n h
  closed_from (Flight p q j bs) n h = closed_from_all bs n h

  closed_from_all : (bs : GlobalBranches) (n : ℕ) → branches_open_depth bs ≤ n → ClosedAll bs n
  closed_from_all NoBranch n h = tt
  closed_from_all (Branch m g bs) n h = (closed_from g n (omega arith), closed_from_all bs n (omega arith))

mutual
  depth_from : (g : GlobalTree) (n : ℕ) → Closed g n → open_depth g ≤ n
  depth_from GlobalEnd n h = omega arith
  depth_from (GlobalVar k) n h = omega arith
  depth_from (GlobalRec g) n h = let i = depth_from g (n + 1) h in omega arith
  depth_from (Comm p q bs) n h = depth_from_all bs n h
  depth_from (Flight p q j bs) n h = depth_from_all bs n h

  depth_from_all : (bs : GlobalBranches) (n : ℕ) → ClosedAll bs n → branches_open_depth bs ≤ n
  depth_from_all NoBranch n h = omega arith
  depth_from_all (Branch m g bs) n h = let i = depth_from g n h.0 in let j = depth_from_all bs n h.1 in omega arith

pub closed_of : (g : GlobalTree) → is_closed g ≡ true → Closed g 0
closed_of g h = let e : open_depth g ≡ 0 = (Decides-eqb (open_depth g) 0).0 h in closed_from g 0 (omega arith)

is_closed_of : (g : GlobalTree) → Closed g 0 → is_closed g ≡ true
is_closed_of g c = let le = depth_from g 0 c in (Decides-eqb (open_depth g) 0).1 (omega arith)

-- absent
either_absent : (r p q : List ℕ) → (bytes_eq r p || bytes_eq r q) ≡ false → (r ≢ p) × (r ≢ q)
either_absent r p q h = let y = or_none (bytes_eq r p) (bytes_eq r q) h in (λ e. true≢false (sym (name_is r p e) ∙ y.0), λ e. true≢false (sym (name_is r q e) ∙ y.1))

mutual
  pub absent_of : (r : List ℕ) (g : GlobalTree) → occurs r g ≡ false → Absent r g
  absent_of r GlobalEnd h = tt
  absent_of r (GlobalVar k) h = tt
  absent_of r (GlobalRec g) h = absent_of r g h
  absent_of r (Comm p q bs) h =
      let y = or_none (bytes_eq r p || bytes_eq r q) (branches_occur r bs) h in
      let z = either_absent r p q y.0 in
      (z.0, z.1, absent_of_all r bs y.1)
  absent_of r (Flight p q j bs) h =
      let y = or_none (bytes_eq r p || bytes_eq r q) (branches_occur r bs) h in
      let z = either_absent r p q y.0 in
      (z.0, z.1, absent_of_all r bs y.1)

  absent_of_all : (r : List ℕ) (bs : GlobalBranches) → branches_occur r bs ≡ false → AbsentAll r bs
  absent_of_all r NoBranch h = tt
  absent_of_all r (Branch m g bs) h = let y = or_none (occurs r g) (branches_occur r bs) h in (absent_of r g y.0, absent_of_all r bs y.1)

mutual
  pub occurs_not : (r : List ℕ) (g : GlobalTree) → Absent r g → occurs r g ≡ false
  occurs_not r GlobalEnd h = refl
  occurs_not r (GlobalVar k) h = refl
  occurs_not r (GlobalRec g) h = occurs_not r g h
  occurs_not r (Comm p q bs) h =
      none_or (bytes_eq r p || bytes_eq r q) (branches_occur r bs) (none_or (bytes_eq r p) (bytes_eq r q) (name_not r p h.0) (name_not r q h.1)) (occurs_not_all r bs h.2)
  occurs_not r (Flight p q j bs) h =
      none_or (bytes_eq r p || bytes_eq r q) (branches_occur r bs) (none_or (bytes_eq r p) (bytes_eq r q) (name_not r p h.0) (name_not r q h.1)) (occurs_not_all r bs h.2)

  occurs_not_all : (r : List ℕ) (bs : GlobalBranches) → AbsentAll r bs → branches_occur r bs ≡ false
  occurs_not_all r NoBranch h = refl
  occurs_not_all r (Branch m g bs) h = none_or (occurs r g) (branches_occur r bs) (occurs_not r g h.0) (occurs_not_all r bs h.1)

-- a role that isn't declared occurs nowhere
absent_role : (r p : List ℕ) (roles : List (List ℕ)) → has_role r roles ≡ false → has_role p roles ≡ true → r ≢ p
absent_role r p roles n h e = true≢false (sym h ∙ ap (λ x. has_role x roles) (sym e) ∙ n)

-- different messages, where operators differ
operator_itself : (o : Option (List ℕ)) → same_operator o o ≡ true
operator_itself None = refl
operator_itself (Some a) = name_itself a

lack_from : (m : Message) (bs : GlobalBranches) → has_operator m.op bs ≡ false → Lack m bs
lack_from m NoBranch h = tt
lack_from m (Branch n g bs) h =
    let y = or_none (same_operator m.op n.op) (has_operator m.op bs) h in
    (λ e. true≢false (sym (operator_itself m.op) ∙ ap (λ (x : Message). same_operator m.op x.op) e ∙ y.0), lack_from m bs y.1)

distinct_from : (bs : GlobalBranches) → distinct_operators bs ≡ true → Distinct bs
distinct_from NoBranch h = tt
distinct_from (Branch m g bs) h =
    let y = and_parts (not (has_operator m.op bs)) (distinct_operators bs) h in
    (lack_from m bs (not_from (has_operator m.op bs) y.0), distinct_from bs y.1)

some_from : (bs : GlobalBranches) → has_branches bs ≡ true → NonEmpty bs
some_from NoBranch h = absurd (true≢false (sym h))
some_from (Branch m g bs) h = tt

-- the parts of a well-formed communication
pub record Parts (roles : List (List ℕ)) (p q : List ℕ) (bs : GlobalBranches) : Type 0 where
  pub sender : has_role p roles ≡ true
  pub receiver : has_role q roles ≡ true
  pub apart : p ≢ q
  pub some : NonEmpty bs
  pub distinct : Distinct bs
  pub branches : branches_well_formed roles bs ≡ true

pub parts : (roles : List (List ℕ)) (p q : List ℕ) (bs : GlobalBranches) → well_formed roles (Comm p q bs) ≡ true → Parts roles p q bs
parts roles p q bs h =
    let a = and_parts _ (branches_well_formed roles bs) h in
    let b = and_parts _ (distinct_operators bs) a.0 in
    let c = and_parts _ (has_branches bs) b.0 in
    let d = and_parts _ (not (bytes_eq p q)) c.0 in
    let e = and_parts (has_role p roles) (has_role q roles) d.0 in
    record {
      sender = e.0;
      receiver = e.1;
      apart = λ i. true≢false (sym (name_is p q i) ∙ not_from (bytes_eq p q) d.1);
      some = some_from bs c.1;
      distinct = distinct_from bs b.1;
      branches = a.1;
    }

pub rec_body : (roles : List (List ℕ)) (g : GlobalTree) → well_formed roles (GlobalRec g) ≡ true → well_formed roles g ≡ true
rec_body roles g h = (and_parts _ (well_formed roles g) h).1

guarded_body : (roles : List (List ℕ)) (g : GlobalTree) → well_formed roles (GlobalRec g) ≡ true → leads_to_communication g ≡ true
guarded_body roles g h = (and_parts (leads_to_communication g) (uses 0 g) (and_parts _ (well_formed roles g) h).0).0

mutual
  pub sound_of : (roles : List (List ℕ)) (g : GlobalTree) → well_formed roles g ≡ true → Sound g
  sound_of roles GlobalEnd h = tt
  sound_of roles (GlobalVar k) h = tt
  sound_of roles (GlobalRec g) h = (guarded_body roles g h, sound_of roles g (rec_body roles g h))
  sound_of roles (Comm p q bs) h = let y = parts roles p q bs h in (y.apart, y.some, y.distinct, sound_of_all roles bs y.branches)
  sound_of roles (Flight p q j bs) h = absurd (true≢false (sym h))

  sound_of_all : (roles : List (List ℕ)) (bs : GlobalBranches) → branches_well_formed roles bs ≡ true → SoundAll bs
  sound_of_all roles NoBranch h = tt
  sound_of_all roles (Branch m g bs) h = let y = and_parts (well_formed roles g) (branches_well_formed roles bs) h in (sound_of roles g y.0, sound_of_all roles bs y.1)

mutual
  pub stranger_absent : (roles : List (List ℕ)) (r : List ℕ) → has_role r roles ≡ false → (g : GlobalTree) → well_formed roles g ≡ true → Absent r g
  stranger_absent roles r n GlobalEnd h = tt
  stranger_absent roles r n (GlobalVar k) h = tt
  stranger_absent roles r n (GlobalRec g) h = stranger_absent roles r n g (rec_body roles g h)
  stranger_absent roles r n (Comm p q bs) h =
      let y = parts roles p q bs h in
      (absent_role r p roles n y.sender, absent_role r q roles n y.receiver, stranger_absent_all roles r n bs y.branches)
  stranger_absent roles r n (Flight p q j bs) h = absurd (true≢false (sym h))

  stranger_absent_all : (roles : List (List ℕ)) (r : List ℕ) → has_role r roles ≡ false → (bs : GlobalBranches) → branches_well_formed roles bs ≡ true → AbsentAll r bs
  stranger_absent_all roles r n NoBranch h = tt
  stranger_absent_all roles r n (Branch m g bs) h =
      let y = and_parts (well_formed roles g) (branches_well_formed roles bs) h in (stranger_absent roles r n g y.0, stranger_absent_all roles r n bs y.1)

-- the computed projection is one
record Chosen (m : Message) (p : Option LocalTree) (o : Option LocalBranches) (ls : LocalBranches) : Type 0 where
  l : LocalTree
  rest : LocalBranches
  one : p ≡ Some l
  others : o ≡ Some rest
  is : ls ≡ Choice m l rest

chosen : (m : Message) (p : Option LocalTree) (o : Option LocalBranches) (ls : LocalBranches) → with_choice m p o ≡ Some ls → Chosen m p o ls
chosen m None o ls h = absurd (cc)
chosen m (Some l) None ls h = absurd (cc)
chosen m (Some l) (Some rest) ls h = record { l = l; rest = rest; one = refl; others = refl; is = cc }

-- the first branch's projection, the others', and that they merge
record Merging (p : Option LocalTree) (o : Option LocalBranches) (all : LocalTree) : Type 0 where
  l : LocalTree
  rest : LocalBranches
  one : p ≡ Some l
  others : o ≡ Some rest
  merging : merged_with widest l rest ≡ Some all

all_merging : (m : Message) (p : Option LocalTree) (o : Option LocalBranches) (all : LocalTree) → option_and_then (merged widest) (with_choice m p o) ≡ Some all → Merging p o all
all_merging m None o all h = absurd (cc)
all_merging m (Some l) None all h = absurd (cc)
all_merging m (Some l) (Some rest) all h = record { l = l; rest = rest; one = refl; others = refl; merging = h }

mapped : {X Y : Type 0} (f : X → Y) (o : Option X) (y : Y) → option_map f o ≡ Some y → (x : X) × (o ≡ Some x) × (y ≡ f x)
mapped f None y h = absurd (cc)
mapped f (Some x) y h = (x, refl, cc)

none_some : {X : Type 0} (x : X) → ◌≡◌ {A = Option X} None (Some x) → ⊥
none_some x h = cc h

some_same : {X : Type 0} (x y : X) → ◌≡◌ {A = Option X} (Some x) (Some y) → y ≡ x
some_same x y h = cc

rec_of : (r : List ℕ) (g : GlobalTree) (l : LocalTree) → ((y : LocalTree) → projection widest r g ≡ Some y → Projects g r y) → (b : Bool) → (is_closed (GlobalRec g) && not (occurs r g)) ≡ b → (if b then Some LocalEnd else option_map LocalRec (projection widest r g)) ≡ Some l → Projects (GlobalRec g) r l
rec_of r g l ih true e h =
    let y = and_parts (is_closed (GlobalRec g)) (not (occurs r g)) e in
    subst (Projects (GlobalRec g) r) (sym (some_same LocalEnd l h)) (p_idle (closed_of (GlobalRec g) y.0) (absent_of r g (not_from (occurs r g) y.1)))
rec_of r g l ih false e h =
    let y = mapped LocalRec (projection widest r g) l h in
    subst (Projects (GlobalRec g) r) (sym y.2)
    (p_rec (λ c a. true≢false (sym (and_from (is_closed (GlobalRec g)) (not (occurs r g)) (is_closed_of (GlobalRec g) c) (not_to (occurs r g) (occurs_not r g a))) ∙ e)) (ih y.0 y.1))

-- two merged, and then the others
merged_more : (bs : GlobalBranches) (r : List ℕ) (m : Message) (g : GlobalTree) (j k l : LocalTree) (ls : LocalBranches) (o : Option LocalTree) → merged_two widest j k ≡ o → Projects g r k → ((i : LocalTree) → merged_with widest i ls ≡ Some l → ProjectMerged bs r i l) → option_and_then (λ i. merged_with widest i ls) o ≡ Some l → ProjectMerged (Branch m g bs) r j l
merged_more bs r m g j k l ls None two p more h = absurd (none_some l h)
merged_more bs r m g j k l ls (Some i) two p more h = merged_one p (merges_of j k i two) (more i h)

comm_of : (r p q : List ℕ) (bs : GlobalBranches) (l : LocalTree) (o : Option LocalBranches) → ((ls : LocalBranches) → o ≡ Some ls → ProjectEach bs r ls) → (r ≢ p → r ≢ q → option_and_then (merged widest) o ≡ Some l → Projects (Comm p q bs) r l) → Dec (r ≡ p) → Dec (r ≡ q) → seen_by widest r p q o ≡ Some l → Projects (Comm p q bs) r l
comm_of r p q bs l o each others (yes e) d h =
    let i : option_map (Send q) o ≡ Some l = rw (name_is r p e) at h in
    let y = mapped (Send q) o l i in
    subst (Projects (Comm p q bs) r) (sym y.2) (p_send e (each y.0 y.1))
comm_of r p q bs l o each others (no n) (yes e) h =
    let i : option_map (Recv p) o ≡ Some l = rw (name_not r p n, name_is r q e) at h in
    let y = mapped (Recv p) o l i in
    subst (Projects (Comm p q bs) r) (sym y.2) (p_recv e (each y.0 y.1))
comm_of r p q bs l o each others (no n) (no n2) h =
    let i : option_and_then (merged widest) o ≡ Some l = rw (name_not r p n, name_not r q n2) at h in
    others n n2 i

mutual
  pub projects_of : (r : List ℕ) (g : GlobalTree) (l : LocalTree) → projection widest r g ≡ Some l → Projects g r l
  projects_of r GlobalEnd l h = subst (Projects GlobalEnd r) (sym (some_same LocalEnd l h)) p_end
  projects_of r (GlobalVar k) l h = subst (Projects (GlobalVar k) r) (sym (some_same (LocalVar k) l h)) p_var
  projects_of r (GlobalRec g) l h = rec_of r g l (λ y e. projects_of r g y e) (is_closed (GlobalRec g) && not (occurs r g)) refl h
  projects_of r (Comm p q bs) l h =
      comm_of r p q bs l (branch_projections widest r bs) (λ ls e. each_of r bs ls e) (λ n n2 i. others_of r p q bs l n n2 i) (which r p) (which r q) h
  projects_of r (Flight p q j bs) l h = absurd (none_some l h)

  each_of : (r : List ℕ) (bs : GlobalBranches) (ls : LocalBranches) → branch_projections widest r bs ≡ Some ls → ProjectEach bs r ls
  each_of r NoBranch ls h = subst (ProjectEach NoBranch r) (sym (some_same NoChoice ls h)) each_none
  each_of r (Branch m g bs) ls h =
      let y = chosen m (projection widest r g) (branch_projections widest r bs) ls h in
      subst (ProjectEach (Branch m g bs) r) (sym y.is) (each_one (projects_of r g y.l y.one) (each_of r bs y.rest y.others))

  others_of : (r p q : List ℕ) (bs : GlobalBranches) (l : LocalTree) → r ≢ p → r ≢ q → option_and_then (merged widest) (branch_projections widest r bs) ≡ Some l → Projects (Comm p q bs) r l
  others_of r p q NoBranch l n n2 h = absurd (none_some l h)
  others_of r p q (Branch m g bs) l n n2 h =
      let y = all_merging m (projection widest r g) (branch_projections widest r bs) l h in
      p_other n n2 (projects_of r g y.l y.one) (merged_of r bs y.l y.rest l y.others y.merging)

  merged_of : (r : List ℕ) (bs : GlobalBranches) (j : LocalTree) (ls : LocalBranches) (l : LocalTree) → branch_projections widest r bs ≡ Some ls → merged_with widest j ls ≡ Some l → ProjectMerged bs r j l
  merged_of r NoBranch j ls l h e =
      let here : merged_with widest j NoChoice ≡ Some l = ap (merged_with widest j) (sym (some_same NoChoice ls h)) ∙ e in
      subst (ProjectMerged NoBranch r j) (sym (some_same j l here)) merged_none
  merged_of r (Branch m g bs) j ls l h e =
      let y = chosen m (projection widest r g) (branch_projections widest r bs) ls h in
      merged_more bs r m g j y.l l y.rest (merged_two widest j y.l) refl (projects_of r g y.l y.one) (λ i f. merged_of r bs i y.rest l y.others f) (ap (merged_with widest j) (sym y.is) ∙ e)

-- a protocol's type
pub record Tests (roles : List (List ℕ)) (g : GlobalTree) : Type 0 where
  pub closed : is_closed g ≡ true
  pub formed : well_formed roles g ≡ true
  pub projected : projects widest g roles ≡ true

pub tests : (roles : List (List ℕ)) (g : GlobalTree) → is_protocol roles g ≡ true → Tests roles g
unfolding is_protocol
tests roles g h =
    let a = and_parts _ (projects widest g roles) h in
    let b = and_parts _ (well_formed roles g) a.0 in
    let c = and_parts _ (is_closed g) b.0 in
    record { closed = c.1; formed = b.1; projected = a.1 }

some_of : {X : Type 0} (o : Option X) → is_some o ≡ true → (x : X) × (o ≡ Some x)
some_of None h = absurd (true≢false (sym h))
some_of (Some x) h = (x, refl)

projected_role : (g : GlobalTree) (roles : List (List ℕ)) (r : List ℕ) → projects widest g roles ≡ true → has_role r roles ≡ true → (l : LocalTree) × (projection widest r g ≡ Some l)
projected_role g [] r h i = absurd (true≢false (sym i))
projected_role g (s ∷ roles) r h i =
    let y = and_parts (is_some (projection widest s g)) (projects widest g roles) h in
    elim (cases_Bool (bytes_eq r s)) [
      | inl e ↦ some_of (projection widest r g) (ap (λ x. is_some (projection widest x g)) (same_name r s e) ∙ y.0)
      | inr n ↦ projected_role g roles r y.1 (sym (ap (λ b. b || has_role r roles) n) ∙ i)
    ]

-- the facts of a protocol that the proofs use
pub record Given (a : Agreement) : Type 0 where
  pub closed : Closed a.global 0
  pub sound : Sound a.global
  pub strangers : (r : List ℕ) → has_role r a.roles ≡ false → Absent r a.global
  pub projected : (r : List ℕ) → has_role r a.roles ≡ true → (l : LocalTree) × (projection widest r a.global ≡ Some l)

pub given : (a : Agreement) → is_protocol a.roles a.global ≡ true → Given a
given a h =
    let t = tests a.roles a.global h in
    record {
      closed = closed_of a.global t.closed;
      sound = sound_of a.roles a.global t.formed;
      strangers = λ r n. stranger_absent a.roles r n a.global t.formed;
      projected = λ r i. projected_role a.global a.roles r t.projected i;
    }
