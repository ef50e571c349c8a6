-- Projection as a relation, and the projections of unfoldings.
use Rattle.std.proofs.Common.{◌≡◌, ◌≢◌, Bool, true, false, ℕ, ◌+◌, ◌==◌, List, if◌then◌else◌, sym, subst, arith}
use Rattle.scrib_types.specs.declared.message.Message.{Message}
use Rattle.scrib_types.specs.Trees.{GlobalTree, GlobalEnd, GlobalVar, GlobalRec, Comm, Flight, GlobalBranches, NoBranch, Branch, LocalTree, LocalEnd, LocalVar, LocalRec, Send, Recv, LocalBranches, NoChoice, Choice}
use Rattle.scrib_types.specs.Traces as local
use Rattle.scrib_types.specs.Merges.{Merges, merges_same, merges_substitute}
use Rattle.scrib_global.specs.Transitions.{substitute, substitute_all, global_unfolding}
use Rattle.scrib_global.proofs.Substitution.{Closed, ClosedAll, closed_more, closed_same, closed_unfolding, Absent, AbsentAll, absent_unfolding, same_substitute, Sound, SoundAll, sound_unfolding}

mutual
  pub data Projects : GlobalTree → List ℕ → LocalTree → Type 0 where
    p_end : {r : List ℕ} → Projects GlobalEnd r LocalEnd
    p_var : {k : ℕ} {r : List ℕ} → Projects (GlobalVar k) r (LocalVar k)
    p_send : {p q r : List ℕ} {bs : GlobalBranches} {ls : LocalBranches} → r ≡ p → ProjectEach bs r ls → Projects (Comm p q bs) r (Send q ls)
    p_recv : {p q r : List ℕ} {bs : GlobalBranches} {ls : LocalBranches} → r ≡ q → ProjectEach bs r ls → Projects (Comm p q bs) r (Recv p ls)
    p_other : {p q r : List ℕ} {m : Message} {g : GlobalTree} {bs : GlobalBranches} {j l : LocalTree} → r ≢ p → r ≢ q → Projects g r j → ProjectMerged bs r j l → Projects (Comm p q (Branch m g bs)) r l
    p_idle : {r : List ℕ} {g : GlobalTree} → Closed (GlobalRec g) 0 → Absent r g → Projects (GlobalRec g) r LocalEnd
    p_rec : {r : List ℕ} {g : GlobalTree} {l : LocalTree} → (Closed (GlobalRec g) 0 → Absent r g → ⊥) → Projects g r l → Projects (GlobalRec g) r (LocalRec l)

  -- each branch on its own
  pub data ProjectEach : GlobalBranches → List ℕ → LocalBranches → Type 0 where
    each_none : {r : List ℕ} → ProjectEach NoBranch r NoChoice
    each_one : {r : List ℕ} {m : Message} {g : GlobalTree} {bs : GlobalBranches} {l : LocalTree} {ls : LocalBranches} → Projects g r l → ProjectEach bs r ls → ProjectEach (Branch m g bs) r (Choice m l ls)

  -- the branches merged with the first type are the second
  pub data ProjectMerged : GlobalBranches → List ℕ → LocalTree → LocalTree → Type 0 where
    merged_none : {r : List ℕ} {l : LocalTree} → ProjectMerged NoBranch r l l
    merged_one : {r : List ℕ} {m : Message} {g : GlobalTree} {bs : GlobalBranches} {i j k l : LocalTree} → Projects g r k → Merges j k i → ProjectMerged bs r i l → ProjectMerged (Branch m g bs) r j l

-- the projection of a closed type on a role that doesn't occur is the end
mutual
  pub project_absent : (r : List ℕ) (g : GlobalTree) → Sound g → Closed g 0 → Absent r g → Projects g r LocalEnd
  project_absent r GlobalEnd s c a = p_end
  project_absent r (GlobalVar i) s c a = absurd (omega arith)
  project_absent r (GlobalRec g) s c a = p_idle c a
  project_absent r (Comm p q NoBranch) s c a = absurd s.1
  project_absent r (Comm p q (Branch m g bs)) s c a =
      p_other a.0 a.1 (project_absent r g s.3.0 c.0 a.2.0) (project_absent_all r bs s.3.1 c.1 a.2.1)
  project_absent r (Flight p q j bs) s c a = absurd s

  project_absent_all : (r : List ℕ) (bs : GlobalBranches) → SoundAll bs → ClosedAll bs 0 → AbsentAll r bs → ProjectMerged bs r LocalEnd LocalEnd
  project_absent_all r NoBranch s c a = merged_none
  project_absent_all r (Branch m g bs) s c a = merged_one (project_absent r g s.0 c.0 a.0) merges_same (project_absent_all r bs s.1 c.1 a.1)

project_var : (r : List ℕ) (t : GlobalTree) (x : LocalTree) (i : ℕ) → Projects t r x → (b : Bool) → Projects (if b then t else GlobalVar i) r (if b then x else LocalVar i)
project_var r t x i p true = p
project_var r t x i p false = p_var

-- the projection of the result is the result of the projections
mutual
  pub project_substitute : (r : List ℕ) (t : GlobalTree) (x : LocalTree) → Projects t r x → (Absent r t → ⊥) → (n : ℕ) {g : GlobalTree} {l : LocalTree} → Projects g r l → Projects (substitute t g n) r (local.substitute x l n)
  project_substitute r t x pt h n p_end = p_end
  project_substitute r t x pt h n (p_var {k}) = project_var r t x k pt (k == n)
  project_substitute r t x pt h n (p_send e pe) = p_send e (project_substitute_each r t x pt h n pe)
  project_substitute r t x pt h n (p_recv e pe) = p_recv e (project_substitute_each r t x pt h n pe)
  project_substitute r t x pt h n (p_other n1 n2 pj pm) = p_other n1 n2 (project_substitute r t x pt h n pj) (project_substitute_merged r t x pt h n pm)
  project_substitute r t x pt h n (p_idle {g} c a) =
      subst (λ y. Projects y r LocalEnd) (sym (closed_same t (GlobalRec g) n (closed_more (GlobalRec g) 0 n (omega arith) c))) (p_idle c a)
  project_substitute r t x pt h n (p_rec {g} no' p) =
      p_rec
      (λ c a. let e = same_substitute r t h g (n + 1) a in no' (subst (λ y. Closed (GlobalRec y) 0) e c) (subst (λ y. Absent r y) e a))
      (project_substitute r t x pt h (n + 1) p)

  project_substitute_each : (r : List ℕ) (t : GlobalTree) (x : LocalTree) → Projects t r x → (Absent r t → ⊥) → (n : ℕ) {bs : GlobalBranches} {ls : LocalBranches} → ProjectEach bs r ls → ProjectEach (substitute_all t bs n) r (local.substitute_all x ls n)
  project_substitute_each r t x pt h n each_none = each_none
  project_substitute_each r t x pt h n (each_one p pe) = each_one (project_substitute r t x pt h n p) (project_substitute_each r t x pt h n pe)

  project_substitute_merged : (r : List ℕ) (t : GlobalTree) (x : LocalTree) → Projects t r x → (Absent r t → ⊥) → (n : ℕ) {bs : GlobalBranches} {j l : LocalTree} → ProjectMerged bs r j l → ProjectMerged (substitute_all t bs n) r (local.substitute x j n) (local.substitute x l n)
  project_substitute_merged r t x pt h n merged_none = merged_none
  project_substitute_merged r t x pt h n (merged_one p m pm) = merged_one (project_substitute r t x pt h n p) (merges_substitute x n m) (project_substitute_merged r t x pt h n pm)

-- the projection of a recursion's unfolding is the unfolded projection
pub project_unfolding_idle : (r : List ℕ) (g : GlobalTree) → Sound (GlobalRec g) → Closed (GlobalRec g) 0 → Absent r g → Projects (global_unfolding g) r LocalEnd
project_unfolding_idle r g s c a =
    project_absent r (global_unfolding g) (sound_unfolding g s) (closed_unfolding g c) (absent_unfolding r g a)

pub project_unfolding : (r : List ℕ) (g : GlobalTree) (l : LocalTree) → Closed (GlobalRec g) 0 → (Closed (GlobalRec g) 0 → Absent r g → ⊥) → Projects g r l → Projects (global_unfolding g) r (local.unfolding_of l)
project_unfolding r g l c h p = project_substitute r (GlobalRec g) (LocalRec l) (p_rec h p) (h c) 0 p
