-- After a transition, each role's type still follows the state.
use Rattle.std.proofs.Common.{◌≢◌, inl, inr, ℕ, List, refl, subst}
use Rattle.scrib_types.specs.declared.message.Message.{Message}
use Rattle.scrib_types.specs.declared.event.Action.{Action}
use Rattle.scrib_types.specs.declared.event.Action.TheVariants.{Sends, Receives}
use Rattle.scrib_types.specs.declared.event.Event.{Event}
use Rattle.scrib_types.specs.Trees.{GlobalTree, GlobalBranches, LocalTree}
use Rattle.scrib_types.specs.Traces.{LocalTransition}
use Rattle.scrib_types.specs.Logs.{subject_of, action_of}
use Rattle.scrib_global.specs.Transitions.{IsBranch, first, later, Transition, sends, receives, unfolds, beneath, beside, EachTransition, none, each, BranchTransition, here, there}
use Rattle.scrib_global.proofs.Substitution.{NonEmpty}
use Rattle.scrib_global.proofs.Locals.{does_one}
use Rattle.scrib_global.proofs.FollowingTypes.{HasMessage, Follows, FollowsBy, FollowsAll, FollowsAt, FollowsByAt, follows_unfolding}

-- branches that moved have the same messages
pub some_moved : {bs cs : GlobalBranches} {e : Event} → EachTransition bs e cs → NonEmpty bs → NonEmpty cs
some_moved none n = n
some_moved (each s ss) n = tt

has_moved : {bs cs : GlobalBranches} {e : Event} → EachTransition bs e cs → (m : Message) → HasMessage bs m → HasMessage cs m
has_moved none m h = h
has_moved (each s ss) m (inl h) = inl h
has_moved (each s ss) m (inr h) = inr (has_moved ss m h)

-- the facts of all branches at one of them
all_at : {bs : GlobalBranches} {j : ℕ} {m : Message} {g : GlobalTree} → IsBranch bs j m g → (r : List ℕ) (l : LocalTree) → FollowsAll bs r l → FollowsAt bs j r l
all_at first r l f = f.0
all_at (later a) r l f = all_at a r l f.1

by_at : {bs : GlobalBranches} {j : ℕ} {m : Message} {g : GlobalTree} → IsBranch bs j m g → (d : Message → Action) (r : List ℕ) (l : LocalTree) → FollowsBy bs d r l → FollowsByAt bs j d r l
by_at first d r l f = f.0
by_at (later a) d r l f = by_at a d r l f.1

at_one : {bs : GlobalBranches} {j : ℕ} {m : Message} {g : GlobalTree} → IsBranch bs j m g → (r : List ℕ) (l : LocalTree) → FollowsAt bs j r l → Follows g r l
at_one first r l f = f
at_one (later a) r l f = at_one a r l f

one_at : {bs : GlobalBranches} {j : ℕ} {m : Message} {g : GlobalTree} → IsBranch bs j m g → (r : List ℕ) (l : LocalTree) → Follows g r l → FollowsAt bs j r l
one_at first r l f = f
one_at (later a) r l f = one_at a r l f

by_at_one : {bs : GlobalBranches} {j : ℕ} {m : Message} {g : GlobalTree} → IsBranch bs j m g → (d : Message → Action) (r : List ℕ) (l : LocalTree) → FollowsByAt bs j d r l → (k : LocalTree) × LocalTransition l (d m) k × Follows g r k
by_at_one first d r l f = f
by_at_one (later a) d r l f = by_at_one a d r l f

-- the other roles keep their types
mutual
  pub others : {g h : GlobalTree} {e : Event} → Transition g e h → (r : List ℕ) (l : LocalTree) → r ≢ subject_of e → Follows g r l → Follows h r l
  others (sends {q} a) r l ne f = (λ e. by_at a (Receives _) r l (f.3 e), λ n. all_at a r l (f.4 ne n))
  others (receives a) r l ne f = at_one a r l (f.1 ne)
  others (unfolds {body = g} st) r l ne f = others st r l ne (follows_unfolding r g l f)
  others (beneath {p} {q} n1 n2 sa) r l ne f = (
    f.0,
    some_moved sa f.1,
    λ e. (λ t m k d. let y = (f.2 e).0 t m k d in (y.0, has_moved sa m y.1), others_by sa (Sends q) r l ne (f.2 e).1),
    λ e. others_by sa (Receives p) r l ne (f.3 e),
    λ a b. others_all sa r l ne (f.4 a b),
  )
  others (beside {p} n sa) r l ne f = (λ e. others_by_at sa (Receives p) r l ne (f.0 e), λ a. others_at sa r l ne (f.1 a))

  others_by : {bs cs : GlobalBranches} {e : Event} → EachTransition bs e cs → (t : Message → Action) (r : List ℕ) (l : LocalTree) → r ≢ subject_of e → FollowsBy bs t r l → FollowsBy cs t r l
  others_by none t r l ne f = tt
  others_by (each s ss) t r l ne f = ((f.0.0, f.0.1, others s r f.0.0 ne f.0.2), others_by ss t r l ne f.1)

  others_all : {bs cs : GlobalBranches} {e : Event} → EachTransition bs e cs → (r : List ℕ) (l : LocalTree) → r ≢ subject_of e → FollowsAll bs r l → FollowsAll cs r l
  others_all none r l ne f = tt
  others_all (each s ss) r l ne f = (others s r l ne f.0, others_all ss r l ne f.1)

  others_by_at : {bs cs : GlobalBranches} {j : ℕ} {e : Event} → BranchTransition bs j e cs → (t : Message → Action) (r : List ℕ) (l : LocalTree) → r ≢ subject_of e → FollowsByAt bs j t r l → FollowsByAt cs j t r l
  others_by_at (here s) t r l ne f = (f.0, f.1, others s r f.0 ne f.2)
  others_by_at (there s) t r l ne f = others_by_at s t r l ne f

  others_at : {bs cs : GlobalBranches} {j : ℕ} {e : Event} → BranchTransition bs j e cs → (r : List ℕ) (l : LocalTree) → r ≢ subject_of e → FollowsAt bs j r l → FollowsAt cs j r l
  others_at (here s) r l ne f = others s r l ne f
  others_at (there s) r l ne f = others_at s r l ne f

-- the subject's type makes the transition of the state
mutual
  pub subject : {g h : GlobalTree} {e : Event} → Transition g e h → (l : LocalTree) → Follows g (subject_of e) l → (k : LocalTree) × LocalTransition l (action_of e) k × Follows h (subject_of e) k
  subject (sends {p} {q} a) l f =
      let y = by_at_one a (Sends q) p l (by_at a (Sends q) p l (f.2 refl).1) in
      (y.0, y.1, (λ e. absurd (f.0 e), λ n. one_at a p y.0 y.2))
  subject (receives {p} {q} a) l f = by_at_one a (Receives p) q l (f.0 refl)
  subject (unfolds {e} {body = g} st) l f = subject st l (follows_unfolding (subject_of e) g l f)
  subject (beneath n1 n2 sa) l f =
      let fa = f.4 n1 n2 in
      let y = subject_first sa l f.1 fa in
      (y.0, y.1, (f.0, some_moved sa f.1, λ e. absurd (n1 e), λ e. absurd (n2 e), λ a b. subject_all sa l y.0 y.1 fa))
  subject (beside n sa) l f =
      let y = subject_at sa l (f.1 n) in
      (y.0, y.1, (λ e. absurd (n e), λ a. y.2))

  subject_first : {bs cs : GlobalBranches} {e : Event} → EachTransition bs e cs → (l : LocalTree) → NonEmpty bs → FollowsAll bs (subject_of e) l → (k : LocalTree) × LocalTransition l (action_of e) k
  subject_first none l n f = absurd n
  subject_first (each s ss) l n f = let y = subject s l f.0 in (y.0, y.1)

  subject_all : {bs cs : GlobalBranches} {e : Event} → EachTransition bs e cs → (l k : LocalTree) → LocalTransition l (action_of e) k → FollowsAll bs (subject_of e) l → FollowsAll cs (subject_of e) k
  subject_all none l k dk f = tt
  subject_all (each {e} {h} s ss) l k dk f =
      let y = subject s l f.0 in
      (subst (λ z. Follows h (subject_of e) z) (does_one y.1 dk) y.2, subject_all ss l k dk f.1)

  subject_at : {bs cs : GlobalBranches} {j : ℕ} {e : Event} → BranchTransition bs j e cs → (l : LocalTree) → FollowsAt bs j (subject_of e) l → (k : LocalTree) × LocalTransition l (action_of e) k × FollowsAt cs j (subject_of e) k
  subject_at (here s) l f = subject s l f
  subject_at (there s) l f = subject_at s l f
