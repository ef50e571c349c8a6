-- The relation in which a role's local type follows a state of the run.
use Rattle.std.proofs.Common.{◌≡◌, ◌≢◌, ◌⊎◌, inl, inr, ℕ, zero, suc, List, refl, sym, ◌∙◌, arith}
use Rattle.scrib_types.specs.declared.message.Message.{Message}
use Rattle.scrib_types.specs.declared.event.Action.{Action}
use Rattle.scrib_types.specs.declared.event.Action.TheVariants.{Sends, Receives}
use Rattle.scrib_types.specs.Trees.{GlobalTree, GlobalEnd, GlobalVar, GlobalRec, Comm, Flight, GlobalBranches, NoBranch, Branch, LocalTree, LocalEnd, LocalRec, Send, Recv, LocalBranches}
use Rattle.scrib_types.specs.Traces.{Offers, LocalTransition, sends, receives}
use Rattle.scrib_global.specs.Transitions.{global_unfolding}
use Rattle.scrib_global.proofs.Substitution.{Closed, ClosedAll, closed_unfolding, NonEmpty, Lack, Distinct, Sound, SoundAll, sound_unfolding}
use Rattle.scrib_global.proofs.ProjectionLemmas.{Projects, p_end, p_var, p_send, p_recv, p_other, p_idle, p_rec, ProjectEach, each_none, each_one, ProjectMerged, merged_none, merged_one, project_unfolding_idle, project_unfolding}
use Rattle.scrib_global.proofs.WiderTypes.{wider_trans, second_wider, merged_wider, offering_of, wider_alike, alike_trans}
use Rattle.scrib_global.proofs.Locals.{does_as, Alike, alike_unroll, alike_step, alike_send, alike_stops}

-- at a recursion: the type is like the recursion's projection
pub record FollowsRec (g : GlobalTree) (r : List ℕ) (l : LocalTree) : Type 0 where
  pub closed : Closed (GlobalRec g) 0
  pub sound : Sound (GlobalRec g)
  pub x : LocalTree
  pub projects : Projects (GlobalRec g) r x
  pub like : Alike l x

abbrev pub HasMessage : GlobalBranches → Message → Type 0
HasMessage NoBranch m = ⊥
HasMessage (Branch n g bs) m = (m ≡ n) ⊎ HasMessage bs m

-- each send of the type is a message of these branches
abbrev pub SendsOnly : List ℕ → GlobalBranches → LocalTree → Type 0
SendsOnly q bs l = (r : List ℕ) (m : Message) (k : LocalTree) → LocalTransition l (Sends r m) k → (r ≡ q) × HasMessage bs m

-- The same type follows every branch of a communication that its role takes no part in.
abbrev mutual
  pub Follows : GlobalTree → List ℕ → LocalTree → Type 0
  Follows GlobalEnd r l = (d : Action) (k : LocalTree) → LocalTransition l d k → ⊥
  Follows (GlobalVar k) r l = ⊥
  Follows (GlobalRec g) r l = FollowsRec g r l
  Follows (Comm p q bs) r l = (p ≢ q) × NonEmpty bs × (r ≡ p → SendsOnly q bs l × FollowsBy bs (Sends q) r l) × (r ≡ q → FollowsBy bs (Receives p) r l) × (r ≢ p → r ≢ q → FollowsAll bs r l)
  Follows (Flight p q j bs) r l = (r ≡ q → FollowsByAt bs j (Receives p) r l) × (r ≢ q → FollowsAt bs j r l)

  pub FollowsBy : GlobalBranches → (Message → Action) → List ℕ → LocalTree → Type 0
  FollowsBy NoBranch d r l = Unit {0}
  FollowsBy (Branch m g bs) d r l = ((k : LocalTree) × LocalTransition l (d m) k × Follows g r k) × FollowsBy bs d r l

  pub FollowsAll : GlobalBranches → List ℕ → LocalTree → Type 0
  FollowsAll NoBranch r l = Unit {0}
  FollowsAll (Branch m g bs) r l = Follows g r l × FollowsAll bs r l

  pub FollowsAt : GlobalBranches → ℕ → List ℕ → LocalTree → Type 0
  FollowsAt NoBranch j r l = ⊥
  FollowsAt (Branch m g bs) zero r l = Follows g r l
  FollowsAt (Branch m g bs) (suc j) r l = FollowsAt bs j r l

  pub FollowsByAt : GlobalBranches → ℕ → (Message → Action) → List ℕ → LocalTree → Type 0
  FollowsByAt NoBranch j d r l = ⊥
  FollowsByAt (Branch m g bs) zero d r l = (k : LocalTree) × LocalTransition l (d m) k × Follows g r k
  FollowsByAt (Branch m g bs) (suc j) d r l = FollowsByAt bs j d r l

-- a message that the projection offers is one of a branch
pub offered : (r : List ℕ) {bs : GlobalBranches} {ls : LocalBranches} → ProjectEach bs r ls → (m : Message) (k : LocalTree) → Offers ls m k → HasMessage bs m
offered r each_none m k o = absurd o
offered r (each_one p pe) m k (inl o) = inl o.0
offered r (each_one p pe) m k (inr o) = inr (offered r pe m k o.1)

lack_offered : (r : List ℕ) {bs : GlobalBranches} {ls : LocalBranches} → ProjectEach bs r ls → (n : Message) → Lack n bs → (m : Message) (k : LocalTree) → Offers ls m k → n ≢ m
lack_offered r each_none n f m k h = absurd h
lack_offered r (each_one p pe) n f m k (inl h) = λ e. f.0 (e ∙ h.0)
lack_offered r (each_one p pe) n f m k (inr h) = lack_offered r pe n f.1 m k h.1

-- a type that is like a projection follows
mutual
  pub follows_project : (r : List ℕ) {g : GlobalTree} {x : LocalTree} → Projects g r x → Sound g → Closed g 0 → (l : LocalTree) → Alike l x → Follows g r l
  follows_project r p_end s c l al = λ d k t. does_as (alike_stops al t).2
  follows_project r p_var s c l al = absurd (omega arith)
  follows_project r (p_send {q} {bs} {ls} e pe) s c l al = (
    s.0,
    s.1,
    λ e1. (
      λ t m k d. let y = alike_send al d in let z = does_as y.1 in (z.0, offered r pe m y.0 z.1),
      follows_each r pe s.2 s.3 c l (Send q ls) (Sends q) al (λ m k o. sends o),
    ),
    λ e2. absurd (s.0 (sym e ∙ e2)),
    λ n1 n2. absurd (n1 e),
  )
  follows_project r (p_recv {p} {bs} {ls} e pe) s c l al = (
    s.0,
    s.1,
    λ e1. absurd (s.0 (sym e1 ∙ e)),
    λ e2. follows_each r pe s.2 s.3 c l (Recv p ls) (Receives p) al (λ m k o. receives o),
    λ n1 n2. absurd (n2 e),
  )
  follows_project r (p_other n1 n2 pj pm) s c l al = (
    s.0,
    s.1,
    λ e. absurd (n1 e),
    λ e. absurd (n2 e),
    λ a b. (follows_project r pj s.3.0 c.0 l (alike_trans al (wider_alike (merged_wider pm) (offering_of pj s.3.0))), follows_merged r pm s.3.1 c.1 l al),
  )
  follows_project r (p_idle {g} c' a) s c l al = record { closed = c; sound = s; x = LocalEnd; projects = p_idle c' a; like = al }
  follows_project r (p_rec {l = y} h p) s c l al = record { closed = c; sound = s; x = LocalRec y; projects = p_rec h p; like = al }

  follows_each : (r : List ℕ) {bs : GlobalBranches} {ls : LocalBranches} → ProjectEach bs r ls → Distinct bs → SoundAll bs → ClosedAll bs 0 → (l x : LocalTree) (d : Message → Action) → Alike l x → ((m : Message) (k : LocalTree) → Offers ls m k → LocalTransition x (d m) k) → FollowsBy bs d r l
  follows_each r each_none u s c l x d al f = tt
  follows_each r (each_one {m} {g} {l = k} p pe) u s c l x d al f =
      let y = alike_step al (f m k (inl (refl, refl))) in (
        (y.0, y.1, follows_project r p s.0 c.0 y.0 y.2),
        follows_each r pe u.1 s.1 c.1 l x d al (λ n k' o. f n k' (inr (λ e. lack_offered r pe m u.0 n k' o (sym e), o))),
      )

  -- the merged type follows each branch
  follows_merged : (r : List ℕ) {bs : GlobalBranches} {j x : LocalTree} → ProjectMerged bs r j x → SoundAll bs → ClosedAll bs 0 → (l : LocalTree) → Alike l x → FollowsAll bs r l
  follows_merged r merged_none s c l al = tt
  follows_merged r (merged_one p m pm) s c l al =
      (follows_project r p s.0 c.0 l (alike_trans al (wider_alike (wider_trans (merged_wider pm) (second_wider m)) (offering_of p s.0))), follows_merged r pm s.1 c.1 l al)

follows_begun : (r : List ℕ) (g : GlobalTree) {x : LocalTree} → Projects (GlobalRec g) r x → Closed (GlobalRec g) 0 → Sound (GlobalRec g) → (l : LocalTree) → Alike l x → Follows (global_unfolding g) r l
follows_begun r g (p_idle c' a) c s l al =
    follows_project r (project_unfolding_idle r g s c a) (sound_unfolding g s) (closed_unfolding g c) l al
follows_begun r g (p_rec {l = y} h p) c s l al =
    follows_project r (project_unfolding r g y c h p) (sound_unfolding g s) (closed_unfolding g c) l (alike_unroll al)

-- a type that follows a recursion follows its unfolding
pub follows_unfolding : (r : List ℕ) (g : GlobalTree) (l : LocalTree) → FollowsRec g r l → Follows (global_unfolding g) r l
follows_unfolding r g l f = follows_begun r g f.projects f.closed f.sound l f.like
