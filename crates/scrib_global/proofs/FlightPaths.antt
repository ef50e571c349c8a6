-- The messages in flight that a state carries from a to b, and how a transition changes them.
use Rattle.std.proofs.Common.{◌≡◌, ◌≢◌, ◌⊎◌, inl, inr, ℕ, zero, suc, List, [], ◌∷◌, ◌++◌, refl, sym, ap, ◌∙◌, subst, arith}
use Rattle.scrib_types.specs.declared.message.Message.{Message}
use Rattle.scrib_types.specs.declared.event.Event.{Event}
use Rattle.scrib_types.specs.declared.event.Event.TheVariants.{Join, Sent, Received}
use Rattle.scrib_types.specs.Trees.{GlobalTree, GlobalEnd, GlobalVar, GlobalRec, Comm, Flight, GlobalBranches, NoBranch, Branch}
use Rattle.scrib_types.specs.Logs.{subject_of}
use Rattle.scrib_global.specs.Transitions.{global_unfolding, IsBranch, first, later, Transition, sends, receives, unfolds, beneath, beside, EachTransition, none, each, BranchTransition, here, there}
use Rattle.scrib_global.proofs.Names.{NotPair, pair_cases}
use Rattle.scrib_global.proofs.Substitution.{Closed, ClosedAll, closed_unfolding, NonEmpty, Sound, SoundAll, sound_unfolding}
use Rattle.scrib_global.proofs.TransitionLemmas.{some_moved}

abbrev mutual
  pub Carries : GlobalTree → List ℕ → List ℕ → List Message → Type 0
  Carries GlobalEnd a b w = w ≡ []
  Carries (GlobalVar k) a b w = ⊥
  Carries (GlobalRec g) a b w = (w ≡ []) × Closed (GlobalRec g) 0 × Sound (GlobalRec g)
  Carries (Comm p q bs) a b w = (p ≢ q) × NonEmpty bs × (a ≡ p → w ≡ []) × (a ≡ q → w ≡ []) × CarriesAll bs a b w
  Carries (Flight p q j bs) a b w = (a ≡ q → w ≡ []) × CarriesAt bs j p q a b w

  pub CarriesAll : GlobalBranches → List ℕ → List ℕ → List Message → Type 0
  CarriesAll NoBranch a b w = Unit {0}
  CarriesAll (Branch m g bs) a b w = Carries g a b w × CarriesAll bs a b w

  pub CarriesAt : GlobalBranches → ℕ → List ℕ → List ℕ → List ℕ → List ℕ → List Message → Type 0
  CarriesAt NoBranch j p q a b w = ⊥
  CarriesAt (Branch m g bs) zero p q a b w = (a ≡ p → b ≡ q → (v : List Message) × (w ≡ m ∷ v) × Carries g a b v) × (NotPair a p b q → Carries g a b w)
  CarriesAt (Branch m g bs) (suc j) p q a b w = CarriesAt bs j p q a b w

mutual
  pub carries_start : (g : GlobalTree) → Sound g → Closed g 0 → (a b : List ℕ) → Carries g a b []
  carries_start GlobalEnd s c a b = refl
  carries_start (GlobalVar k) s c a b = absurd (omega arith)
  carries_start (GlobalRec g) s c a b = (refl, c, s)
  carries_start (Comm p q bs) s c a b = (s.0, s.1, λ e. refl, λ e. refl, carries_start_all bs s.3 c a b)
  carries_start (Flight p q j bs) s c a b = absurd s

  carries_start_all : (bs : GlobalBranches) → SoundAll bs → ClosedAll bs 0 → (a b : List ℕ) → CarriesAll bs a b []
  carries_start_all NoBranch s c a b = tt
  carries_start_all (Branch m g bs) s c a b = (carries_start g s.0 c.0 a b, carries_start_all bs s.1 c.1 a b)

carries_unfolding : (g : GlobalTree) (a b : List ℕ) (w : List Message) → Carries (GlobalRec g) a b w → Carries (global_unfolding g) a b w
carries_unfolding g a b w c =
    subst (λ v. Carries (global_unfolding g) a b v) (sym c.0)
    (carries_start (global_unfolding g) (sound_unfolding g c.2) (closed_unfolding g c.1) a b)

-- the effect of an event on the messages from a to b
abbrev pub Effect : Event → List ℕ → List ℕ → List Message → List Message → Type 0
Effect (Join r) a b w v = v ≡ w
Effect (Sent s q m) a b w v = (a ≡ s → b ≡ q → v ≡ w ++ m ∷ []) × (NotPair a s b q → v ≡ w)
Effect (Received p s m) a b w v = (a ≡ p → b ≡ s → w ≡ m ∷ v) × (NotPair a p b s → v ≡ w)

effect_empty : (e : Event) (a b : List ℕ) (w v : List Message) → Effect e a b w v → a ≢ subject_of e → w ≡ [] → v ≡ []
effect_empty (Join r) a b w v e n i = e ∙ i
effect_empty (Sent s q m) a b w v e n i = e.1 (λ x y. n x) ∙ i
effect_empty (Received p s m) a b w v e n i = go (pair_cases a p b s)
  where
    go : ((a ≡ p) × (b ≡ s)) ⊎ NotPair a p b s → v ≡ []
    go (inl c) = let h = e.0 c.0 c.1 in absurd (cc)
    go (inr c) = e.1 c ∙ i

effect_tail : (e : Event) (a b : List ℕ) (w v : List Message) → Effect e a b w v → b ≢ subject_of e → (m : Message) (u : List Message) → w ≡ m ∷ u → (z : List Message) × (v ≡ m ∷ z) × Effect e a b u z
effect_tail (Join r) a b w v e ne m u i = (u, e ∙ i, refl)
effect_tail (Sent s q n) a b w v e ne m u i = go (pair_cases a s b q)
  where
    go : ((a ≡ s) × (b ≡ q)) ⊎ NotPair a s b q → (z : List Message) × (v ≡ m ∷ z) × Effect (Sent s q n) a b u z
    go (inl c) = (u ++ n ∷ [], e.0 c.0 c.1 ∙ ap (λ x. x ++ n ∷ []) i, (λ x y. refl, λ x. absurd (x c.0 c.1)))
    go (inr c) = (u, e.1 c ∙ i, (λ x y. absurd (c x y), λ x. refl))
effect_tail (Received p s n) a b w v e ne m u i = (u, e.1 (λ x y. ne y) ∙ i, (λ x y. absurd (ne y), λ x. refl))

-- a flight from p to q with m, before the messages that its branch g carries
abbrev pub Bears : List ℕ → List ℕ → Message → GlobalTree → List ℕ → List ℕ → List Message → Type 0
Bears p q m g a b w = (a ≡ p → b ≡ q → (v : List Message) × (w ≡ m ∷ v) × Carries g a b v) × (NotPair a p b q → Carries g a b w)

pub carries_at : {bs : GlobalBranches} {j : ℕ} {m : Message} {g : GlobalTree} → IsBranch bs j m g → (p q a b : List ℕ) (w : List Message) → CarriesAt bs j p q a b w → Bears p q m g a b w
carries_at first p q a b w c = c
carries_at (later x) p q a b w c = carries_at x p q a b w c

at_carries : {bs : GlobalBranches} {j : ℕ} {m : Message} {g : GlobalTree} → IsBranch bs j m g → (p q a b : List ℕ) (w : List Message) → Bears p q m g a b w → CarriesAt bs j p q a b w
at_carries first p q a b w c = c
at_carries (later x) p q a b w c = at_carries x p q a b w c

pub all_carries : {bs : GlobalBranches} {j : ℕ} {m : Message} {g : GlobalTree} → IsBranch bs j m g → (a b : List ℕ) (w : List Message) → CarriesAll bs a b w → Carries g a b w
all_carries first a b w c = c.0
all_carries (later x) a b w c = all_carries x a b w c.1

-- a message that was sent is in flight
sent_flies : {bs : GlobalBranches} {j : ℕ} {m : Message} {g : GlobalTree} → IsBranch bs j m g → (p q a b : List ℕ) (w v : List Message) → Carries (Comm p q bs) a b w → Effect (Sent p q m) a b w v → Carries (Flight p q j bs) a b v
sent_flies {m} {g} x p q a b w v c e = (
  λ i. e.1 (λ y z. c.0 (sym y ∙ i)) ∙ c.3 i,
  at_carries x p q a b v (
    λ y z. ([], e.0 y z ∙ ap (λ u. u ++ m ∷ []) (c.2 y), subst (λ u. Carries g a b u) (c.2 y) (all_carries x a b w c.4)),
    λ n. subst (λ u. Carries g a b u) (sym (e.1 n)) (all_carries x a b w c.4),
  ),
)

same_rest : (m : Message) (u v : List Message) → m ∷ u ≡ m ∷ v → u ≡ v
same_rest m u v h = cc

flight_lands : {bs : GlobalBranches} {j : ℕ} {m : Message} {g : GlobalTree} → IsBranch bs j m g → (p q a b : List ℕ) (w v : List Message) → CarriesAt bs j p q a b w → Effect (Received p q m) a b w v → Carries g a b v
flight_lands {m} {g} x p q a b w v c e = go (pair_cases a p b q)
  where
    go : ((a ≡ p) × (b ≡ q)) ⊎ NotPair a p b q → Carries g a b v
    go (inl i) =
        let y = (carries_at x p q a b w c).0 i.0 i.1 in
        subst (λ u. Carries g a b u) (same_rest m y.0 v (sym y.1 ∙ e.0 i.0 i.1)) y.2
    go (inr n) = subst (λ u. Carries g a b u) (sym (e.1 n)) ((carries_at x p q a b w c).1 n)

mutual
  pub carries_step : {g h : GlobalTree} {e : Event} → Transition g e h → (a b : List ℕ) (w v : List Message) → Effect e a b w v → Carries g a b w → Carries h a b v
  carries_step (sends {p} {q} x) a b w v e c = sent_flies x p q a b w v c e
  carries_step (receives {p} {q} x) a b w v e c = flight_lands x p q a b w v c.1 e
  carries_step (unfolds {body = g} st) a b w v e c = carries_step st a b w v e (carries_unfolding g a b w c)
  carries_step (beneath {e = d} n1 n2 sa) a b w v e c = (
    c.0,
    some_moved sa c.1,
    λ i. effect_empty d a b w v e (λ y. n1 (sym y ∙ i)) (c.2 i),
    λ i. effect_empty d a b w v e (λ y. n2 (sym y ∙ i)) (c.3 i),
    carries_step_all sa a b w v e c.4,
  )
  carries_step (beside {p} {q} {e = d} n sa) a b w v e c =
      (λ i. effect_empty d a b w v e (λ y. n (sym y ∙ i)) (c.0 i), carries_step_at sa p q n a b w v e c.1)

  carries_step_all : {bs cs : GlobalBranches} {e : Event} → EachTransition bs e cs → (a b : List ℕ) (w v : List Message) → Effect e a b w v → CarriesAll bs a b w → CarriesAll cs a b v
  carries_step_all none a b w v e c = tt
  carries_step_all (each st sa) a b w v e c = (carries_step st a b w v e c.0, carries_step_all sa a b w v e c.1)

  carries_step_at : {bs cs : GlobalBranches} {j : ℕ} {e : Event} → BranchTransition bs j e cs → (p q : List ℕ) → subject_of e ≢ q → (a b : List ℕ) (w v : List Message) → Effect e a b w v → CarriesAt bs j p q a b w → CarriesAt cs j p q a b v
  carries_step_at (here {e = d} {m} st) p q n a b w v e c = (
    λ y z.
        let x = c.0 y z in
        let t = effect_tail d a b w v e (λ i. n (sym i ∙ z)) m x.0 x.1 in
        (t.0, t.1, carries_step st a b x.0 t.0 t.2 x.2),
    λ y. carries_step st a b w v e (c.1 y),
  )
  carries_step_at (there sa) p q n a b w v e c = carries_step_at sa p q n a b w v e c

-- a received message is the oldest in flight
mutual
  pub carries_head : {g h : GlobalTree} {s p : List ℕ} {m : Message} → Transition g (Received p s m) h → (w : List Message) → Carries g p s w → (v : List Message) × (w ≡ m ∷ v)
  carries_head (receives {p} {q} x) w c = let y = (carries_at x p q p q w c.1).0 refl refl in (y.0, y.1)
  carries_head {s} {p} (unfolds {body = g} st) w c = carries_head st w (carries_unfolding g p s w c)
  carries_head (beneath n1 n2 sa) w c = carries_head_all sa w c.1 c.4
  carries_head (beside {p = p'} {q} n sa) w c = carries_head_at sa p' q n w c.1

  carries_head_all : {bs cs : GlobalBranches} {s p : List ℕ} {m : Message} → EachTransition bs (Received p s m) cs → (w : List Message) → NonEmpty bs → CarriesAll bs p s w → (v : List Message) × (w ≡ m ∷ v)
  carries_head_all none w n c = absurd n
  carries_head_all (each st sa) w n c = carries_head st w c.0

  carries_head_at : {bs cs : GlobalBranches} {j : ℕ} {s p : List ℕ} {m : Message} → BranchTransition bs j (Received p s m) cs → (p' q : List ℕ) → s ≢ q → (w : List Message) → CarriesAt bs j p' q p s w → (v : List Message) × (w ≡ m ∷ v)
  carries_head_at (here st) p' q n w c = carries_head st w (c.1 (λ x y. n y))
  carries_head_at (there sa) p' q n w c = carries_head_at sa p' q n w c
