-- A state that is not the end has a transition.
use Rattle.std.proofs.Common.{◌≡◌, ◌⊎◌, inl, inr, true, ℕ, zero, suc, ◌+◌, ◌≤◌, List, refl, sym, ap, ◌∙◌, subst, arith}
use Rattle.std.proofs.lemmas.Bool.{true≢false}
use Rattle.scrib_types.specs.declared.message.Message.{Message}
use Rattle.scrib_types.specs.declared.event.Event.{Event}
use Rattle.scrib_types.specs.declared.event.Event.TheVariants.{Sent, Received}
use Rattle.scrib_types.specs.Trees.{GlobalTree, GlobalEnd, GlobalVar, GlobalRec, Comm, Flight, GlobalBranches, NoBranch, Branch}
use Rattle.scrib_types.specs.WellFormed.{leads_to_communication}
use Rattle.scrib_types.specs.Logs.{is_action}
use Rattle.scrib_global.specs.Transitions.{substitute, global_unfolding, IsBranch, first, later, Transition, sends, receives, unfolds}
use Rattle.scrib_global.proofs.Substitution.{NonEmpty, Sound, leads_substitute, sound_unfolding}
use Rattle.scrib_global.proofs.FlightPaths.{Carries, CarriesAt}

-- a send or a reception that the state can make
abbrev pub Moves : GlobalTree → Type 0
Moves g = (e : Event) × (is_action e ≡ true) × (h : GlobalTree) × Transition g e h

-- the number of its leading recursions
abbrev recursions : GlobalTree → ℕ
recursions GlobalEnd = 0
recursions (GlobalVar k) = 0
recursions (GlobalRec g) = recursions g + 1
recursions (Comm p q bs) = 0
recursions (Flight p q j bs) = 0

recursions_substitute : (t g : GlobalTree) (n : ℕ) → leads_to_communication g ≡ true → recursions (substitute t g n) ≡ recursions g
recursions_substitute t GlobalEnd n h = refl
recursions_substitute t (GlobalVar k) n h = absurd (true≢false (sym h))
recursions_substitute t (GlobalRec g) n h = ap (λ i. i + 1) (recursions_substitute t g (n + 1) h)
recursions_substitute t (Comm p q bs) n h = refl
recursions_substitute t (Flight p q j bs) n h = refl

first_send : (p q : List ℕ) (bs : GlobalBranches) → NonEmpty bs → Moves (Comm p q bs)
first_send p q NoBranch n = absurd n
first_send p q (Branch m g bs) n = (Sent p q m, refl, Flight p q zero (Branch m g bs), sends first)

-- a guarded type that is no recursion is a communication
by_unfolding : (g : GlobalTree) → leads_to_communication g ≡ true → Sound g → ((body : GlobalTree) → g ≡ GlobalRec body → Moves (global_unfolding body)) → Moves g
by_unfolding GlobalEnd l s f = absurd (true≢false (sym l))
by_unfolding (GlobalVar k) l s f = absurd (true≢false (sym l))
by_unfolding (GlobalRec g) l s f = let y = f g refl in (y.0, y.1, y.2, unfolds y.3)
by_unfolding (Comm p q bs) l s f = first_send p q bs s.1
by_unfolding (Flight p q j bs) l s f = absurd (true≢false (sym l))

guarded_moves : (n : ℕ) (g : GlobalTree) → recursions g ≤ n → leads_to_communication g ≡ true → Sound g → Moves g
guarded_moves zero g le l s = by_unfolding g l s (λ body e. let i : recursions g ≡ recursions body + 1 = ap recursions e in absurd (omega arith))
guarded_moves (suc n) g le l s =
    by_unfolding g l s (λ body e.
    let i : recursions g ≡ recursions body + 1 = ap recursions e in
    let lb : leads_to_communication body ≡ true = sym (ap leads_to_communication e) ∙ l in
    let k : recursions (global_unfolding body) ≡ recursions body = recursions_substitute (GlobalRec body) body 0 lb in
    guarded_moves n (global_unfolding body) (omega arith) (leads_substitute (GlobalRec body) body 0 lb) (sound_unfolding body (subst Sound e s)))

-- the branch of the message in flight
flight_branch : (bs : GlobalBranches) (j : ℕ) (p q a b : List ℕ) (w : List Message) → CarriesAt bs j p q a b w → (m : Message) × (g : GlobalTree) × IsBranch bs j m g
flight_branch NoBranch j p q a b w c = absurd c
flight_branch (Branch m g bs) zero p q a b w c = (m, g, first)
flight_branch (Branch m g bs) (suc j) p q a b w c = let y = flight_branch bs j p q a b w c in (y.0, y.1, later y.2)

pub ends_or_moves : (g : GlobalTree) (a b : List ℕ) (w : List Message) → Carries g a b w → (g ≡ GlobalEnd) ⊎ Moves g
ends_or_moves GlobalEnd a b w c = inl refl
ends_or_moves (GlobalVar k) a b w c = absurd c
ends_or_moves (GlobalRec g) a b w c = let s = c.2 in inr (guarded_moves (recursions (GlobalRec g)) (GlobalRec g) (omega arith) s.0 s)
ends_or_moves (Comm p q bs) a b w c = inr (first_send p q bs c.1)
ends_or_moves (Flight p q j bs) a b w c = let y = flight_branch bs j p q a b w c.1 in inr (Received p q y.0, refl, y.1, receives y.2)
