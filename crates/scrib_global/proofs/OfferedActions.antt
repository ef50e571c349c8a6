-- The actions that a local type offers.
use Rattle.std.proofs.Common.{◌≡◌, ◌⊎◌, inl, inr, Bool, true, false, ℕ, zero, suc, ◌+◌, ◌<◌, ◌≤◌, ◌==◌, List, [], ◌∷◌, if◌then◌else◌, Contains, length, get_or, refl, sym, ap, ◌∙◌, subst, arith}
use Rattle.std.proofs.lemmas.Bool.{true≢false}
use Rattle.scrib_types.specs.declared.message.Message.{Message}
use Rattle.scrib_types.specs.declared.event.Action.{Action}
use Rattle.scrib_types.specs.declared.event.Action.TheVariants.{Sends, Receives}
use Rattle.scrib_types.specs.declared.event.Event.{Event}
use Rattle.scrib_types.specs.Trees.{LocalTree, LocalEnd, LocalVar, LocalRec, Send, Recv, LocalBranches, NoChoice, Choice}
use Rattle.scrib_types.specs.Same.{same_message, same_message-equal, same_message-refl}
use Rattle.scrib_types.specs.Traces.{substitute, substitute_all, unfolding_of, Offers, LocalTransition, sends, receives, unfolds}
use Rattle.scrib_types.specs.Queues.{flights}
use Rattle.scrib_global.specs.declared.next.RoleNext.{RoleNext}
use Rattle.scrib_global.specs.declared.next.RoleNext.TheVariants.{Done, May, WaitsFor}
use Rattle.scrib_global.specs.Next.{sends_of, receptions_of, oldest_of, next_reception, next_by_type}
use Rattle.scrib_global.specs.Unfolded.{acts_first}
use Rattle.scrib_global.proofs.Candidates.{Among}
use Rattle.scrib_global.proofs.FormedTypes.{Formed}
use Rattle.scrib_global.proofs.Steps.{recursions, rec_falls}

-- the actions of the first choice, in order; a recursion offers what its body does
abbrev pub offers : LocalTree → List Action
offers LocalEnd = []
offers (LocalVar n) = []
offers (LocalRec body) = offers body
offers (Send q ls) = sends_of q ls
offers (Recv p ls) = receptions_of p ls

among_at : (a : Action) (xs : List Action) (k : ℕ) → k < length xs → get_or xs k a ≡ a → Among a xs
among_at a [] k lt e = absurd (omega arith)
among_at a (x ∷ xs) zero lt e = inl (sym e)
among_at a (x ∷ xs) (suc k) lt e = inr (among_at a xs k (omega arith) e)

pub among_contains : (a : Action) (xs : List Action) → Contains xs a → Among a xs
among_contains a xs h = among_at a xs h.0 h.1 h.2

-- an unfolding offers what the recursion does
var_offers : (b : Bool) (t : LocalTree) (k : ℕ) → offers t ≡ [] → offers (if b then t else LocalVar k) ≡ []
var_offers true t k h = h
var_offers false t k h = refl

sends_substitute : (t : LocalTree) (q : List ℕ) (ls : LocalBranches) (n : ℕ) → sends_of q (substitute_all t ls n) ≡ sends_of q ls
sends_substitute t q NoChoice n = refl
sends_substitute t q (Choice m l ls) n = ap (λ xs. Sends q m ∷ xs) (sends_substitute t q ls n)

receptions_substitute : (t : LocalTree) (p : List ℕ) (ls : LocalBranches) (n : ℕ) → receptions_of p (substitute_all t ls n) ≡ receptions_of p ls
receptions_substitute t p NoChoice n = refl
receptions_substitute t p (Choice m l ls) n = ap (λ xs. Receives p m ∷ xs) (receptions_substitute t p ls n)

offers_substitute : (t l : LocalTree) (n : ℕ) → offers t ≡ offers l → offers (substitute t l n) ≡ offers l
offers_substitute t LocalEnd n h = refl
offers_substitute t (LocalVar k) n h = var_offers (k == n) t k h
offers_substitute t (LocalRec body) n h = offers_substitute t body (n + 1) h
offers_substitute t (Send q ls) n h = sends_substitute t q ls n
offers_substitute t (Recv p ls) n h = receptions_substitute t p ls n

unfolding_offers : (body : LocalTree) → offers (unfolding_of body) ≡ offers body
unfolding_offers body = offers_substitute (LocalRec body) body 0 refl

-- what a type does, it offers
sends_offered : (q : List ℕ) (ls : LocalBranches) (m : Message) (k : LocalTree) → Offers ls m k → Among (Sends q m) (sends_of q ls)
sends_offered q NoChoice m k o = absurd o
sends_offered q (Choice n l ls) m k (inl o) = inl (ap (λ (x : Message). Sends q x) o.0)
sends_offered q (Choice n l ls) m k (inr o) = inr (sends_offered q ls m k o.1)

receptions_offered : (p : List ℕ) (ls : LocalBranches) (m : Message) (k : LocalTree) → Offers ls m k → Among (Receives p m) (receptions_of p ls)
receptions_offered p NoChoice m k o = absurd o
receptions_offered p (Choice n l ls) m k (inl o) = inl (ap (λ (x : Message). Receives p x) o.0)
receptions_offered p (Choice n l ls) m k (inr o) = inr (receptions_offered p ls m k o.1)

pub does_offered : {l k : LocalTree} {a : Action} → LocalTransition l a k → Among a (offers l)
does_offered (sends {q} {m} {ls} {l} o) = sends_offered q ls m l o
does_offered (receives {p} {m} {ls} {l} o) = receptions_offered p ls m l o
does_offered (unfolds {a} {body} d) = subst (λ xs. Among a xs) (unfolding_offers body) (does_offered d)

-- what a type offers, it does
more_offers : (n : Message) (l : LocalTree) (ls : LocalBranches) (m : Message) (k : LocalTree) → Offers ls m k → (j : LocalTree) × Offers (Choice n l ls) m j
more_offers n l ls m k o = go (same_message m n) refl
  where
    go : (b : Bool) → same_message m n ≡ b → (j : LocalTree) × Offers (Choice n l ls) m j
    go true e = (l, inl (same_message-equal m n e, refl))
    go false e = (k, inr (λ i. true≢false (sym (same_message-refl m) ∙ ap (same_message m) i ∙ e), o))

offered_sends : (q : List ℕ) (ls : LocalBranches) (a : Action) → Among a (sends_of q ls) → (m : Message) × (k : LocalTree) × (a ≡ Sends q m) × Offers ls m k
offered_sends q NoChoice a h = absurd h
offered_sends q (Choice n l ls) a (inl e) = (n, l, e, inl (refl, refl))
offered_sends q (Choice n l ls) a (inr h) =
    let y = offered_sends q ls a h in
    let z = more_offers n l ls y.0 y.1 y.3 in
    (y.0, z.0, y.2, z.1)

offered_receptions : (p : List ℕ) (ls : LocalBranches) (a : Action) → Among a (receptions_of p ls) → (m : Message) × (k : LocalTree) × (a ≡ Receives p m) × Offers ls m k
offered_receptions p NoChoice a h = absurd h
offered_receptions p (Choice n l ls) a (inl e) = (n, l, e, inl (refl, refl))
offered_receptions p (Choice n l ls) a (inr h) =
    let y = offered_receptions p ls a h in
    let z = more_offers n l ls y.0 y.1 y.3 in
    (y.0, z.0, y.2, z.1)

offered_acts : (l : LocalTree) (a : Action) → Among a (offers l) → acts_first l ≡ true
offered_acts LocalEnd a h = absurd h
offered_acts (LocalVar n) a h = absurd h
offered_acts (LocalRec body) a h = offered_acts body a h
offered_acts (Send q ls) a h = refl
offered_acts (Recv p ls) a h = refl

offered_within : (n : ℕ) (l : LocalTree) (a : Action) → recursions l ≤ n → Among a (offers l) → (k : LocalTree) × LocalTransition l a k
offered_within n LocalEnd a le h = absurd h
offered_within n (LocalVar i) a le h = absurd h
offered_within n (Send q ls) a le h =
    let y = offered_sends q ls a h in
    (y.1, subst (λ x. LocalTransition (Send q ls) x y.1) (sym y.2) (sends y.3))
offered_within n (Recv p ls) a le h =
    let y = offered_receptions p ls a h in
    (y.1, subst (λ x. LocalTransition (Recv p ls) x y.1) (sym y.2) (receives y.3))
offered_within zero (LocalRec body) a le h = absurd (omega arith)
offered_within (suc n) (LocalRec body) a le h =
    let lt : recursions (unfolding_of body) < recursions (LocalRec body) = rec_falls (LocalRec body) (unfolding_of body) body refl (offered_acts body a h) refl in
    let y = offered_within n (unfolding_of body) a (omega arith) (subst (λ xs. Among a xs) (sym (unfolding_offers body)) h) in
    (y.0, unfolds y.1)

pub offered_does : (l : LocalTree) (a : Action) → Among a (offers l) → (k : LocalTree) × LocalTransition l a k
offered_does l a h = offered_within (recursions l) l a (omega arith) h

-- a formed type is the end, or offers an action
acts_offers : (l : LocalTree) (n : ℕ) → acts_first l ≡ true → Formed l n → (a : Action) × Among a (offers l)
acts_offers LocalEnd n h f = absurd (true≢false (sym h))
acts_offers (LocalVar k) n h f = absurd (true≢false (sym h))
acts_offers (LocalRec body) n h f = acts_offers body (n + 1) h f.1
acts_offers (Send q NoChoice) n h f = absurd f.0
acts_offers (Send q (Choice m l ls)) n h f = (Sends q m, inl refl)
acts_offers (Recv p NoChoice) n h f = absurd f.0
acts_offers (Recv p (Choice m l ls)) n h f = (Receives p m, inl refl)

pub end_or_offers : (l : LocalTree) → Formed l 0 → (l ≡ LocalEnd) ⊎ ((a : Action) × Among a (offers l))
end_or_offers LocalEnd f = inl refl
end_or_offers (LocalVar k) f = absurd (omega arith)
end_or_offers (LocalRec body) f = inr (acts_offers body (0 + 1) f.0 f.1)
end_or_offers (Send q ls) f = inr (acts_offers (Send q ls) 0 refl f)
end_or_offers (Recv p ls) f = inr (acts_offers (Recv p ls) 0 refl f)

-- sends alone, or receptions from p alone
abbrev pub AllSends : List Action → Type 0
AllSends acts = (a : Action) → Among a acts → (q : List ℕ) × (m : Message) × (a ≡ Sends q m)

abbrev pub AllFrom : List ℕ → List Action → Type 0
AllFrom p acts = (a : Action) → Among a acts → (m : Message) × (a ≡ Receives p m)

-- what a role may do whose type offers these actions
pub data NextBy (r : List ℕ) (log : List Event) : List Action → RoleNext → Type 0 where
  by_end : NextBy r log [] Done
  by_sends : {acts : List Action} → AllSends acts → NextBy r log acts (May acts)
  by_oldest : {acts : List Action} {p : List ℕ} {m : Message} {w : List Message} → AllFrom p acts → flights p r log ≡ m ∷ w → NextBy r log acts (May (Receives p m ∷ []))
  by_waiting : {acts : List Action} {p : List ℕ} → AllFrom p acts → flights p r log ≡ [] → NextBy r log acts (WaitsFor acts)

all_sends : (q : List ℕ) (ls : LocalBranches) → AllSends (sends_of q ls)
all_sends q ls a h = let y = offered_sends q ls a h in (q, y.0, y.2)

all_from : (p : List ℕ) (ls : LocalBranches) → AllFrom p (receptions_of p ls)
all_from p ls a h = let y = offered_receptions p ls a h in (y.0, y.2)

by_reception : (r : List ℕ) (log : List Event) (p : List ℕ) (ls : LocalBranches) (ms : List Message) → flights p r log ≡ ms → NextBy r log (receptions_of p ls) (next_reception p (oldest_of ms) ls)
by_reception r log p ls [] e = by_waiting (all_from p ls) e
by_reception r log p ls (m ∷ w) e = by_oldest (all_from p ls) e

pub next_by : (l : LocalTree) (r : List ℕ) (log : List Event) → NextBy r log (offers l) (next_by_type l r log)
next_by LocalEnd r log = by_end
next_by (LocalVar n) r log = by_end
next_by (LocalRec body) r log = next_by body r log
next_by (Send q ls) r log = by_sends (all_sends q ls)
next_by (Recv p ls) r log = by_reception r log p ls (flights p r log) refl
