-- The actions that a role is allowed are in its projection.
use Rattle.std.proofs.Common.{◌≡◌, ◌⊎◌, ◌↔◌, inl, inr, Bool, true, false, ℕ, ◌+◌, ◌==◌, List, [], ◌∷◌, ◌++◌, if◌then◌else◌, AllPairs, Contains, refl, sym, ap, ◌∙◌, subst}
use Rattle.std.specs.List.{AllByRecursion}
use Rattle.std.proofs.lemmas.List.Elements.{Contains-append_left, Contains-append_right, Contains-push}
use Rattle.scrib_types.specs.declared.message.Message.{Message}
use Rattle.scrib_types.specs.declared.event.Action.{Action}
use Rattle.scrib_types.specs.declared.event.Action.TheVariants.{Join, Sends, Receives}
use Rattle.scrib_types.specs.declared.event.Event.{Event}
use Rattle.scrib_types.specs.declared.event.Event.TheVariants.{Sent, Received}
use Rattle.scrib_types.specs.Trees.{GlobalTree, LocalTree, LocalEnd, LocalVar, LocalRec, Send, Recv, LocalBranches, NoChoice, Choice}
use Rattle.scrib_types.specs.Projection.{projection, widest}
use Rattle.scrib_types.specs.WellFormed.{has_role}
use Rattle.scrib_types.specs.Agreement.{Agreement}
use Rattle.scrib_types.specs.Permitted.{IsPermitted}
use Rattle.scrib_types.specs.Judgement.{ComesBefore, AreAllowed}
use Rattle.scrib_types.specs.Logs.{subject_of, action_of, is_action, event_of, own_actions}
use Rattle.scrib_types.specs.Traces.{substitute, substitute_all, unfolding_of, Offers, LocalTransition, sends, receives, unfolds, IsTrace}
use Rattle.scrib_global.specs.Named.{named, named_sends, named_receptions, named_by}
use Rattle.scrib_global.proofs.Events.{own_yes}
use Rattle.scrib_global.proofs.LogPrefixes.{own_end}

-- the action is one of these
abbrev pub Among : Action → List Action → Type 0
Among a [] = ⊥
Among a (x ∷ xs) = (a ≡ x) ⊎ Among a xs

pub among_left : (a : Action) (xs ys : List Action) → Among a xs → Among a (xs ++ ys)
among_left a [] ys h = absurd h
among_left a (x ∷ xs) ys (inl e) = inl e
among_left a (x ∷ xs) ys (inr h) = inr (among_left a xs ys h)

pub among_right : (a : Action) (xs ys : List Action) → Among a ys → Among a (xs ++ ys)
among_right a [] ys h = h
among_right a (x ∷ xs) ys h = inr (among_right a xs ys h)

pub among_cases : (a : Action) (xs ys : List Action) → Among a (xs ++ ys) → Among a xs ⊎ Among a ys
among_cases a [] ys h = inr h
among_cases a (x ∷ xs) ys (inl e) = inl (inl e)
among_cases a (x ∷ xs) ys (inr h) = elim (among_cases a xs ys h) [ inl p ↦ inl (inr p) | inr q ↦ inr q ]

pub contains_first : (x : Action) (xs : List Action) → Contains (x ∷ xs) x
contains_first x xs = Contains-append_left (x ∷ []) xs x (Contains-push [] x)

pub contains_among : (a : Action) (xs : List Action) → Among a xs → Contains xs a
contains_among a [] h = absurd h
contains_among a (x ∷ xs) (inl e) = subst (λ z. Contains (x ∷ xs) z) (sym e) (contains_first x xs)
contains_among a (x ∷ xs) (inr h) = Contains-append_right (x ∷ []) xs a (contains_among a xs h)

-- an action in a type, in which another was substituted, is in one of the two
named_var : (b : Bool) (t : LocalTree) (k : ℕ) (a : Action) → Among a (named (if b then t else LocalVar k)) → Among a (named t)
named_var true t k a h = h
named_var false t k a h = absurd h

mutual
  named_substitute : (t l : LocalTree) (n : ℕ) (a : Action) → Among a (named (substitute t l n)) → Among a (named t) ⊎ Among a (named l)
  named_substitute t LocalEnd n a h = absurd h
  named_substitute t (LocalVar k) n a h = inl (named_var (k == n) t k a h)
  named_substitute t (LocalRec body) n a h = named_substitute t body (n + 1) a h
  named_substitute t (Send q ls) n a h = sends_substitute t q ls n a h
  named_substitute t (Recv p ls) n a h = receptions_substitute t p ls n a h

  sends_substitute : (t : LocalTree) (q : List ℕ) (ls : LocalBranches) (n : ℕ) (a : Action) → Among a (named_sends q (substitute_all t ls n)) → Among a (named t) ⊎ Among a (named_sends q ls)
  sends_substitute t q NoChoice n a h = absurd h
  sends_substitute t q (Choice m l ls) n a (inl e) = inr (inl e)
  sends_substitute t q (Choice m l ls) n a (inr h) = elim (among_cases a (named (substitute t l n)) (named_sends q (substitute_all t ls n)) h) [
    | inl x ↦ elim (named_substitute t l n a x) [ inl y ↦ inl y | inr y ↦ inr (inr (among_left a (named l) (named_sends q ls) y)) ]
    | inr x ↦ elim (sends_substitute t q ls n a x) [ inl y ↦ inl y | inr y ↦ inr (inr (among_right a (named l) (named_sends q ls) y)) ]
  ]

  receptions_substitute : (t : LocalTree) (p : List ℕ) (ls : LocalBranches) (n : ℕ) (a : Action) → Among a (named_receptions p (substitute_all t ls n)) → Among a (named t) ⊎ Among a (named_receptions p ls)
  receptions_substitute t p NoChoice n a h = absurd h
  receptions_substitute t p (Choice m l ls) n a (inl e) = inr (inl e)
  receptions_substitute t p (Choice m l ls) n a (inr h) = elim (among_cases a (named (substitute t l n)) (named_receptions p (substitute_all t ls n)) h) [
    | inl x ↦ elim (named_substitute t l n a x) [ inl y ↦ inl y | inr y ↦ inr (inr (among_left a (named l) (named_receptions p ls) y)) ]
    | inr x ↦ elim (receptions_substitute t p ls n a x) [ inl y ↦ inl y | inr y ↦ inr (inr (among_right a (named l) (named_receptions p ls) y)) ]
  ]

-- an action and those after it are in the type
sends_named : (q : List ℕ) (ls : LocalBranches) (m : Message) (k : LocalTree) → Offers ls m k → Among (Sends q m) (named_sends q ls) × ((a : Action) → Among a (named k) → Among a (named_sends q ls))
sends_named q NoChoice m k o = absurd o
sends_named q (Choice n l ls) m k (inl o) =
    (inl (ap (λ x. Sends q x) o.0), λ a h. inr (among_left a (named l) (named_sends q ls) (subst (λ x. Among a (named x)) o.1 h)))
sends_named q (Choice n l ls) m k (inr o) =
    let y = sends_named q ls m k o.1 in
    (inr (among_right (Sends q m) (named l) (named_sends q ls) y.0), λ a h. inr (among_right a (named l) (named_sends q ls) (y.1 a h)))

receptions_named : (p : List ℕ) (ls : LocalBranches) (m : Message) (k : LocalTree) → Offers ls m k → Among (Receives p m) (named_receptions p ls) × ((a : Action) → Among a (named k) → Among a (named_receptions p ls))
receptions_named p NoChoice m k o = absurd o
receptions_named p (Choice n l ls) m k (inl o) =
    (inl (ap (λ x. Receives p x) o.0), λ a h. inr (among_left a (named l) (named_receptions p ls) (subst (λ x. Among a (named x)) o.1 h)))
receptions_named p (Choice n l ls) m k (inr o) =
    let y = receptions_named p ls m k o.1 in
    (inr (among_right (Receives p m) (named l) (named_receptions p ls) y.0), λ a h. inr (among_right a (named l) (named_receptions p ls) (y.1 a h)))

unfolding_named : (body : LocalTree) (a : Action) → Among a (named (unfolding_of body)) → Among a (named body)
unfolding_named body a h = elim (named_substitute (LocalRec body) body 0 a h) [ inl x ↦ x | inr y ↦ y ]

pub does_named : {l k : LocalTree} {a : Action} → LocalTransition l a k → Among a (named l) × ((b : Action) → Among b (named k) → Among b (named l))
does_named (sends {q} {m} {ls} {l} o) = sends_named q ls m l o
does_named (receives {p} {m} {ls} {l} o) = receptions_named p ls m l o
does_named (unfolds {a} {body} d) =
    let y = does_named d in (unfolding_named body a y.0, λ b h. unfolding_named body b (y.1 b h))

trace_named : (w : List Action) (l : LocalTree) (a : Action) → IsTrace l (w ++ a ∷ []) → Among a (named l)
trace_named [] l a t = (does_named t.1).0
trace_named (b ∷ w) l a t = (does_named t.1).1 a (trace_named w t.0 a t.2)

-- an action that is permitted is a candidate
pub all_last : {X : Type 0} (P : X → Type 0) (xs : List X) (y : X) → AllByRecursion P (xs ++ y ∷ []) → P y
all_last P [] y h = h.0
all_last P (x ∷ xs) y h = all_last P xs y h.1

own_last : (a : Agreement) (log : List Event) (e : Event) → is_action e ≡ true → IsPermitted a (log ++ e ∷ []) → Contains (Join ∷ named_by (projection widest (subject_of e) a.global)) (action_of e)
own_last a log e i p =
    let r = subject_of e in
    let d : has_role r a.roles ≡ true = all_last (λ x. has_role (subject_of x) a.roles ≡ true) log e p.declared in
    let t = p.traces r d in
    let last : own_actions r (e ∷ []) ≡ action_of e ∷ [] = own_yes r e [] i refl in
    let own : own_actions r (log ++ e ∷ []) ≡ own_actions r log ++ action_of e ∷ [] = own_end r log e ∙ ap (λ z. own_actions r log ++ z) last in
    let among : Among (action_of e) (named t.0) = trace_named (own_actions r log) t.0 (action_of e) (subst (IsTrace t.0) own t.2) in
    Contains-append_right (Join ∷ []) (named_by (projection widest r a.global)) (action_of e)
    (contains_among (action_of e) (named_by (projection widest r a.global)) (subst (λ o. Among (action_of e) (named_by o)) (sym t.1) among))

pub candidate : (a : Agreement) (log : List Event) (role : List ℕ) (act : Action) → IsPermitted a (log ++ event_of role act ∷ []) → Contains (Join ∷ named_by (projection widest role a.global)) act
candidate a log role Join p = contains_first Join (named_by (projection widest role a.global))
candidate a log role (Sends q m) p = own_last a log (Sent role q m) refl p
candidate a log role (Receives q m) p = own_last a log (Received q role m) refl p

-- those of the candidates that are permitted are all that is
pub all_allowed : (a : Agreement) (log : List Event) (role : List ℕ) (acts list : List Action) (g : GlobalTree) → g ≡ a.global → acts ≡ Join ∷ named_by (projection widest role g) → AllPairs ComesBefore list → ((act : Action) → Contains list act ↔ (Contains acts act × IsPermitted a (log ++ event_of role act ∷ []))) → AreAllowed a log role list
all_allowed a log role acts list g same is sorted exact = record {
  sorted = sorted;
  exact = λ act. (
    λ h. ((exact act).0 h).1,
    λ p. (exact act).1 (subst (λ z. Contains z act) (ap (λ x. Join ∷ named_by (projection widest role x)) (sym same) ∙ sym is) (candidate a log role act p), p),
  );
}
