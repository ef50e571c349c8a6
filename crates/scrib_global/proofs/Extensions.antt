-- One event more, and a run of further events, after a permitted log.
use Rattle.std.proofs.Common.{◌≡◌, ◌||◌, inl, inr, true, false, List, [], ◌∷◌, ◌++◌, ℕ, refl, sym, ap, subst, append_assoc, append-nil}
use Rattle.std.specs.List.{AllByRecursion}
use Rattle.std.proofs.lemmas.Bool.{true≢false, cases_Bool, or_right}
use Rattle.scrib_types.specs.declared.event.Action.{Action}
use Rattle.scrib_types.specs.declared.event.Event.{Event}
use Rattle.scrib_types.specs.declared.event.Event.TheVariants.{Join, Sent, Received}
use Rattle.scrib_types.specs.Trees.{GlobalTree, LocalTree, LocalEnd}
use Rattle.scrib_types.specs.Projection.{occurs}
use Rattle.scrib_types.specs.WellFormed.{has_role}
use Rattle.scrib_types.specs.Agreement.{Agreement}
use Rattle.scrib_types.specs.Permitted.{IsPermitted}
use Rattle.scrib_types.specs.Traces.{LocalTransition}
use Rattle.scrib_types.specs.Logs.{subject_of, action_of, is_action, is_join_of, actions, own_actions, has_joined, IsJoined, AllJoined}
use Rattle.scrib_global.specs.Transitions.{Transition}
use Rattle.scrib_global.specs.Runs.{Run}
use Rattle.scrib_global.specs.Simulation.{Leads}
use Rattle.scrib_global.proofs.Names.{name_itself}
use Rattle.scrib_global.proofs.Substitution.{Absent}
use Rattle.scrib_global.proofs.Locals.{does_as}
use Rattle.scrib_global.proofs.TransitionLemmas.{subject}
use Rattle.scrib_global.proofs.ProtocolFacts.{Given, absent_of}
use Rattle.scrib_global.proofs.LogPrefixes.{joined_end}
use Rattle.scrib_global.proofs.Runs.{run_as, start_absent, run_follows, run_on, actions_on, run_permitted}

-- a role whose projection is the end has no action
leads_end : (w : List Action) (k : LocalTree) → Leads LocalEnd w k → LocalEnd ≡ k
leads_end [] k h = h
leads_end (d ∷ w) k h = absurd (does_as h.1)

not_absent : (a : Agreement) → Given a → (log : List Event) (h k : GlobalTree) → Run a.global (actions log) h → (e : Event) → Transition h e k → Absent (subject_of e) a.global → ⊥
not_absent a f log h k rn e st ab =
    let r = subject_of e in
    let y = run_follows log a.global h rn r LocalEnd (start_absent a f r ab) in
    let z = subject st y.0 y.2 in
    does_as (subst (λ x. LocalTransition x (action_of e) z.0) (sym (leads_end (own_actions r log) y.0 y.1)) z.1)

-- who acts next is declared, and is in the global type
pub next_declared : (a : Agreement) → Given a → (log : List Event) (h k : GlobalTree) → Run a.global (actions log) h → (e : Event) → Transition h e k → has_role (subject_of e) a.roles ≡ true
next_declared a f log h k rn e st = elim (cases_Bool (has_role (subject_of e) a.roles)) [
  | inl i ↦ i
  | inr n ↦ absurd (not_absent a f log h k rn e st (f.strangers (subject_of e) n))
]

pub next_occurs : (a : Agreement) → Given a → (log : List Event) (h k : GlobalTree) → Run a.global (actions log) h → (e : Event) → Transition h e k → occurs (subject_of e) a.global ≡ true
next_occurs a f log h k rn e st = elim (cases_Bool (occurs (subject_of e) a.global)) [
  | inl i ↦ i
  | inr n ↦ absurd (not_absent a f log h k rn e st (absent_of (subject_of e) a.global n))
]

-- a send or a reception that the state can make, by a role that joined
action_joined : (roles : List (List ℕ)) (log : List Event) (e : Event) → is_action e ≡ true → has_joined (subject_of e) log ≡ true → IsJoined roles log e
action_joined roles log (Join r) i j = absurd (true≢false (sym i))
action_joined roles log (Sent p q m) i j = j
action_joined roles log (Received p q m) i j = j

pub acts_next : (a : Agreement) → Given a → (log : List Event) (h k : GlobalTree) → AllJoined a.roles log → Run a.global (actions log) h → (e : Event) → is_action e ≡ true → Transition h e k → has_joined (subject_of e) log ≡ true → IsPermitted a (log ++ e ∷ []) × Run a.global (actions (log ++ e ∷ [])) k
acts_next a f log h k all rn e i st j =
    let more : Run a.global (actions (log ++ e ∷ [])) k = subst (λ z. Run a.global z k) (sym (actions_on log e i)) (run_on rn e st) in
    (run_permitted a f (log ++ e ∷ []) (joined_end a.roles log e all (action_joined a.roles log e i j)) k more, more)

-- a declared role that hasn't joined
pub actions_join : (log : List Event) (r : List ℕ) → actions (log ++ Join r ∷ []) ≡ actions log
actions_join [] r = refl
actions_join (Join s ∷ log) r = actions_join log r
actions_join (Sent p q m ∷ log) r = ap (λ z. Sent p q m ∷ z) (actions_join log r)
actions_join (Received p q m ∷ log) r = ap (λ z. Received p q m ∷ z) (actions_join log r)

pub joins_next : (a : Agreement) → Given a → (log : List Event) (h : GlobalTree) → AllJoined a.roles log → Run a.global (actions log) h → (r : List ℕ) → has_role r a.roles ≡ true → has_joined r log ≡ false → IsPermitted a (log ++ Join r ∷ []) × Run a.global (actions (log ++ Join r ∷ [])) h
joins_next a f log h all rn r d n =
    let more : Run a.global (actions (log ++ Join r ∷ [])) h = subst (λ z. Run a.global z h) (sym (actions_join log r)) rn in
    (run_permitted a f (log ++ Join r ∷ []) (joined_end a.roles log (Join r) all (d, n)) h more, more)

pub joined_last : (log : List Event) (r : List ℕ) → has_joined r (log ++ Join r ∷ []) ≡ true
joined_last [] r = ap (λ b. b || false) (name_itself r)
joined_last (e ∷ log) r = or_right (is_join_of r e) (has_joined r (log ++ Join r ∷ [])) (joined_last log r)

-- further events by which the run reaches this state
abbrev pub Extends : Agreement → List Event → GlobalTree → Type 0
Extends a log h = (more : List Event) × IsPermitted a (log ++ more) × Run a.global (actions (log ++ more)) h

after : (a : Agreement) (log more : List Event) (h : GlobalTree) → Extends a (log ++ more) h → Extends a log h
after a log more h x =
    let e : (log ++ more) ++ x.0 ≡ log ++ (more ++ x.0) = append_assoc log more x.0 in
    (more ++ x.0, subst (IsPermitted a) e x.1, subst (λ z. Run a.global (actions z) h) e x.2)

-- the role joins first, where it hasn't
acts_or_joins : (a : Agreement) → Given a → (log : List Event) (h k : GlobalTree) → AllJoined a.roles log → Run a.global (actions log) h → (e : Event) → is_action e ≡ true → Transition h e k → Extends a log k
acts_or_joins a f log h k all rn e i st = elim (cases_Bool (has_joined (subject_of e) log)) [
  | inl j ↦ let x = acts_next a f log h k all rn e i st j in (e ∷ [], x.0, x.1)
  | inr n ↦
      let r = subject_of e in
      let x = joins_next a f log h all rn r (next_declared a f log h k rn e st) n in
      let y = acts_next a f (log ++ Join r ∷ []) h k x.0.joined x.1 e i st (joined_last log r) in
      after a log (Join r ∷ []) k (e ∷ [], y.0, y.1)
]

-- a run of the reached state, with the joins that it needs
pub extends : (a : Agreement) → Given a → (v log : List Event) (h k : GlobalTree) → IsPermitted a log → Run a.global (actions log) h → AllByRecursion (λ e. is_action e ≡ true) v → Run h v k → Extends a log k
extends a f [] log h k p rn all r = ([], subst (IsPermitted a) (sym (append-nil log)) p, subst (λ z. Run a.global (actions z) k) (sym (append-nil log)) (subst (λ z. Run a.global (actions log) z) (run_as r) rn))
extends a f (e ∷ v) log h k p rn all r =
    let x = run_as r in
    let y = acts_or_joins a f log h x.0 p.joined rn e all.0 x.1 in
    after a log y.0 k (extends a f v (log ++ y.0) x.0 k y.1 y.2 all.1 x.2)
