-- The complete logs are the runs to the end.
use Rattle.std.proofs.Common.{◌≡◌, ◌||◌, inl, inr, true, false, ℕ, List, [], ◌∷◌, ◌++◌, refl, sym, ap, ◌∙◌, subst, append_assoc}
use Rattle.std.proofs.lemmas.Bool.{true≢false, cases_Bool, or_right}
use Rattle.scrib_types.specs.declared.event.Action.{Action}
use Rattle.scrib_types.specs.declared.event.Event.{Event}
use Rattle.scrib_types.specs.declared.event.Event.TheVariants.{Join, Sent, Received}
use Rattle.scrib_types.specs.Trees.{GlobalTree, GlobalEnd, LocalTree}
use Rattle.scrib_types.specs.Projection.{occurs}
use Rattle.scrib_types.specs.WellFormed.{has_role, is_protocol}
use Rattle.scrib_types.specs.Agreement.{Agreement}
use Rattle.scrib_types.specs.Permitted.{IsPermitted}
use Rattle.scrib_types.specs.Traces.{LocalTransition, IsTrace}
use Rattle.scrib_types.specs.Logs.{subject_of, action_of, is_action, is_join_of, actions, own_actions, has_joined, IsJoined, AllJoined}
use Rattle.scrib_types.specs.Queues.{flights}
use Rattle.scrib_global.specs.Transitions.{Transition}
use Rattle.scrib_global.specs.Runs.{Run}
use Rattle.scrib_global.specs.Simulation.{Leads}
use Rattle.scrib_types.specs.Complete.{IsComplete}
use Rattle.scrib_global.specs.Progress.{Completes}
use Rattle.scrib_global.proofs.Locals.{does_one}
use Rattle.scrib_global.proofs.TransitionLemmas.{subject}
use Rattle.scrib_global.proofs.Events.{own_yes, own_no}
use Rattle.scrib_global.proofs.ProtocolFacts.{Given, given, projects_of, occurs_not}
use Rattle.scrib_global.proofs.LogPrefixes.{own_end}
use Rattle.scrib_global.proofs.Candidates.{all_last}
use Rattle.scrib_global.proofs.StartingTypes.{starts_or_absent, starts_acts}
use Rattle.scrib_global.proofs.MovingStates.{ends_or_moves}
use Rattle.scrib_global.proofs.Runs.{start_in, run_follows, run_carried, run_permitted, permitted_run}
use Rattle.scrib_global.proofs.Extensions.{next_declared, actions_join}

-- the traces of a type after which it is left as k, one action longer
leads_last : (w : List Action) (d : Action) (l k : LocalTree) → Leads l w k → IsTrace l (w ++ d ∷ []) → (j : LocalTree) × LocalTransition k d j
leads_last [] d l k h t = (t.0, subst (λ x. LocalTransition x d t.0) h t.1)
leads_last (b ∷ w) d l k h t = leads_last w d h.0 k h.2 (subst (λ x. IsTrace x (w ++ d ∷ [])) (does_one t.1 h.1) t.2)

leads_more : (w : List Action) (d : Action) (l k j : LocalTree) → Leads l w k → LocalTransition k d j → IsTrace l (w ++ d ∷ [])
leads_more [] d l k j h s = (j, subst (λ x. LocalTransition x d j) (sym h) s, tt)
leads_more (b ∷ w) d l k j h s = (h.0, h.1, leads_more w d h.0 k j h.2 s)

-- a run to the end is complete
pub end_complete : (a : Agreement) → Given a → (log : List Event) → AllJoined a.roles log → Run a.global (actions log) GlobalEnd → IsComplete a log
end_complete a f log all rn = record {
  permitted = run_permitted a f log all GlobalEnd rn;
  ended = λ r i l p d t.
      let y = run_follows log a.global GlobalEnd rn r l (start_in a f r l p) in
      let z = leads_last (own_actions r log) d l y.0 y.1 t in
      y.2 d z.0 z.1;
  empty = λ p q. run_carried a f log GlobalEnd rn p q;
}

-- after a complete log the state makes no transition
no_transition : (a : Agreement) → Given a → (log : List Event) → IsComplete a log → (h k : GlobalTree) → Run a.global (actions log) h → (e : Event) → Transition h e k → ⊥
no_transition a f log c h k rn e st =
    let r = subject_of e in
    let i = next_declared a f log h k rn e st in
    let p = f.projected r i in
    let y = run_follows log a.global h rn r p.0 (start_in a f r p.0 p.1) in
    let z = subject st y.0 y.2 in
    c.ended r i p.0 p.1 (action_of e) (leads_more (own_actions r log) (action_of e) p.0 y.0 z.0 y.1 z.1)

-- a complete log is a run to the end
complete_run : (a : Agreement) → Given a → (log : List Event) → IsComplete a log → Run a.global (actions log) GlobalEnd
complete_run a f log c =
    let rn = permitted_run a f log c.permitted in
    elim (ends_or_moves rn.0 [] [] (flights [] [] log) (run_carried a f log rn.0 rn.1 [] [])) [
      | inl e ↦ subst (λ z. Run a.global (actions log) z) e rn.1
      | inr m ↦ absurd (no_transition a f log c rn.0 m.2 rn.1 m.0 m.3)
    ]

-- a role that hasn't joined did nothing
joined_before : (r : List ℕ) (xs ys : List Event) → has_joined r xs ≡ true → has_joined r (xs ++ ys) ≡ true
joined_before r [] ys h = absurd (true≢false (sym h))
joined_before r (x ∷ xs) ys h = elim (cases_Bool (is_join_of r x)) [
  | inl y ↦ ap (λ b. b || has_joined r (xs ++ ys)) y
  | inr n ↦ or_right (is_join_of r x) (has_joined r (xs ++ ys)) (joined_before r xs ys (sym (ap (λ b. b || has_joined r xs) n) ∙ h))
]

own_skips : (r : List ℕ) (e : Event) (log : List Event) → (is_action e ≡ true → r ≡ subject_of e → ⊥) → own_actions r log ≡ [] → own_actions r (e ∷ log) ≡ []
own_skips r (Join s) log h i = i
own_skips r (Sent p q m) log h i = own_no r (Sent p q m) log refl (h refl) ∙ i
own_skips r (Received p q m) log h i = own_no r (Received p q m) log refl (h refl) ∙ i

subject_joined : (roles : List (List ℕ)) (log : List Event) (e : Event) → is_action e ≡ true → IsJoined roles log e → has_joined (subject_of e) log ≡ true
subject_joined roles log (Join r) i j = absurd (true≢false (sym i))
subject_joined roles log (Sent p q m) i j = j
subject_joined roles log (Received p q m) i j = j

own_unjoined : (roles : List (List ℕ)) (log : List Event) → AllJoined roles log → (r : List ℕ) → has_joined r log ≡ false → (before after : List Event) → log ≡ before ++ after → own_actions r after ≡ []
own_unjoined roles log all r n before [] eq = refl
own_unjoined roles log all r n before (e ∷ after) eq =
    own_skips r e after
    (λ i s.
    let j : has_joined r before ≡ true = subst (λ x. has_joined x before ≡ true) (sym s) (subject_joined roles before e i (all before after e eq)) in
    true≢false (sym (joined_before r before (e ∷ after) j) ∙ ap (has_joined r) (sym eq) ∙ n))
    (own_unjoined roles log all r n (before ++ e ∷ []) after (eq ∙ sym (append_assoc before (e ∷ []) after)))

-- after a complete log each role that acts has joined
occurs_declared : (a : Agreement) → Given a → (r : List ℕ) → occurs r a.global ≡ true → has_role r a.roles ≡ true
occurs_declared a f r o = elim (cases_Bool (has_role r a.roles)) [
  | inl i ↦ i
  | inr n ↦ absurd (true≢false (sym o ∙ occurs_not r a.global (f.strangers r n)))
]

started : (a : Agreement) → Given a → (log : List Event) → IsComplete a log → (r : List ℕ) → occurs r a.global ≡ true → own_actions r log ≡ [] → ⊥
started a f log c r o own =
    let i = occurs_declared a f r o in
    let p = f.projected r i in
    elim (starts_or_absent (projects_of r a.global p.0 p.1) f.sound) [
      | inl s ↦
          let y = starts_acts p.0 s in
          let t : IsTrace p.0 (y.0 ∷ []) = (y.1, y.2, tt) in
          c.ended r i p.0 p.1 y.0 (subst (λ w. IsTrace p.0 (w ++ y.0 ∷ [])) (sym own) t)
      | inr ab ↦ true≢false (sym o ∙ occurs_not r a.global ab)
    ]

complete_joined : (a : Agreement) → Given a → (log : List Event) → IsComplete a log → (r : List ℕ) → occurs r a.global ≡ true → has_joined r log ≡ true
complete_joined a f log c r o = elim (cases_Bool (has_joined r log)) [
  | inl j ↦ j
  | inr n ↦ absurd (started a f log c r o (own_unjoined a.roles log c.permitted.joined r n [] log refl))
]

-- what may follow
no_action : (a : Agreement) → Given a → (log : List Event) → IsComplete a log → (e : Event) → is_action e ≡ true → IsPermitted a (log ++ e ∷ []) → ⊥
no_action a f log c e i p =
    let r = subject_of e in
    let d : has_role r a.roles ≡ true = all_last (λ x. has_role (subject_of x) a.roles ≡ true) log e p.declared in
    let t = p.traces r d in
    let own : own_actions r (log ++ e ∷ []) ≡ own_actions r log ++ action_of e ∷ [] = own_end r log e ∙ ap (λ z. own_actions r log ++ z) (own_yes r e [] i refl) in
    c.ended r d t.0 t.1 (action_of e) (subst (IsTrace t.0) own t.2)

join_idle : (a : Agreement) → Given a → (log : List Event) → IsComplete a log → (r : List ℕ) → IsPermitted a (log ++ Join r ∷ []) → occurs r a.global ≡ false
join_idle a f log c r p = elim (cases_Bool (occurs r a.global)) [
  | inl o ↦ let j = p.joined log [] (Join r) refl in absurd (true≢false (sym (complete_joined a f log c r o) ∙ j.1))
  | inr n ↦ n
]

complete_last : (a : Agreement) → Given a → (log : List Event) → IsComplete a log → (e : Event) → IsPermitted a (log ++ e ∷ []) → (r : List ℕ) × (e ≡ Join r) × (occurs r a.global ≡ false)
complete_last a f log c (Join r) p = (r, refl, join_idle a f log c r p)
complete_last a f log c (Sent s q m) p = absurd (no_action a f log c (Sent s q m) refl p)
complete_last a f log c (Received s q m) p = absurd (no_action a f log c (Received s q m) refl p)

complete_stays : (a : Agreement) → Given a → (log : List Event) → IsComplete a log → (e : Event) → IsPermitted a (log ++ e ∷ []) → IsComplete a (log ++ e ∷ [])
complete_stays a f log c (Join r) p =
    end_complete a f (log ++ Join r ∷ []) p.joined (subst (λ z. Run a.global z GlobalEnd) (sym (actions_join log r)) (complete_run a f log c))
complete_stays a f log c (Sent s q m) p = absurd (no_action a f log c (Sent s q m) refl p)
complete_stays a f log c (Received s q m) p = absurd (no_action a f log c (Received s q m) refl p)

pub completes : (a : Agreement) → is_protocol a.roles a.global ≡ true → Completes a
completes a v =
    let f = given a v in
    record {
      exact = λ log. (λ c. (c.permitted.joined, complete_run a f log c), λ r. end_complete a f log r.0 r.1);
      joined = λ log c r o. complete_joined a f log c r o;
      last = λ log c e p. complete_last a f log c e p;
      stays = λ log c e p. complete_stays a f log c e p;
    }
