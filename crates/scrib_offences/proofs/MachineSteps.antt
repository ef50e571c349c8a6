-- The steps of a role's machine are the actions that the local type left to the role makes.
use Rattle.std.proofs.Common.{◌≡◌, ◌↔◌, ◌<◌, ℕ, zero, suc, List, [], ◌∷◌, ◌++◌, Some, Contains, length, slice_get, slice_index_or, refl, sym, ap, subst, ◌∙◌, arith}
use Rattle.std.proofs.lemmas.List.{get_or-map, length-map}
use Rattle.std.proofs.lemmas.Option.{same_Some}
use Rattle.scrib_types.specs.declared.event.Action.{Action}
use Rattle.scrib_types.specs.declared.event.Event.{Event}
use Rattle.scrib_types.specs.Trees.{LocalTree}
use Rattle.scrib_types.specs.Traces.{LocalTransition, IsTrace}
use Rattle.scrib_types.specs.Agreement.{Agreement}
use Rattle.scrib_types.specs.Logs.{own_actions}
use Rattle.scrib_machine.specs.declared.machine.Edge.{Edge}
use Rattle.scrib_machine.specs.Machines.{Steps}
use Rattle.scrib_machine.specs.Paths.{step_is_trace}
use Rattle.scrib_record.specs.declared.role_state.RoleState.{RoleState}
use Rattle.scrib_record.proofs.ConfigurationLemmas.{IsAt}
use Rattle.scrib_record.proofs.NextActions.{act_of}
use Rattle.scrib_global.specs.Simulation.{Leads}
use Rattle.scrib_global.specs.Next.{IsTypeAfter}
use Rattle.scrib_global.proofs.Runs.{leads_one}
use Rattle.scrib_reasons.specs.Reasons.{Makes}
use Rattle.scrib_offences.specs.Participants.{actions_of}

-- a trace that is one action longer leads to a type that makes this action
trace_parts : (w : List Action) (l : LocalTree) (act : Action) → IsTrace l (w ++ act ∷ []) → (k : LocalTree) × Leads l w k × Makes k act
trace_parts [] l act t = (l, refl, (t.0, t.1))
trace_parts (b ∷ w) l act t = let y = trace_parts w t.0 act t.2 in (y.0, (t.0, t.1, y.1), y.2)

trace_on : (w : List Action) (l k : LocalTree) (act : Action) → Leads l w k → Makes k act → IsTrace l (w ++ act ∷ [])
trace_on [] l k act h d = (d.0, subst (λ x. LocalTransition x act d.0) (sym h) d.1, tt)
trace_on (b ∷ w) l k act h d = (h.0, h.1, trace_on w h.0 k act h.2 d)

pub type_steps : (a : Agreement) (ms : List (List (List Edge))) (log : List Event) (r : List ℕ) (i : ℕ) (s : RoleState) (m : List (List Edge)) → IsAt a ms log r i s m → (left : LocalTree) → IsTypeAfter a.global log r left → (act : Action) → ((n : ℕ) × Steps m s.state act n) ↔ Makes left act
type_steps a ms log r i s m k left x act =
    let w = own_actions r log in
    let same : x.start ≡ k.runs.local = same_Some x.start k.runs.local (sym x.projected ∙ k.runs.projected) in
    let leads : Leads k.runs.local w left = subst (λ z. Leads z w left) same x.leads in
    let step = step_is_trace k.runs.local m k.runs.machine k.runs.follows w s.state k.path act in (
      λ h. let y = trace_parts w k.runs.local act (step.0 h) in subst (λ z. Makes z act) (leads_one w k.runs.local y.0 left y.1 leads) y.2,
      λ d. step.1 (trace_on w k.runs.local left act leads d),
    )

-- an action of edges is that of one of them
edge_for : (es : List Edge) (act : Action) → Contains (actions_of es) act → (n : ℕ) × Contains es (record { action = act; next = n })
edge_for es act h = found es h.0 (omega (arith, h.1, length-map es act_of)) h.2
  where
    found : (es : List Edge) (k : ℕ) → k < length es → slice_index_or (actions_of es) k act ≡ act → (n : ℕ) × Contains es (record { action = act; next = n })
    found [] k l e = absurd (omega arith)
    found (x ∷ es) zero l e = (x.next, (0, omega arith, ap (λ (y : Action). record { action = y; next = x.next }) e))
    found (x ∷ es) (suc k) l e = let w = found es k (omega arith) e in (w.0, (suc w.1.0, omega (arith, w.1.1), w.1.2))

action_of_edge : (es : List Edge) (act : Action) (n : ℕ) → Contains es (record { action = act; next = n }) → Contains (actions_of es) act
action_of_edge es act n h =
    (h.0, omega (arith, h.1, length-map es act_of), get_or-map act_of es h.0 (record { action = act; next = n }) act h.1 ∙ ap act_of h.2)

-- the actions of a state's edges are those that the state steps by
pub edge_steps : (m : List (List Edge)) (i : ℕ) (es : List Edge) (act : Action) → slice_get m i ≡ Some es → Contains (actions_of es) act ↔ ((n : ℕ) × Steps m i act n)
edge_steps m i es act here = (
  λ h. let w = edge_for es act h in (w.0, record { edges = es; here = here; there = w.1 }),
  λ s.
      action_of_edge es act s.0
      (subst (λ (x : List Edge). Contains x (record { action = act; next = s.0 })) (same_Some s.1.edges es (sym s.1.here ∙ here)) s.1.there),
)
