-- A permitted log is complete, or some event may come next.
use Rattle.std.proofs.Common.{◌≡◌, ◌⊎◌, inl, inr, true, List, [], ◌∷◌, ◌++◌, subst}
use Rattle.std.proofs.lemmas.Bool.{cases_Bool}
use Rattle.scrib_types.specs.declared.event.Event.{Event}
use Rattle.scrib_types.specs.declared.event.Event.TheVariants.{Join}
use Rattle.scrib_types.specs.Trees.{GlobalTree}
use Rattle.scrib_types.specs.WellFormed.{is_protocol}
use Rattle.scrib_types.specs.Agreement.{Agreement}
use Rattle.scrib_types.specs.Permitted.{IsPermitted}
use Rattle.scrib_types.specs.Logs.{subject_of, actions, has_joined}
use Rattle.scrib_types.specs.Queues.{flights}
use Rattle.scrib_global.specs.Runs.{Run}
use Rattle.scrib_types.specs.Complete.{IsComplete}
use Rattle.scrib_global.specs.Progress.{Progresses}
use Rattle.scrib_global.proofs.MovingStates.{Moves, ends_or_moves}
use Rattle.scrib_global.proofs.ProtocolFacts.{Given, given}
use Rattle.scrib_global.proofs.Runs.{run_carried, permitted_run}
use Rattle.scrib_global.proofs.Extensions.{next_declared, next_occurs, acts_next, joins_next}
use Rattle.scrib_global.proofs.Completion.{end_complete}

-- the log is complete, or its state has a transition
complete_or_moves : (a : Agreement) → Given a → (log : List Event) → IsPermitted a log → IsComplete a log ⊎ ((h : GlobalTree) × Run a.global (actions log) h × Moves h)
complete_or_moves a f log p =
    let rn = permitted_run a f log p in
    elim (ends_or_moves rn.0 [] [] (flights [] [] log) (run_carried a f log rn.0 rn.1 [] [])) [
      | inl e ↦ inl (end_complete a f log p.joined (subst (λ z. Run a.global (actions log) z) e rn.1))
      | inr m ↦ inr (rn.0, rn.1, m)
    ]

-- the transition's event, or the join of its role
event_or_join : (a : Agreement) → Given a → (log : List Event) → IsPermitted a log → (h : GlobalTree) → Run a.global (actions log) h → Moves h → (e : Event) × IsPermitted a (log ++ e ∷ [])
event_or_join a f log p h rn m = elim (cases_Bool (has_joined (subject_of m.0) log)) [
  | inl j ↦ (m.0, (acts_next a f log h m.2 p.joined rn m.0 m.1 m.3 j).0)
  | inr n ↦ (Join (subject_of m.0), (joins_next a f log h p.joined rn (subject_of m.0) (next_declared a f log h m.2 rn m.0 m.3) n).0)
]

pub progresses : (a : Agreement) → is_protocol a.roles a.global ≡ true → Progresses a
progresses a v =
    let f = given a v in
    record {
      next = λ log p. elim (complete_or_moves a f log p) [ inl c ↦ inl c | inr y ↦ inr (event_or_join a f log p y.0 y.1 y.2) ];
      acts = λ log p all. elim (complete_or_moves a f log p) [
        | inl c ↦ inl c
        | inr y ↦
            let m = y.2 in
            let j = all (subject_of m.0) (next_occurs a f log y.0 m.2 y.1 m.0 m.3) in
            inr (m.0, m.1, (acts_next a f log y.0 m.2 p.joined y.1 m.0 m.1 m.3 j).0)
      ];
    }
