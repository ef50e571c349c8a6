-- Permitted verdicts are runs.
use Rattle.std.proofs.Common.{◌≡◌, ◌↔◌, ℕ, true, List, [], ◌∷◌, ◌++◌, Some, None, refl, sym, subst, ◌∙◌}
use Rattle.std.proofs.lemmas.List.{append_assoc}
use Rattle.scrib_types.specs.declared.event.Action.{Action}
use Rattle.scrib_types.specs.declared.event.Event.{Event}
use Rattle.scrib_types.specs.declared.event.Verdict.{Verdict}
use Rattle.scrib_types.specs.declared.event.Verdict.TheVariants.{Permitted, Offence, Withdrawn}
use Rattle.scrib_types.specs.Agreement.{Agreement}
use Rattle.scrib_types.specs.Judgement.{Judges, IsOffence}
use Rattle.scrib_types.specs.Permitted.{IsPermitted}
use Rattle.scrib_types.specs.WellFormed.{is_protocol}
use Rattle.scrib_global.specs.Simulation.{IsJoinedRun}
use Rattle.scrib_global.proofs.Runs.{simulates}
use Rattle.scrib_global.proofs.JudgementLemmas.{permitted_front}
use Rattle.scrib_library.specs.Modules.{MeansProtocols}
use Rattle.scrib_core.specs.World.{World, Conversation}
use Rattle.scrib_core.specs.Runs.{IsPermittedRun, PermitsRuns}

-- a log with an offence is not permitted
pub not_offending : (a : Agreement) (log : List Event) (place : ℕ) (role : List ℕ) (allowed : List Action) → IsOffence a log place role allowed → IsPermitted a log → ⊥
not_offending a log place role allowed h p =
    let front = h.before ++ h.event ∷ [] in
    let whole : log ≡ front ++ h.after = h.here ∙ sym (append_assoc h.before (h.event ∷ []) h.after) in
    h.offends (permitted_front a front h.after (subst (IsPermitted a) whole p))

same_agreement : (a b : Agreement) → Some a ≡ Some b → a ≡ b
same_agreement a b e = cc

by_verdict : (a : Agreement) → is_protocol a.roles a.global ≡ true → (log : List Event) (v : Verdict) → Judges (Some a) log v
    → (v ≡ Permitted) ↔ ((b : Agreement) × (Some a ≡ Some b) × IsJoinedRun b log)
by_verdict a valid log Permitted h = (λ e. (a, refl, ((simulates a valid).exact log).0 h), λ r. refl)
by_verdict a valid log (Offence place role allowed) h = (
  λ e. absurd cc,
  λ r.
      let run : IsJoinedRun a log = subst (λ (b : Agreement). IsJoinedRun b log) (sym (same_agreement a r.0 r.1)) r.2 in
      absurd (not_offending a log place role allowed h (((simulates a valid).exact log).1 run)),
)
by_verdict a valid log Withdrawn h = absurd h

without : (log : List Event) (v : Verdict) → Judges None log v → (v ≡ Permitted) ↔ ((b : Agreement) × (None ≡ Some b) × IsJoinedRun b log)
without log Permitted h = absurd h
without log (Offence place role allowed) h = absurd h
without log Withdrawn h = (λ e. absurd cc, λ r. let e : None ≡ Some r.0 = r.1 in cc)

of_conversation : (w : World) (c : Conversation) → MeansProtocols w.modules → IsPermittedRun w c
of_conversation w c valid None v m h = without c.log v h
of_conversation w c valid (Some a) v m h = by_verdict a (valid c.name a m) c.log v h

pub permits_runs : (w : World) → MeansProtocols w.modules → PermitsRuns w
unfolding PermitsRuns
permits_runs w valid id c there = of_conversation w c valid
