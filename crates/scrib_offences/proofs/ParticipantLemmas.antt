-- What the participant of a role shows of a permitted log that leads to the configuration.
use Rattle.std.proofs.Common.{◌≡◌, ◌↔◌, ◌==◌, ℕ, Bool, true, false, List, [], ◌∷◌, Some, None, Contains, length, slice_get, refl, sym, ap, ◌∙◌, arith}
use Rattle.std.proofs.lemmas.Bool.{true≢false}
use Rattle.std.proofs.lemmas.Bool.Decides.{Decides-eqb}
use Rattle.scrib_types.specs.declared.message.Message.{Message}
use Rattle.scrib_types.specs.declared.event.Action.{Action}
use Rattle.scrib_types.specs.declared.event.Event.{Event}
use Rattle.scrib_types.specs.Trees.{LocalTree}
use Rattle.scrib_types.specs.WellFormed.{has_role}
use Rattle.scrib_types.specs.Agreement.{Agreement}
use Rattle.scrib_types.specs.Permitted.{IsPermitted}
use Rattle.scrib_types.specs.Logs.{has_joined}
use Rattle.scrib_machine.specs.declared.machine.Edge.{Edge}
use Rattle.scrib_record.specs.declared.configuration.Configuration.{Configuration}
use Rattle.scrib_record.specs.declared.version.Version.{Version}
use Rattle.scrib_record.specs.Configurations.{LeadsTo}
use Rattle.scrib_record.specs.Versions.{meaning_of}
use Rattle.scrib_record.proofs.RolePlaces.{is_declared}
use Rattle.scrib_global.specs.Next.{IsTypeAfter, oldest_of}
use Rattle.scrib_global.proofs.NextLogs.{type_after}
use Rattle.scrib_reasons.specs.Reasons.{Makes}
use Rattle.scrib_offences.specs.declared.participant.Participant.{Participant}
use Rattle.scrib_offences.specs.Participants.{IsParticipant, actions_of}
use Rattle.scrib_offences.proofs.MachineSteps.{edge_steps}

-- a declared role after a permitted log, with the local type that is left to it and the actions of its state's edges
pub record Offering (a : Agreement) (log : List Event) (r : List ℕ) (l : LocalTree) (acts : List Action) : Type 0 where
  pub permitted : IsPermitted a log
  pub known : has_role r a.roles ≡ true
  pub after : IsTypeAfter a.global log r l
  pub exact : (act : Action) → Contains acts act ↔ Makes l act

pub offering : (v : Version) (c : Configuration) (log : List Event) (r : List ℕ) (participant : Participant) (es : List Edge) → IsParticipant v c r participant → LeadsTo (meaning_of v) v.machines log c → IsPermitted (meaning_of v) log → slice_get participant.machine.now participant.state.state ≡ Some es → (l : LocalTree) × Offering (meaning_of v) log r l (actions_of es)
offering v c log r participant es s st pm here =
    let d = is_declared (meaning_of v).roles r participant.place s.place in
    let t = type_after (meaning_of v) log pm r d in (
      t.0,
      record {
        permitted = pm;
        known = d;
        after = t.1;
        exact = λ act.
            let e = edge_steps participant.machine.now participant.state.state es act here in
            let y = (s.after log st).exact t.0 t.1 act in (λ h. y.0 (e.0 h), λ m. e.1 (y.1 m));
      },
    )

pub has_joined_by : (v : Version) (c : Configuration) (log : List Event) (r : List ℕ) (participant : Participant) (b : Bool) → IsParticipant v c r participant → LeadsTo (meaning_of v) v.machines log c → participant.state.joined ≡ b → has_joined r log ≡ b
has_joined_by v c log r participant b s st j = sym (s.after log st).joined ∙ j

-- whether there are edges
pub none_if_empty : (es : List Edge) (b : Bool) → b ≡ (length es == 0) → b ≡ true → es ≡ []
none_if_empty [] b is e = refl
none_if_empty (x ∷ es) b is e = absurd (let z = (Decides-eqb (length (x ∷ es)) 0).0 (sym is ∙ e) in omega (arith, z))

pub some_if_not : (es : List Edge) (b : Bool) → b ≡ (length es == 0) → b ≡ false → (x : Edge) × Contains (actions_of es) x.action
some_if_not [] b is e = absurd (true≢false (sym (is ∙ (Decides-eqb 0 0).1 refl) ∙ e))
some_if_not (x ∷ es) b is e = (x, (0, omega arith, refl))

-- the first edge
pub none_first : (es : List Edge) → None ≡ slice_get es 0 → es ≡ []
none_first [] e = refl
none_first (x ∷ es) e = absurd (cc)

pub some_first : (es : List Edge) (x : Edge) → Some x ≡ slice_get es 0 → Contains (actions_of es) x.action
some_first [] x e = absurd (cc)
some_first (y ∷ es) x e = let same : y ≡ x = cc in (0, omega arith, ap (λ (z : Edge). z.action) same)

pub nothing : {X : Type 0} (x : X) → Contains [] x → ⊥
nothing x h = absurd (omega (arith, h.1))

-- the oldest message
pub oldest_none : (w : List Message) → oldest_of w ≡ None → w ≡ []
oldest_none [] e = refl
oldest_none (m ∷ w) e = absurd (cc)

pub oldest_some : (w : List Message) (m : Message) → oldest_of w ≡ Some m → (rest : List Message) × (w ≡ m ∷ rest)
oldest_some [] m e = absurd (cc)
oldest_some (n ∷ w) m e = (w, cc)
