-- The reason why an event may not follow a permitted log, test by test.
use Rattle.std.proofs.Common.{◌≡◌, ◌≢◌, ◌↔◌, ◌==◌, ◌&&◌, inl, inr, ℕ, Bool, true, false, List, [], ◌∷◌, ◌++◌, Option, Some, None, Contains, length, slice_get, refl, sym, ap, subst, ◌∙◌}
use Rattle.std.specs.Option.{is_some}
use Rattle.std.proofs.lemmas.Bool.{cases_Bool, true≢false}
use Rattle.scrib_types.specs.declared.message.Message.{Message}
use Rattle.scrib_types.specs.declared.event.Action.{Action}
use Rattle.scrib_types.specs.declared.event.Action.TheVariants.{Receives}
use Rattle.scrib_types.specs.declared.event.Event.{Event}
use Rattle.scrib_types.specs.declared.event.Event.TheVariants.{Join, Sent, Received}
use Rattle.scrib_types.specs.Trees.{LocalTree}
use Rattle.scrib_types.specs.WellFormed.{has_role}
use Rattle.scrib_types.specs.Permitted.{IsPermitted}
use Rattle.scrib_types.specs.Logs.{subject_of, action_of, is_action, has_joined}
use Rattle.scrib_types.specs.Queues.{flights}
use Rattle.scrib_machine.specs.declared.machine.Edge.{Edge}
use Rattle.scrib_machine.specs.Machines.{Steps}
use Rattle.scrib_record.specs.declared.configuration.Configuration.{Configuration}
use Rattle.scrib_record.specs.declared.version.Version.{Version}
use Rattle.scrib_record.specs.Configurations.{LeadsTo}
use Rattle.scrib_record.specs.Places.{place_in}
use Rattle.scrib_record.specs.Versions.{meaning_of}
use Rattle.scrib_record.proofs.RolePlaces.{not_declared}
use Rattle.scrib_global.specs.Simulation.{Awaits}
use Rattle.scrib_global.specs.Next.{oldest_of}
use Rattle.scrib_global.proofs.NextLogs.{join_next, send_next}
use Rattle.scrib_global.proofs.ProtocolFacts.{given}
use Rattle.scrib_global.proofs.Runs.{simulates}
use Rattle.scrib_reasons.specs.declared.reason.Reason.{Reason}
use Rattle.scrib_reasons.specs.declared.reason.Reason.TheVariants.{NotDeclared, JoinedTwice, NotJoined, Done, NotAllowed, NotSent, OtherFirst}
use Rattle.scrib_reasons.specs.Reasons.{names_declared, Makes, IsReady, IsOffered, IsBecause, MayNotFollow}
use Rattle.scrib_reasons.proofs.ReasonLemmas.{determines_reason}
use Rattle.scrib_offences.specs.declared.participant.Participant.{Participant}
use Rattle.scrib_offences.specs.ExplainedOffences.{other_role}
use Rattle.scrib_offences.specs.Refusals.{IsRefusedAfter}
use Rattle.scrib_offences.specs.Participants.{IsParticipant, actions_of}
use Rattle.scrib_offences.proofs.ParticipantLemmas.{Offering, offering, has_joined_by, some_if_not, none_if_empty, nothing, oldest_none, oldest_some}

-- a reason that holds of a refused event is the one
only_reason : (v : Version) (c : Configuration) (e : Event) (log : List Event) → IsRefusedAfter v c e log → (r : Reason) → IsBecause (meaning_of v) log e r → MayNotFollow (meaning_of v) log e r
only_reason v c e log h r b = elim (determines_reason (meaning_of v) v.protocol.valid log h.permitted e) [
  | inl f ↦ absurd (h.refused f.permitted)
  | inr x ↦ subst (MayNotFollow (meaning_of v) log e) (sym (x.1.only r b)) x.1
]

-- a role that has no place is not declared
either : (x y : Bool) → x ≡ false → (x && y) ≡ false
either x y h = ap (λ b. b && y) h

either_right : (x y : Bool) → y ≡ false → (x && y) ≡ false
either_right true y h = h
either_right false y h = refl

lacks_subject : (roles : List (List ℕ)) (e : Event) → has_role (subject_of e) roles ≡ false → names_declared roles e ≡ false
lacks_subject roles (Join r) n = n
lacks_subject roles (Sent p q m) n = either (has_role p roles) (has_role q roles) n
lacks_subject roles (Received p q m) n = either_right (has_role p roles) (has_role q roles) n

lacks_other : (roles : List (List ℕ)) (e : Event) → has_role (other_role e) roles ≡ false → names_declared roles e ≡ false
lacks_other roles (Join r) n = n
lacks_other roles (Sent p q m) n = either_right (has_role p roles) (has_role q roles) n
lacks_other roles (Received p q m) n = either (has_role p roles) (has_role q roles) n

both : (x y : Bool) → x ≡ true → y ≡ true → (x && y) ≡ true
both true y h k = k
both false y h k = h

pub names_both : (roles : List (List ℕ)) (e : Event) → has_role (subject_of e) roles ≡ true → has_role (other_role e) roles ≡ true → names_declared roles e ≡ true
names_both roles (Join r) s o = s
names_both roles (Sent p q m) s o = both (has_role p roles) (has_role q roles) s o
names_both roles (Received p q m) s o = both (has_role p roles) (has_role q roles) o s

pub no_subject : (v : Version) (c : Configuration) (e : Event) (log : List Event) → place_in (meaning_of v).roles (subject_of e) ≡ None → IsRefusedAfter v c e log → MayNotFollow (meaning_of v) log e NotDeclared
no_subject v c e log n h =
    let roles = (meaning_of v).roles in
    only_reason v c e log h NotDeclared (lacks_subject roles e (not_declared roles (subject_of e) n))

pub no_other : (v : Version) (c : Configuration) (e : Event) (log : List Event) → place_in (meaning_of v).roles (other_role e) ≡ None → IsRefusedAfter v c e log → MayNotFollow (meaning_of v) log e NotDeclared
no_other v c e log n h =
    let roles = (meaning_of v).roles in
    only_reason v c e log h NotDeclared (lacks_other roles e (not_declared roles (other_role e) n))

-- the join of a declared role
pub joined_twice : (v : Version) (c : Configuration) (log : List Event) (r : List ℕ) → has_role r (meaning_of v).roles ≡ true → IsRefusedAfter v c (Join r) log → MayNotFollow (meaning_of v) log (Join r) JoinedTwice
joined_twice v c log r d h = elim (cases_Bool (has_joined r log)) [
  | inl j ↦ only_reason v c (Join r) log h JoinedTwice (record { declared = d; joins = refl; joined = j })
  | inr n ↦ absurd (h.refused (join_next (meaning_of v) (given (meaning_of v) v.protocol.valid) log h.permitted r d n))
]

-- an event that is no join
pub acts_unless_join : (e : Event) → ((r : List ℕ) → e ≡ Join r → ⊥) → is_action e ≡ true
acts_unless_join (Join r) n = absurd (n r refl)
acts_unless_join (Sent p q m) n = refl
acts_unless_join (Received p q m) n = refl

-- a send or a reception of a role that has not joined
pub not_joined : (v : Version) (c : Configuration) (e : Event) (log : List Event) (participant : Participant) → IsParticipant v c (subject_of e) participant → names_declared (meaning_of v).roles e ≡ true → is_action e ≡ true → participant.state.joined ≡ false → IsRefusedAfter v c e log → MayNotFollow (meaning_of v) log e NotJoined
not_joined v c e log participant s d i n h =
    only_reason v c e log h NotJoined
    (record { declared = d; acts = i; absent = has_joined_by v c log (subject_of e) participant false s h.leads n })

-- a send or a reception of declared roles, whose subject has joined: its participant, and the edges of its state
pub record Acting (v : Version) (c : Configuration) (e : Event) (log : List Event) (participant : Participant) (es : List Edge) : Type 0 where
  pub is_participant : IsParticipant v c (subject_of e) participant
  pub declared : names_declared (meaning_of v).roles e ≡ true
  pub acts : is_action e ≡ true
  pub joined : participant.state.joined ≡ true
  pub edges : slice_get participant.machine.now participant.state.state ≡ Some es
  pub refused : IsRefusedAfter v c e log

pub acting : (v : Version) (c : Configuration) (e : Event) (log : List Event) (participant : Participant) (es : List Edge) → IsParticipant v c (subject_of e) participant → names_declared (meaning_of v).roles e ≡ true → ((r : List ℕ) → e ≡ Join r → ⊥) → participant.state.joined ≡ true → slice_get participant.machine.now participant.state.state ≡ Some es → IsRefusedAfter v c e log → Acting v c e log participant es
acting v c e log participant es s d n j here h =
    record { is_participant = s; declared = d; acts = acts_unless_join e n; joined = j; edges = here; refused = h }

left_to : (v : Version) (c : Configuration) (e : Event) (log : List Event) (participant : Participant) (es : List Edge) → Acting v c e log participant es → (l : LocalTree) × Offering (meaning_of v) log (subject_of e) l (actions_of es)
left_to v c e log participant es x =
    offering v c log (subject_of e) participant es x.is_participant x.refused.leads x.refused.permitted x.edges

ready : (v : Version) (c : Configuration) (e : Event) (log : List Event) (participant : Participant) (es : List Edge) → Acting v c e log participant es → (l : LocalTree) → Offering (meaning_of v) log (subject_of e) l (actions_of es) → IsReady (meaning_of v) log e l
ready v c e log participant es x l o = record {
  declared = x.declared;
  acts = x.acts;
  joined = has_joined_by v c log (subject_of e) participant true x.is_participant x.refused.leads x.joined;
  after = o.after;
}

-- no edges
pub done : (v : Version) (c : Configuration) (e : Event) (log : List Event) (participant : Participant) (es : List Edge) (b : Bool) → Acting v c e log participant es → b ≡ (length es == 0) → b ≡ true → MayNotFollow (meaning_of v) log e Done
done v c e log participant es b x is t =
    let y = left_to v c e log participant es x in
    let none : actions_of es ≡ [] = ap actions_of (none_if_empty es b is t) in
    only_reason v c e log x.refused Done
    (record {
      left = y.0;
      ready = ready v c e log participant es x y.0 y.1;
      ended = λ act m. nothing act (subst (λ (z : List Action). Contains z act) none ((y.1.exact act).1 m));
    })

-- edges, of which none is the event's
not_allowed : (v : Version) (c : Configuration) (e : Event) (log : List Event) (participant : Participant) (es : List Edge) (b : Bool) → Acting v c e log participant es → b ≡ (length es == 0) → b ≡ false → ((l : LocalTree) → Offering (meaning_of v) log (subject_of e) l (actions_of es) → Makes l (action_of e) → ⊥) → MayNotFollow (meaning_of v) log e NotAllowed
not_allowed v c e log participant es b x is f never =
    let y = left_to v c e log participant es x in
    let some = some_if_not es b is f in
    only_reason v c e log x.refused NotAllowed
    (record {
      left = y.0;
      ready = ready v c e log participant es x y.0 y.1;
      other = some.0.action;
      makes = (y.1.exact some.0.action).0 some.1;
      refuses = never y.0 y.1;
    })

-- a send that the subject may make is not refused
send_not_allowed : (v : Version) (c : Configuration) (p q : List ℕ) (m : Message) (log : List Event) (participant : Participant) (es : List Edge) (b : Bool) → Acting v c (Sent p q m) log participant es → b ≡ (length es == 0) → b ≡ false → MayNotFollow (meaning_of v) log (Sent p q m) NotAllowed
send_not_allowed v c p q m log participant es b x is f =
    let a = meaning_of v in
    let j = has_joined_by v c log p participant true x.is_participant x.refused.leads x.joined in
    not_allowed v c (Sent p q m) log participant es b x is f
    (λ l o d. x.refused.refused (send_next a (given a v.protocol.valid) log o.permitted p j o.after.start l d.0 o.after.projected o.after.leads q m d.1))

-- an event that is neither a join nor a reception
pub not_made : (v : Version) (c : Configuration) (e : Event) (log : List Event) (participant : Participant) (es : List Edge) (b : Bool) → Acting v c e log participant es → b ≡ (length es == 0) → b ≡ false → ((r : List ℕ) → e ≡ Join r → ⊥) → ((p q : List ℕ) (m : Message) → e ≡ Received p q m → ⊥) → MayNotFollow (meaning_of v) log e NotAllowed
not_made v c (Join r) log participant es b x is f j n = absurd (j r refl)
not_made v c (Sent p q m) log participant es b x is f j n = send_not_allowed v c p q m log participant es b x is f
not_made v c (Received p q m) log participant es b x is f j n = absurd (n p q m refl)

-- the step of the subject's machine
abbrev pub IsStep : Participant → List ℕ → Message → Option ℕ → Type 0
IsStep participant p m found =
    (n : ℕ) → (found ≡ Some n) ↔ ((participant.state.joined ≡ true) × Steps participant.machine.now participant.state.state (Receives p m) n)

step_there : (v : Version) (c : Configuration) (log : List Event) (r : List ℕ) (participant : Participant) (es : List Edge) (l : LocalTree) (act : Action) → IsParticipant v c r participant → LeadsTo (meaning_of v) v.machines log c → Offering (meaning_of v) log r l (actions_of es) → ((n : ℕ) × Steps participant.machine.now participant.state.state act n) ↔ Makes l act
step_there v c log r participant es l act s st o = (s.after log st).exact l o.after act

pub reception_not_allowed : (v : Version) (c : Configuration) (p q : List ℕ) (m : Message) (log : List Event) (participant : Participant) (es : List Edge) (b : Bool) (found : Option ℕ) → Acting v c (Received p q m) log participant es → b ≡ (length es == 0) → b ≡ false → IsStep participant p m found → is_some found ≡ false → MayNotFollow (meaning_of v) log (Received p q m) NotAllowed
reception_not_allowed v c p q m log participant es b found x is f step none =
    not_allowed v c (Received p q m) log participant es b x is f
    (λ l o d.
    let y = (step_there v c log q participant es l (Receives p m) x.is_participant x.refused.leads o).1 d in
    true≢false (sym (ap is_some ((step y.0).1 (x.joined, y.1))) ∙ none))

-- the reception is offered
pub is_there : (found : Option ℕ) → is_some found ≡ true → (n : ℕ) × (found ≡ Some n)
is_there None e = absurd (true≢false (sym e))
is_there (Some n) e = (n, refl)

offered : (v : Version) (c : Configuration) (p q : List ℕ) (m : Message) (log : List Event) (participant : Participant) (es : List Edge) (found : Option ℕ) → Acting v c (Received p q m) log participant es → IsStep participant p m found → is_some found ≡ true → IsOffered (meaning_of v) log (Received p q m)
offered v c p q m log participant es found x step some =
    let y = left_to v c (Received p q m) log participant es x in
    let n = is_there found some in
    let taken = (step n.0).0 n.1 in
    record {
      left = y.0;
      ready = ready v c (Received p q m) log participant es x y.0 y.1;
      makes = (step_there v c log q participant es y.0 (Receives p m) x.is_participant x.refused.leads y.1).0 (n.0, taken.1);
    }

pub not_sent : (v : Version) (c : Configuration) (p q : List ℕ) (m : Message) (log : List Event) (participant : Participant) (es : List Edge) (found : Option ℕ) → Acting v c (Received p q m) log participant es → IsStep participant p m found → is_some found ≡ true → None ≡ oldest_of (flights p q log) → MayNotFollow (meaning_of v) log (Received p q m) NotSent
not_sent v c p q m log participant es found x step some none =
    only_reason v c (Received p q m) log x.refused NotSent
    (offered v c p q m log participant es found x step some, oldest_none (flights p q log) (sym none))

-- the reception of the oldest message is not refused
pub other_first : (v : Version) (c : Configuration) (p q : List ℕ) (m n : Message) (log : List Event) (participant : Participant) (es : List Edge) (found : Option ℕ) → Acting v c (Received p q m) log participant es → IsStep participant p m found → is_some found ≡ true → Some n ≡ oldest_of (flights p q log) → MayNotFollow (meaning_of v) log (Received p q m) OtherFirst
other_first v c p q m n log participant es found x step some first =
    let a = meaning_of v in
    let y = offered v c p q m log participant es found x step some in
    let w = oldest_some (flights p q log) n (sym first) in
    let awaits : Awaits a log p q =
    record {
      joined = y.ready.joined;
      start = y.ready.after.start;
      projected = y.ready.after.projected;
      now = y.left;
      leads = y.ready.after.leads;
      message = m;
      next = y.makes.0;
      receives = y.makes.1;
    } in
    let other : n ≢ m =
    λ same.
    x.refused.refused
    (subst (λ z. IsPermitted a (log ++ Received p q z ∷ [])) same ((simulates a v.protocol.valid).oldest log x.refused.permitted p q awaits n w.0 w.1)) in
    only_reason v c (Received p q m) log x.refused OtherFirst (y, n, w.0, w.1, other)
