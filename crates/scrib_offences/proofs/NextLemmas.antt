-- What a role may do next after a permitted log, from the actions of its state's edges and the messages in flight to it.
use Rattle.std.proofs.Common.{◌≡◌, ◌≢◌, ◌==◌, ◌⊎◌, inl, inr, ℕ, Bool, true, false, not, List, [], ◌∷◌, Option, Some, None, Result, Ok, Err, IfOk, AllPairs, Contains, length, refl, sym, ap, subst, ◌∙◌, arith}
use Rattle.std.proofs.lemmas.Bool.{cases_Bool}
use Rattle.scrib_types.specs.declared.message.Message.{Message}
use Rattle.scrib_types.specs.declared.event.Action.{Action}
use Rattle.scrib_types.specs.declared.event.Action.TheVariants.{Sends, Receives}
use Rattle.scrib_types.specs.declared.event.Event.{Event}
use Rattle.scrib_types.specs.Trees.{LocalTree, LocalEnd, LocalVar, LocalRec, Send, Recv}
use Rattle.scrib_types.specs.Projection.{occurs}
use Rattle.scrib_types.specs.WellFormed.{is_protocol}
use Rattle.scrib_types.specs.Agreement.{Agreement}
use Rattle.scrib_types.specs.Judgement.{ComesBefore}
use Rattle.scrib_types.specs.Permitted.{IsPermitted}
use Rattle.scrib_types.specs.Logs.{own_actions, has_joined}
use Rattle.scrib_types.specs.Queues.{flights}
use Rattle.scrib_machine.specs.declared.machine.Edge.{Edge}
use Rattle.scrib_global.specs.declared.next.RoleNext.{RoleNext}
use Rattle.scrib_global.specs.declared.next.RoleNext.TheVariants.{MayJoin, Done, May, WaitsFor}
use Rattle.scrib_global.specs.Simulation.{Leads, Awaits}
use Rattle.scrib_global.specs.Unfolded.{acts_first}
use Rattle.scrib_global.specs.Next.{IsTypeAfter, oldest_of, next_by_type}
use Rattle.scrib_global.specs.NextEvents.{ComesNext}
use Rattle.scrib_global.proofs.ProtocolFacts.{given, tests, projects_of}
use Rattle.scrib_global.proofs.Candidates.{Among, contains_among}
use Rattle.scrib_global.proofs.Runs.{simulates}
use Rattle.scrib_global.proofs.FormedTypes.{Formed, formed, leads_formed, acts_occurs}
use Rattle.scrib_global.proofs.OfferedActions.{offers, among_contains, does_offered, offered_does, end_or_offers, AllSends, AllFrom, NextBy, by_end, by_sends, by_oldest, by_waiting, next_by}
use Rattle.scrib_global.proofs.NextLogs.{join_next, send_next, oldest_next, next_does, own_before_join}
use Rattle.scrib_reasons.specs.Reasons.{Makes}
use Rattle.scrib_offences.specs.Participants.{IsNext, actions_of, next_reception}
use Rattle.scrib_offences.proofs.ParticipantLemmas.{Offering, none_if_empty, some_if_not, nothing, oldest_none, oldest_some}

-- the type that is left is formed: it is the end, or it makes an action
left_formed : (a : Agreement) → is_protocol a.roles a.global ≡ true → (log : List Event) (r : List ℕ) (l : LocalTree) → IsTypeAfter a.global log r l → Formed l 0
left_formed a v log r l x =
    leads_formed (own_actions r log) x.start l x.leads
    (formed a.roles r 0 (projects_of r a.global x.start x.projected) (tests a.roles a.global v).formed (given a v).closed)

-- an action that comes next is one of these
comes_among : (a : Agreement) (log : List Event) (r : List ℕ) (l : LocalTree) (acts : List Action) → Offering a log r l acts → has_joined r log ≡ true → (act : Action) → ComesNext a log r act → Contains acts act
comes_among a log r l acts o j act h = (o.exact act).1 (next_does a log r o.known j l o.after act h)

-- a role that has not joined
first_acts : (l : LocalTree) (act : Action) → Among act (offers l) → acts_first l ≡ true
first_acts LocalEnd act h = absurd h
first_acts (LocalVar n) act h = absurd h
first_acts (LocalRec body) act h = first_acts body act h
first_acts (Send q ls) act h = refl
first_acts (Recv p ls) act h = refl

acts_if_some : (a : Agreement) → is_protocol a.roles a.global ≡ true → (log : List Event) (r : List ℕ) (l : LocalTree) (es : List Edge) (b : Bool) → Offering a log r l (actions_of es) → b ≡ (length es == 0) → not b ≡ acts_first l
acts_if_some a v log r l es b o is = elim (cases_Bool b) [
  | inl none ↦
      let empty : actions_of es ≡ [] = ap actions_of (none_if_empty es b is none) in
      elim (end_or_offers l (left_formed a v log r l o.after)) [
        | inl e ↦ ap not none ∙ sym (ap acts_first e)
        | inr y ↦
            let h = (o.exact y.0).1 (offered_does l y.0 y.1) in
            absurd (nothing y.0 (subst (λ (z : List Action). Contains z y.0) empty h))
      ]
  | inr some ↦
      let x = some_if_not es b is some in
      let d = (o.exact x.0.action).0 x.1 in
      ap not some ∙ sym (first_acts l x.0.action (does_offered d.1))
]

start_acts : (a : Agreement) (log : List Event) → IsPermitted a log → (r : List ℕ) → has_joined r log ≡ false → (l : LocalTree) → IsTypeAfter a.global log r l → acts_first l ≡ occurs r a.global
start_acts a log pm r n l x =
    let still : Leads x.start [] l = subst (λ w. Leads x.start w l) (own_before_join a log pm r n) x.leads in
    subst (λ z. acts_first z ≡ occurs r a.global) still (acts_occurs r a.global x.start (projects_of r a.global x.start x.projected))

pub may_join : (a : Agreement) → is_protocol a.roles a.global ≡ true → (log : List Event) (r : List ℕ) (l : LocalTree) (es : List Edge) (b : Bool) → Offering a log r l (actions_of es) → has_joined r log ≡ false → b ≡ (length es == 0) → IsNext a log r (MayJoin (not b))
may_join a v log r l es b o n is = record {
  described = (
    join_next a (given a v) log o.permitted r o.known n,
    acts_if_some a v log r l es b o is ∙ start_acts a log o.permitted r n l o.after,
  );
  sorted = tt;
}

-- a role without edges is at its end
pub at_end : (a : Agreement) → is_protocol a.roles a.global ≡ true → (log : List Event) (r : List ℕ) (l : LocalTree) (acts : List Action) → Offering a log r l acts → has_joined r log ≡ true → acts ≡ [] → IsNext a log r Done
at_end a v log r l acts o j none = record {
  described = record {
    joined = j;
    ended = elim (end_or_offers l (left_formed a v log r l o.after)) [
      | inl e ↦ subst (IsTypeAfter a.global log r) e o.after
      | inr y ↦ absurd (gone y.0 ((o.exact y.0).1 (offered_does l y.0 y.1)))
    ];
    none = λ act h. gone act (comes_among a log r l acts o j act h);
  };
  sorted = tt;
}
  where
    gone : (act : Action) → Contains acts act → ⊥
    gone act h = nothing act (subst (λ (z : List Action). Contains z act) none h)

-- the actions that a type offers are sends, or receptions from one role
kinds : (r : List ℕ) (log : List Event) (acts : List Action) (next : RoleNext) → NextBy r log acts next → (act : Action) → Among act acts → AllSends acts ⊎ ((p : List ℕ) × AllFrom p acts)
kinds r log acts next by_end act h = absurd h
kinds r log acts next (by_sends all) act h = inl all
kinds r log acts next (by_oldest {p} all f) act h = inr (p, all)
kinds r log acts next (by_waiting {p} all f) act h = inr (p, all)

kinds_of : (l : LocalTree) (r : List ℕ) (log : List Event) (act : Action) → Makes l act → AllSends (offers l) ⊎ ((p : List ℕ) × AllFrom p (offers l))
kinds_of l r log act d = kinds r log (offers l) (next_by_type l r log) (next_by l r log) act (does_offered d.1)

-- a type that makes an action other than a reception makes sends alone
abbrev IsReception : Action → Type 0
IsReception act = (p : List ℕ) × (m : Message) × (act ≡ Receives p m)

all_sent : (l : LocalTree) (r : List ℕ) (log : List Event) (act : Action) → Makes l act → (IsReception act → ⊥) → AllSends (offers l)
all_sent l r log act d n = elim (kinds_of l r log act d) [
  | inl all ↦ all
  | inr y ↦ let z = y.1 act (does_offered d.1) in absurd (n (y.0, z.0, z.1))
]

same_sender : (p q : List ℕ) (m n : Message) → Receives p m ≡ Receives q n → p ≡ q
same_sender p q m n e = cc

no_send : (p q : List ℕ) (m n : Message) → Receives p m ≡ Sends q n → ⊥
no_send p q m n e = cc

all_received : (l : LocalTree) (r : List ℕ) (log : List Event) (p : List ℕ) (m : Message) → Makes l (Receives p m) → AllFrom p (offers l)
all_received l r log p m d = elim (kinds_of l r log (Receives p m) d) [
  | inl all ↦ let z = all (Receives p m) (does_offered d.1) in absurd (no_send p z.0 m z.1 z.2)
  | inr y ↦
      let z = y.1 (Receives p m) (does_offered d.1) in
      subst (λ s. AllFrom s (offers l)) (sym (same_sender p y.0 m z.0 z.1)) y.1
]

some_there : (acts : List Action) (act : Action) → Contains acts act → acts ≢ []
some_there acts act h e = nothing act (subst (λ (z : List Action). Contains z act) e h)

-- a role whose edges are sends may make each
pub may_send : (a : Agreement) → is_protocol a.roles a.global ≡ true → (log : List Event) (r : List ℕ) (l : LocalTree) (acts : List Action) → Offering a log r l acts → has_joined r log ≡ true → AllPairs ComesBefore acts → (act : Action) → Contains acts act → (IsReception act → ⊥) → IsNext a log r (May acts)
may_send a v log r l acts o j sorted first h n =
    let all = all_sent l r log first ((o.exact first).0 h) n in
    record {
      described = record {
        joined = j;
        some = some_there acts first h;
        exact = λ act. (
          λ c.
              let d = (o.exact act).0 c in
              let y = all act (does_offered d.1) in
              comes act d y.0 y.1 y.2,
          λ c. comes_among a log r l acts o j act c,
        );
      };
      sorted = sorted;
    }
  where
    comes : (act : Action) → Makes l act → (q : List ℕ) (m : Message) → act ≡ Sends q m → ComesNext a log r act
    comes act d q m e =
        let s : Makes l (Sends q m) = subst (Makes l) e d in
        subst (λ x. ComesNext a log r x) (sym e) (send_next a (given a v) log o.permitted r j o.after.start l s.0 o.after.projected o.after.leads q m s.1)

-- a reception that comes next is of the oldest message in flight
next_oldest : (a : Agreement) (log : List Event) (r : List ℕ) (l : LocalTree) (acts : List Action) → Offering a log r l acts → has_joined r log ≡ true → (p : List ℕ) → AllFrom p (offers l) → (act : Action) → ComesNext a log r act → (m : Message) × (w : List Message) × (act ≡ Receives p m) × (flights p r log ≡ m ∷ w)
next_oldest a log r l acts o j p all act h =
    let d = (o.exact act).0 (comes_among a log r l acts o j act h) in
    let x = all act (does_offered d.1) in
    let z = oldest_next a log p r x.0 (subst (λ y. ComesNext a log r y) x.1 h) in
    (x.0, z.0, x.1, z.1)

first_same : (m n : Message) (w u : List Message) → m ∷ w ≡ n ∷ u → m ≡ n
first_same m n w u e = cc

no_message : (m : Message) (w : List Message) → ◌≡◌ {A = List Message} [] (m ∷ w) → ⊥
no_message m w e = cc e

one_sorted : (x : Action) → AllPairs ComesBefore (x ∷ [])
one_sorted x = λ i j d lt w. absurd (omega arith)

-- a role whose edges are receptions, where a message is in flight, may receive the oldest
may_receive : (a : Agreement) → is_protocol a.roles a.global ≡ true → (log : List Event) (r : List ℕ) (l : LocalTree) (acts : List Action) → Offering a log r l acts → has_joined r log ≡ true → (p : List ℕ) (first : Message) → Contains acts (Receives p first) → (m : Message) (w : List Message) → flights p r log ≡ m ∷ w → IsNext a log r (May (Receives p m ∷ []))
may_receive a v log r l acts o j p first h m w f =
    let d = (o.exact (Receives p first)).0 h in
    let all = all_received l r log p first d in
    let awaits : Awaits a log p r =
    record {
      joined = j;
      start = o.after.start;
      projected = o.after.projected;
      now = l;
      leads = o.after.leads;
      message = first;
      next = d.0;
      receives = d.1;
    } in
    let comes : ComesNext a log r (Receives p m) = (simulates a v).oldest log o.permitted p r awaits m w f in
    record {
      described = record {
        joined = j;
        some = λ i. cc i;
        exact = λ act. (
          λ c. elim (among_contains act (Receives p m ∷ []) c) [
            | inl i ↦ subst (λ y. ComesNext a log r y) (sym i) comes
            | inr i ↦ absurd i
          ],
          λ c.
              let y = next_oldest a log r l acts o j p all act c in
              let same : y.0 ≡ m = first_same y.0 m y.1 w (sym y.3 ∙ f) in
              contains_among act (Receives p m ∷ []) (inl (y.2 ∙ ap (λ (x : Message). Receives p x) same)),
        );
      };
      sorted = one_sorted (Receives p m);
    }

-- where none is, it waits
waits : (a : Agreement) (log : List Event) (r : List ℕ) (l : LocalTree) (acts : List Action) → Offering a log r l acts → has_joined r log ≡ true → AllPairs ComesBefore acts → (p : List ℕ) (first : Message) → Contains acts (Receives p first) → flights p r log ≡ [] → IsNext a log r (WaitsFor acts)
waits a log r l acts o j sorted p first h f =
    let all = all_received l r log p first ((o.exact (Receives p first)).0 h) in
    record {
      described = record {
        joined = j;
        none = λ act c. let y = next_oldest a log r l acts o j p all act c in no_message y.0 y.1 (sym f ∙ y.3);
        left = l;
        after = o.after;
        some = some_there acts (Receives p first) h;
        exact = o.exact;
        sender = p;
        receptions = λ act c. let d = (o.exact act).0 c in all act (does_offered d.1);
        empty = f;
      };
      sorted = sorted;
    }

pub next_received : (a : Agreement) → is_protocol a.roles a.global ≡ true → (log : List Event) (r : List ℕ) (l : LocalTree) (acts : List Action) → Offering a log r l acts → has_joined r log ≡ true → AllPairs ComesBefore acts → (p : List ℕ) (first : Message) → Contains acts (Receives p first) → (oldest : Option Message) → oldest ≡ oldest_of (flights p r log) → IsNext a log r (next_reception p oldest acts)
next_received a v log r l acts o j sorted p first h None e =
    waits a log r l acts o j sorted p first h (oldest_none (flights p r log) (sym e))
next_received a v log r l acts o j sorted p first h (Some m) e =
    let w = oldest_some (flights p r log) m (sym e) in
    may_receive a v log r l acts o j p first h m w.0 w.1

-- a result that is this value
pub if_same : {X E : Type 0} (P : X → Type 0) (r : Result X E) (x : X) → IfOk r (λ y. y ≡ x) → P x → IfOk r P
if_same P (Err f) x h p = tt
if_same P (Ok y) x h p = subst P (sym h) p
