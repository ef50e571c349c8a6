-- The reason that tests find, after a permitted log: what it means, and that no other reason holds.
use Rattle.std.proofs.Common.{◌≡◌, ◌≢◌, inl, inr, Bool, true, false, ℕ, List, [], ◌∷◌, ◌++◌, Option, Some, None, if◌then◌else◌, refl, sym, ap, ◌∙◌, subst}
use Rattle.std.proofs.lemmas.Bool.{true≢false, cases_Bool, and_parts}
use Rattle.scrib_types.specs.declared.message.Message.{Message}
use Rattle.scrib_types.specs.declared.event.Action.{Action}
use Rattle.scrib_types.specs.declared.event.Action.TheVariants.{Sends, Receives}
use Rattle.scrib_types.specs.declared.event.Event.{Event}
use Rattle.scrib_types.specs.declared.event.Event.TheVariants.{Join, Sent, Received}
use Rattle.scrib_types.specs.Trees.{LocalTree, LocalEnd}
use Rattle.scrib_types.specs.WellFormed.{has_role, is_protocol}
use Rattle.scrib_types.specs.Agreement.{Agreement}
use Rattle.scrib_types.specs.Permitted.{IsPermitted}
use Rattle.scrib_types.specs.Logs.{subject_of, action_of, is_action, own_actions, has_joined, IsJoined}
use Rattle.scrib_types.specs.Queues.{flights}
use Rattle.scrib_global.specs.Simulation.{Awaits}
use Rattle.scrib_global.specs.Next.{IsTypeAfter, oldest_of}
use Rattle.scrib_global.proofs.Names.{not_true}
use Rattle.scrib_global.proofs.ProtocolFacts.{given, tests, projects_of}
use Rattle.scrib_global.proofs.FormedTypes.{Formed, formed, leads_formed}
use Rattle.scrib_global.proofs.OfferedActions.{offered_does, end_or_offers}
use Rattle.scrib_global.proofs.UndeclaredFlights.{both_declared, nothing_elsewhere}
use Rattle.scrib_global.proofs.NextLogs.{join_next, send_next, oldest_next, type_after, type_after_one, next_does}
use Rattle.scrib_global.proofs.Runs.{simulates}
use Rattle.scrib_reasons.specs.declared.reason.Reason.{Reason}
use Rattle.scrib_reasons.specs.declared.reason.Reason.TheVariants.{NotDeclared, JoinedTwice, NotJoined, Done, NotAllowed, NotSent, OtherFirst}
use Rattle.scrib_reasons.specs.Reasons.{names_declared, Makes, IsReady, IsOffered, IsBecause, HasOneReason, DeterminesReason, FindsReason}
use Rattle.scrib_reasons.specs.Tests.{has_choice, reason_by_oldest, reason_by_flights, is_end, reason_by_type}
use Rattle.scrib_reasons.proofs.Choices.{same_or_not, message_is, chosen_made, made_chosen, end_makes_none, made_not_end}

-- the oldest message in flight
pub oldest_same : (m n : Message) → n ≡ m → reason_by_oldest m (Some n) ≡ None
oldest_same m n e = ap (λ b. if b then None else Some OtherFirst) (message_is n m e)

pub oldest_other : (m n : Message) → n ≢ m → reason_by_oldest m (Some n) ≡ Some OtherFirst
oldest_other m n d = elim (same_or_not n m) [
  | inl e ↦ absurd (d e)
  | inr e ↦ ap (λ b. if b then None else Some OtherFirst) e
]

-- the reason by the local type that is left
type_done : (l : LocalTree) (log : List Event) (e : Event) → is_end l ≡ true → reason_by_type l log e ≡ Some Done
type_done l log e i = ap (λ b. if b then Some Done else (if has_choice l e then reason_by_flights log e else Some NotAllowed)) i

type_refuses : (l : LocalTree) (log : List Event) (e : Event) → is_end l ≡ false → has_choice l e ≡ false → reason_by_type l log e ≡ Some NotAllowed
type_refuses l log e i h =
    ap (λ b. if b then Some Done else (if has_choice l e then reason_by_flights log e else Some NotAllowed)) i
    ∙ ap (λ b. if b then reason_by_flights log e else Some NotAllowed) h

type_makes : (l : LocalTree) (log : List Event) (e : Event) → is_action e ≡ true → Makes l (action_of e) → reason_by_type l log e ≡ reason_by_flights log e
type_makes l log e i d =
    ap (λ b. if b then Some Done else (if has_choice l e then reason_by_flights log e else Some NotAllowed)) (made_not_end l (action_of e) d)
    ∙ ap (λ b. if b then reason_by_flights log e else Some NotAllowed) (made_chosen l e i d)

-- the reason by whether the event's roles are declared, whether it is a send or a reception, and whether its subject has
-- joined; the last is the one by the local type
abbrev pub reason_at : (declared acts joined : Bool) → Option Reason → Option Reason
reason_at false acts joined later = Some NotDeclared
reason_at true false true later = Some JoinedTwice
reason_at true false false later = None
reason_at true true false later = Some NotJoined
reason_at true true true later = later

at_all : (d s j d' s' j' : Bool) (later : Option Reason) → d ≡ d' → s ≡ s' → j ≡ j' → reason_at d s j later ≡ reason_at d' s' j' later
at_all d s j d' s' j' later e f g =
    ap (λ x. reason_at x s j later) e ∙ ap (λ x. reason_at d' x j later) f ∙ ap (λ x. reason_at d' s' x later) g

abbrev pub reason_after : Agreement → List Event → Event → LocalTree → Option Reason
reason_after a log e l = reason_at (names_declared a.roles e) (is_action e) (has_joined (subject_of e) log) (reason_by_type l log e)

pub after_is : (a : Agreement) (log : List Event) (e : Event) (l : LocalTree) (d s j : Bool) → names_declared a.roles e ≡ d → is_action e ≡ s → has_joined (subject_of e) log ≡ j → reason_after a log e l ≡ reason_at d s j (reason_by_type l log e)
after_is a log e l d s j = at_all (names_declared a.roles e) (is_action e) (has_joined (subject_of e) log) d s j (reason_by_type l log e)

pub after_undeclared : (a : Agreement) (log : List Event) (e : Event) (l : LocalTree) → names_declared a.roles e ≡ false → reason_after a log e l ≡ Some NotDeclared
after_undeclared a log e l d = after_is a log e l false (is_action e) (has_joined (subject_of e) log) d refl refl

-- the type that is left to the subject, where the event's roles are declared
pub record Left (a : Agreement) (log : List Event) (e : Event) (l : LocalTree) : Type 0 where
  pub valid : is_protocol a.roles a.global ≡ true
  pub permitted : IsPermitted a log
  pub after : names_declared a.roles e ≡ true → IsTypeAfter a.global log (subject_of e) l

left_is : (a : Agreement) (log : List Event) (e : Event) (l left : LocalTree) → Left a log e l → IsReady a log e left → left ≡ l
left_is a log e l left t x = type_after_one a.global log (subject_of e) left l x.after (t.after x.declared)

left_formed : (a : Agreement) (log : List Event) (r : List ℕ) (l : LocalTree) → is_protocol a.roles a.global ≡ true → IsTypeAfter a.global log r l → Formed l 0
left_formed a log r l v x =
    leads_formed (own_actions r log) x.start l x.leads
    (formed a.roles r 0 (projects_of r a.global x.start x.projected) (tests a.roles a.global v).formed (given a v).closed)

-- a reason that holds is the one that the tests find
done_ends : (l : LocalTree) → Formed l 0 → ((act : Action) → Makes l act → ⊥) → is_end l ≡ true
done_ends l f n = elim (end_or_offers l f) [
  | inl e ↦ ap is_end e
  | inr y ↦ absurd (n y.0 (offered_does l y.0 y.1))
]

ready_at : (a : Agreement) (log : List Event) (e : Event) (l left : LocalTree) → IsReady a log e left → reason_after a log e l ≡ reason_by_type l log e
ready_at a log e l left x = after_is a log e l true true true x.declared x.acts x.joined

offered_at : (a : Agreement) (log : List Event) (e : Event) (l : LocalTree) → Left a log e l → IsOffered a log e → reason_after a log e l ≡ reason_by_flights log e
offered_at a log e l t x =
    ready_at a log e l x.left x.ready
    ∙ type_makes l log e x.ready.acts (subst (λ k. Makes k (action_of e)) (left_is a log e l x.left t x.ready) x.makes)

because_at : (a : Agreement) (log : List Event) (e : Event) (l : LocalTree) → Left a log e l → (r : Reason) → IsBecause a log e r → reason_after a log e l ≡ Some r
because_at a log e l t NotDeclared b = after_undeclared a log e l b
because_at a log e l t JoinedTwice b = after_is a log e l true false true b.declared b.joins b.joined
because_at a log e l t NotJoined b = after_is a log e l true true false b.declared b.acts b.absent
because_at a log e l t Done b =
    let same = left_is a log e l b.left t b.ready in
    ready_at a log e l b.left b.ready
    ∙ type_done l log e (done_ends l (left_formed a log (subject_of e) l t.valid (t.after b.ready.declared)) (subst (λ k. (act : Action) → Makes k act → ⊥) same b.ended))
because_at a log e l t NotAllowed b =
    let same = left_is a log e l b.left t b.ready in
    ready_at a log e l b.left b.ready
    ∙ type_refuses l log e (made_not_end l b.other (subst (λ k. Makes k b.other) same b.makes))
    (not_true (has_choice l e) (λ h. b.refuses (subst (λ k. Makes k (action_of e)) (sym same) (chosen_made l e h))))
because_at a log (Join r) l t NotSent b = absurd b
because_at a log (Sent p q m) l t NotSent b = absurd b
because_at a log (Received p q m) l t NotSent b =
    offered_at a log (Received p q m) l t b.0 ∙ ap (λ w. reason_by_oldest m (oldest_of w)) b.1
because_at a log (Join r) l t OtherFirst b = absurd b
because_at a log (Sent p q m) l t OtherFirst b = absurd b
because_at a log (Received p q m) l t OtherFirst b =
    offered_at a log (Received p q m) l t b.0 ∙ ap (λ w. reason_by_oldest m (oldest_of w)) b.3 ∙ oldest_other m b.1 b.4

-- where the event may follow the tests find no reason
no_message : (m : Message) (w : List Message) → ◌≡◌ {A = List Message} (m ∷ w) [] → ⊥
no_message m w e = cc e

last_joined : (a : Agreement) (log : List Event) (e : Event) → IsPermitted a (log ++ e ∷ []) → IsJoined a.roles log e
last_joined a log e pm = pm.joined log [] e refl

permitted_at : (a : Agreement) (log : List Event) (e : Event) (l : LocalTree) → Left a log e l → IsPermitted a (log ++ e ∷ []) → reason_after a log e l ≡ None
permitted_at a log (Join r) l t pm =
    let y = last_joined a log (Join r) pm in after_is a log (Join r) l true false false y.0 refl y.1
permitted_at a log (Sent p q m) l t pm =
    let e = Sent p q m in
    let d : names_declared a.roles e ≡ true = both_declared a t.valid (log ++ e ∷ []) pm log [] p q m refl in
    let j = last_joined a log e pm in
    let y = next_does a log p (and_parts (has_role p a.roles) (has_role q a.roles) d).0 j l (t.after d) (Sends q m) pm in
    after_is a log e l true true true d refl j ∙ type_makes l log e refl y
permitted_at a log (Received p q m) l t pm =
    let e = Received p q m in
    let f = oldest_next a log p q m pm in
    let d : names_declared a.roles e ≡ true = elim (cases_Bool (names_declared a.roles e)) [
      | inl i ↦ i
      | inr n ↦ absurd (no_message m f.0 (sym f.1 ∙ nothing_elsewhere a t.valid log t.permitted p q n))
    ] in
    let j = last_joined a log e pm in
    let y = next_does a log q (and_parts (has_role p a.roles) (has_role q a.roles) d).1 j l (t.after d) (Receives p m) pm in
    after_is a log e l true true true d refl j ∙ type_makes l log e refl y
    ∙ ap (λ w. reason_by_oldest m (oldest_of w)) f.1 ∙ oldest_same m m refl

-- what the tests find holds
abbrev Holds : Agreement → List Event → Event → Option Reason → Type 0
Holds a log e None = IsPermitted a (log ++ e ∷ [])
Holds a log e (Some r) = IsBecause a log e r

holds_as : (a : Agreement) (log : List Event) (e : Event) (x y : Option Reason) → x ≡ y → Holds a log e y → Holds a log e x
holds_as a log e x y s h = subst (λ z. Holds a log e z) (sym s) h

reception_holds : (a : Agreement) (log : List Event) (p q : List ℕ) (m : Message) (l : LocalTree) → Left a log (Received p q m) l → IsReady a log (Received p q m) l → Makes l (Receives p m) → (w : List Message) → flights p q log ≡ w → Holds a log (Received p q m) (reason_by_oldest m (oldest_of w))
reception_holds a log p q m l t x d [] f = (record { left = l; ready = x; makes = d }, f)
reception_holds a log p q m l t x d (n ∷ w) f = elim (same_or_not n m) [
  | inl e ↦
      let awaits : Awaits a log p q =
      record {
        joined = x.joined;
        start = x.after.start;
        projected = x.after.projected;
        now = l;
        leads = x.after.leads;
        message = m;
        next = d.0;
        receives = d.1;
      } in
      holds_as a log (Received p q m) (reason_by_oldest m (Some n)) None (oldest_same m n e)
      (subst (λ z. IsPermitted a (log ++ Received p q z ∷ [])) e ((simulates a t.valid).oldest log t.permitted p q awaits n w f))
  | inr e ↦
      let other : n ≢ m = λ s. true≢false (sym (message_is n m s) ∙ e) in
      holds_as a log (Received p q m) (reason_by_oldest m (Some n)) (Some OtherFirst) (oldest_other m n other)
      (record { left = l; ready = x; makes = d }, n, w, f, other)
]

makes_holds : (a : Agreement) (log : List Event) (e : Event) (l : LocalTree) → Left a log e l → IsReady a log e l → Makes l (action_of e) → Holds a log e (reason_by_flights log e)
makes_holds a log (Join r) l t x d = absurd (true≢false (sym x.acts))
makes_holds a log (Sent p q m) l t x d =
    send_next a (given a t.valid) log t.permitted p x.joined x.after.start l d.0 x.after.projected x.after.leads q m d.1
makes_holds a log (Received p q m) l t x d = reception_holds a log p q m l t x d (flights p q log) refl

ready_holds : (a : Agreement) (log : List Event) (e : Event) (l : LocalTree) → Left a log e l → IsReady a log e l → Holds a log e (reason_by_type l log e)
ready_holds a log e l t x = elim (end_or_offers l (left_formed a log (subject_of e) l t.valid x.after)) [
  | inl i ↦
      holds_as a log e (reason_by_type l log e) (Some Done) (type_done l log e (ap is_end i))
      (record { left = l; ready = x; ended = λ act d. end_makes_none act (subst (λ k. Makes k act) i d) })
  | inr y ↦
      let o = offered_does l y.0 y.1 in
      elim (cases_Bool (has_choice l e)) [
        | inl h ↦
            let d = chosen_made l e h in
            holds_as a log e (reason_by_type l log e) (reason_by_flights log e) (type_makes l log e x.acts d) (makes_holds a log e l t x d)
        | inr n ↦
            holds_as a log e (reason_by_type l log e) (Some NotAllowed) (type_refuses l log e (made_not_end l y.0 o) n)
            (record { left = l; ready = x; other = y.0; makes = o; refuses = λ d. true≢false (sym (made_chosen l e x.acts d) ∙ n) })
      ]
]

join_holds : (a : Agreement) (log : List Event) (e : Event) (l : LocalTree) → Left a log e l → names_declared a.roles e ≡ true → is_action e ≡ false → has_joined (subject_of e) log ≡ false → IsPermitted a (log ++ e ∷ [])
join_holds a log (Join r) l t d s j = join_next a (given a t.valid) log t.permitted r d j
join_holds a log (Sent p q m) l t d s j = absurd (true≢false s)
join_holds a log (Received p q m) l t d s j = absurd (true≢false s)

at_holds : (a : Agreement) (log : List Event) (e : Event) (l : LocalTree) → Left a log e l → (d s j : Bool) → names_declared a.roles e ≡ d → is_action e ≡ s → has_joined (subject_of e) log ≡ j → Holds a log e (reason_at d s j (reason_by_type l log e))
at_holds a log e l t false s j ed es ej = ed
at_holds a log e l t true false true ed es ej = record { declared = ed; joins = es; joined = ej }
at_holds a log e l t true false false ed es ej = join_holds a log e l t ed es ej
at_holds a log e l t true true false ed es ej = record { declared = ed; acts = es; absent = ej }
at_holds a log e l t true true true ed es ej =
    ready_holds a log e l t (record { declared = ed; acts = es; joined = ej; after = t.after ed })

-- what the tests find is the reason, or that there is none
none_some : (r : Reason) → ◌≡◌ {A = Option Reason} None (Some r) → ⊥
none_some r e = cc e

some_same : (r s : Reason) → ◌≡◌ {A = Option Reason} (Some r) (Some s) → r ≡ s
some_same r s e = cc

pub finds : (a : Agreement) (log : List Event) (e : Event) (l : LocalTree) → Left a log e l → (found : Option Reason) → reason_after a log e l ≡ found → FindsReason a log e found
finds a log e l t found s = by_found found s (subst (λ x. Holds a log e x) s (at_holds a log e l t (names_declared a.roles e) (is_action e) (has_joined (subject_of e) log) refl refl refl))
  where
    by_found : (found : Option Reason) → reason_after a log e l ≡ found → Holds a log e found → FindsReason a log e found
    by_found None s h = record { permitted = h; none = λ r b. none_some r (sym s ∙ because_at a log e l t r b) }
    by_found (Some r) s h = record {
      refused = λ pm. none_some r (sym (permitted_at a log e l t pm) ∙ s);
      because = h;
      only = λ other b. some_same other r (sym (because_at a log e l t other b) ∙ s);
    }

-- after a permitted log there is such a type
subject_declared : (roles : List (List ℕ)) (e : Event) → names_declared roles e ≡ true → has_role (subject_of e) roles ≡ true
subject_declared roles (Join r) d = d
subject_declared roles (Sent p q m) d = (and_parts (has_role p roles) (has_role q roles) d).0
subject_declared roles (Received p q m) d = (and_parts (has_role p roles) (has_role q roles) d).1

pub some_left : (a : Agreement) → is_protocol a.roles a.global ≡ true → (log : List Event) → IsPermitted a log → (e : Event) → (l : LocalTree) × Left a log e l
some_left a v log pm e = elim (cases_Bool (names_declared a.roles e)) [
  | inl d ↦
      let y = type_after a log pm (subject_of e) (subject_declared a.roles e d) in
      (y.0, record { valid = v; permitted = pm; after = λ i. y.1 })
  | inr n ↦ (LocalEnd, record { valid = v; permitted = pm; after = λ i. absurd (true≢false (sym i ∙ n)) })
]

-- of every event after a permitted log: it may follow, or it may not, for one reason
one_reason : (a : Agreement) (log : List Event) (e : Event) (found : Option Reason) → FindsReason a log e found → HasOneReason a log e
one_reason a log e None h = inl h
one_reason a log e (Some r) h = inr (r, h)

pub determines_reason : (a : Agreement) → is_protocol a.roles a.global ≡ true → DeterminesReason a
determines_reason a v log pm e =
    let y = some_left a v log pm e in
    let found = reason_after a log e y.0 in
    one_reason a log e found (finds a log e y.0 y.1 found refl)
