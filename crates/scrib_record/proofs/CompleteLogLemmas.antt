-- Complete logs, read off the configuration that a log leads to.
use Rattle.std.proofs.Common.{◌≡◌, ◌↔◌, ◌==◌, ◌&&◌, ◌<◌, ◌≤◌, ◌+◌, Bool, true, false, IsTrue, ℕ, List, [], ◌∷◌, ◌++◌, Option, Some, None, All, Contains, filter_map, get_or, length, map, drop, slice_get, refl, sym, ap, subst, ◌∙◌, inl, inr, arith}
use Rattle.std.specs.List.{AllByRecursion}
use Rattle.std.specs.Str.{bytes_eq}
use Rattle.std.proofs.lemmas.Bool.{and_parts, cases_Bool, cases_eq, true≢false}
use Rattle.std.proofs.lemmas.Bool.Decides.{Decides-eqb}
use Rattle.std.proofs.lemmas.List.{drop_all, drop-append-le}
use Rattle.std.proofs.lemmas.Option.{same_Some, slice_get-get_or, slice_get_within}
use Rattle.scrib_types.specs.declared.message.Message.{Message}
use Rattle.scrib_types.specs.declared.event.Action.{Action}
use Rattle.scrib_types.specs.declared.event.Event.{Event}
use Rattle.scrib_types.specs.declared.event.Event.TheVariants.{Join, Sent, Received}
use Rattle.scrib_types.specs.Agreement.{Agreement}
use Rattle.scrib_types.specs.Logs.{subject_of, is_action_of, action_of, own_actions}
use Rattle.scrib_types.specs.Permitted.{IsPermitted}
use Rattle.scrib_types.specs.Queues.{sent_message, sent, received, flights}
use Rattle.scrib_types.specs.Traces.{IsTrace}
use Rattle.scrib_types.specs.WellFormed.{has_role, is_protocol}
use Rattle.scrib_machine.specs.declared.machine.Edge.{Edge}
use Rattle.scrib_machine.specs.Machines.{Steps}
use Rattle.scrib_machine.specs.Paths.{step_is_trace}
use Rattle.scrib_queues.specs.Channels.{AllEmpty, queue_of}
use Rattle.scrib_record.specs.declared.role_state.RoleState.{RoleState}
use Rattle.scrib_record.specs.declared.configuration.Configuration.{Configuration}
use Rattle.scrib_types.specs.Complete.{HasEnded, IsComplete}
use Rattle.scrib_record.specs.CompleteRecords.{HaveEnded}
use Rattle.scrib_record.specs.Configurations.{IsBetween, IsNumberedBy, LeadsTo, exchanges_of, in_flight, message_at}
use Rattle.scrib_record.specs.Exchanges.{AreExchanges, Numbered}
use Rattle.scrib_record.specs.Places.{place_in}
use Rattle.scrib_record.proofs.ConfigurationLemmas.{IsAt}
use Rattle.scrib_record.proofs.MachineLemmas.{valid}
use Rattle.scrib_record.proofs.Partners.{IsAmong, own_among}
use Rattle.scrib_record.proofs.RolePlaces.{bytes_same, is_declared, not_declared, place_at, place_for, place_role}

-- ---- a role at its end

no_edges : (m : List (List Edge)) (i : ℕ) (act : Action) (n : ℕ) → slice_get m i ≡ Some [] → Steps m i act n → ⊥
no_edges m i act n here s =
    let none : s.edges ≡ [] = same_Some s.edges [] (sym s.here ∙ here) in
    let there : Contains [] (record { action = act; next = n }) = subst (λ (x : List Edge). Contains x (record { action = act; next = n })) none s.there in
    absurd (omega (arith, there.1))

-- a state without edges is that of a role at its end
ended_there : (a : Agreement) (ms : List (List (List Edge))) (log : List Event) (r : List ℕ) (i : ℕ) (s : RoleState) (m : List (List Edge)) → IsAt a ms log r i s m → slice_get m s.state ≡ Some [] → HasEnded a log r
ended_there a ms log r i s m k here l projected act t =
    let same : l ≡ k.runs.local = same_Some l k.runs.local (sym projected ∙ k.runs.projected) in
    let w = own_actions r log in
    let step = (step_is_trace k.runs.local m k.runs.machine k.runs.follows w s.state k.path act).1 (subst (λ x. IsTrace x (w ++ act ∷ [])) same t) in
    no_edges m s.state act step.0 here step.1

-- a role at its end has no edge
end_has_none : (a : Agreement) (ms : List (List (List Edge))) (log : List Event) (r : List ℕ) (i : ℕ) (s : RoleState) (m : List (List Edge)) (es : List Edge) → IsAt a ms log r i s m → slice_get m s.state ≡ Some es → HasEnded a log r → es ≡ []
end_has_none a ms log r i s m [] k here h = refl
end_has_none a ms log r i s m (e ∷ es) k here h =
    let step : Steps m s.state e.action e.next = record { edges = e ∷ es; here = here; there = (0, omega arith, refl) } in
    let t = (step_is_trace k.runs.local m k.runs.machine k.runs.follows (own_actions r log) s.state k.path e.action).0 (e.next, step) in
    absurd (h k.runs.local k.runs.projected e.action t)

no_length : (es : List Edge) → length es ≡ 0 → es ≡ []
no_length [] e = refl
no_length (x ∷ es) e = absurd (omega (arith, e))

-- whether the state has no edge is whether the role is at its end
pub ended_test : (a : Agreement) (ms : List (List (List Edge))) (log : List Event) (r : List ℕ) (i : ℕ) (s : RoleState) (m : List (List Edge)) (es : List Edge) (b : Bool) → IsAt a ms log r i s m → slice_get m s.state ≡ Some es → b ≡ (length es == 0) → IsTrue b ↔ HasEnded a log r
ended_test a ms log r i s m es b k here e = (
  λ t. ended_there a ms log r i s m k (here ∙ ap (λ (x : List Edge). Some x) (no_length es ((Decides-eqb (length es) 0).0 (sym e ∙ t)))),
  λ h. e ∙ (Decides-eqb (length es) 0).1 (ap length (end_has_none a ms log r i s m es k here h)),
)

-- ---- all roles, one after another

-- the roles up to the i-th are at their ends
abbrev pub EndedSoFar : Agreement → List Event → ℕ → Type 0
EndedSoFar a log i = (k : ℕ) (r : List ℕ) → k < i → slice_get a.roles k ≡ Some r → HasEnded a log r

-- the role at an index has it as its place
pub role_there : (a : Agreement) (i : ℕ) → is_protocol a.roles a.global ≡ true → i < length a.roles → (r : List ℕ) × (slice_get a.roles i ≡ Some r) × (place_in a.roles r ≡ Some i)
role_there a i v below =
    let r : List ℕ = get_or a.roles i [] in
    let here : slice_get a.roles i ≡ Some r = slice_get-get_or a.roles i [] below in
    (r, here, place_at a.roles r i (valid a.roles a.global v).differ here)

pub ended_more : (a : Agreement) (log : List Event) (i : ℕ) (r : List ℕ) → slice_get a.roles i ≡ Some r → EndedSoFar a log i → HasEnded a log r → EndedSoFar a log (i + 1)
ended_more a log i r there before ended k q within here = elim (cases_eq k i) [
  | inl same ↦
      let who : r ≡ q = same_Some r q (sym there ∙ ap (slice_get a.roles) (sym same) ∙ here) in
      subst (HasEnded a log) who ended
  | inr differ ↦ before k q (omega (arith, within, differ)) here
]

pub all_ended : (a : Agreement) (log : List Event) (i : ℕ) → length a.roles ≤ i → EndedSoFar a log i → HaveEnded a log
all_ended a log i long h r d =
    let at = place_for a.roles r d in
    let here : slice_get a.roles at.0 ≡ Some r = place_role a.roles r at.0 at.1 in
    let within : at.0 < length a.roles = slice_get_within a.roles at.0 r here in
    h at.0 r (omega (arith, within, long)) here

-- ---- messages in flight

-- one event more in front
sent_skip : (h : Event → Option Message) (e : Event) (log : List Event) → h e ≡ None → filter_map h (e ∷ log) ≡ filter_map h log
sent_skip h e log i = rw i

-- a role that is not declared sent nothing
sent_by_nobody : (roles : List (List ℕ)) (p q : List ℕ) (log : List Event) → has_role p roles ≡ false → AllByRecursion (λ e. has_role (subject_of e) roles ≡ true) log → sent p q log ≡ []
sent_by_nobody roles p q [] none d = refl
sent_by_nobody roles p q (e ∷ log) none d = sent_skip (sent_message p q) e log (by e d.0) ∙ sent_by_nobody roles p q log none d.1
  where
    by : (e : Event) → has_role (subject_of e) roles ≡ true → sent_message p q e ≡ None
    by (Join r) h = refl
    by (Received s t m) h = refl
    by (Sent s t m) h =
        elim (cases_Bool (bytes_eq p s)) [
          | inl same ↦ absurd (true≢false (sym h ∙ ap (λ x. has_role x roles) (sym (bytes_same p s same)) ∙ none))
          | inr other ↦ rw other
        ]

-- nothing was sent to a role that is not declared
sent_to_nobody : (roles : List (List ℕ)) (p q : List ℕ) (log : List Event) → has_role q roles ≡ false → AllByRecursion (IsAmong roles) (own_actions p log) → sent p q log ≡ []
sent_to_nobody roles p q [] none all = refl
sent_to_nobody roles p q (e ∷ log) none all =
    elim (cases_Bool (is_action_of p e)) [
      | inl own ↦
          let both = subst (λ (w : List Action). AllByRecursion (IsAmong roles) w) (own_first p e log own) all in
          sent_skip (sent_message p q) e log (to_other e both.0) ∙ sent_to_nobody roles p q log none both.1
      | inr other ↦
          let rest = subst (λ (w : List Action). AllByRecursion (IsAmong roles) w) (own_later p e log other) all in
          sent_skip (sent_message p q) e log (by_other e other) ∙ sent_to_nobody roles p q log none rest
    ]
  where
    own_first : (p : List ℕ) (e : Event) (log : List Event) → is_action_of p e ≡ true → own_actions p (e ∷ log) ≡ action_of e ∷ own_actions p log
    own_first p e log own = rw own

    own_later : (p : List ℕ) (e : Event) (log : List Event) → is_action_of p e ≡ false → own_actions p (e ∷ log) ≡ own_actions p log
    own_later p e log other = rw other

    to_other : (e : Event) → IsAmong roles (action_of e) → sent_message p q e ≡ None
    to_other (Join r) h = refl
    to_other (Received s t m) h = refl
    to_other (Sent s t m) h =
        elim (cases_Bool (bytes_eq p s && bytes_eq q t)) [
          | inl both ↦
              let to = and_parts (bytes_eq p s) (bytes_eq q t) both in
              absurd (true≢false (sym h ∙ ap (λ x. has_role x roles) (sym (bytes_same q t to.1)) ∙ none))
          | inr other ↦ rw other
        ]

    by_other : (e : Event) → is_action_of p e ≡ false → sent_message p q e ≡ None
    by_other (Join r) h = refl
    by_other (Received s t m) h = refl
    by_other (Sent s t m) h = rw h

-- what was sent and not received is in flight
flights_are : (p q : List ℕ) (log : List Event) (flight : List Message) → sent p q log ≡ received p q log ++ flight → flights p q log ≡ flight
flights_are p q log flight e = ap (drop (length (received p q log))) e ∙ past (received p q log) flight
  where
    past : (xs ys : List Message) → drop (length xs) (xs ++ ys) ≡ ys
    past xs ys = drop-append-le (length xs) xs ys (omega arith) ∙ ap (λ z. z ++ ys) (drop_all (length xs) xs (omega arith))

nothing_flies : (p q : List ℕ) (log : List Event) → sent p q log ≡ [] → flights p q log ≡ []
nothing_flies p q log none = ap (drop (length (received p q log))) none ∙ drop_all (length (received p q log)) [] (omega arith)

-- ---- the log and the configuration

module _ (a : Agreement) (ms : List (List (List Edge))) (log : List Event) (c : Configuration) (st : LeadsTo a ms log c) where
  -- empty queues: nothing is in flight
  none_in_flight : is_protocol a.roles a.global ≡ true → IsPermitted a log → AllEmpty c.queues → (p q : List ℕ) → flights p q log ≡ []
  none_in_flight v permitted empty p q = by (place_in a.roles p) (place_in a.roles q) refl refl
    where
      by : (x y : Option ℕ) → place_in a.roles p ≡ x → place_in a.roles q ≡ y → flights p q log ≡ []
      by None y e f = nothing_flies p q log (sent_by_nobody a.roles p q log (not_declared a.roles p e) permitted.declared)
      by (Some i) None e f =
          let t = permitted.traces p (is_declared a.roles p i e) in
          nothing_flies p q log (sent_to_nobody a.roles p q log (not_declared a.roles q f) (own_among a log p t.0 (valid a.roles a.global v).formed t.1 t.2))
      by (Some i) (Some j) e f =
          flights_are p q log (in_flight c i j) (st.flying p q i j e f) ∙ ap (λ (ks : List ℕ). map (message_at (exchanges_of c.numbering)) ks) (empty i j)

  -- nothing is in flight: empty queues
  none_queued : ((p q : List ℕ) → flights p q log ≡ []) → AllEmpty c.queues
  none_queued none i j = by (queue_of c.queues i j) refl
    where
      exchanges : (o : Option Numbered) → IsNumberedBy a.roles ms o → AreExchanges a.roles (exchanges_of o)
      exchanges None h = absurd h
      exchanges (Some n) h = h.exchanges

      by : (ks : List ℕ) → queue_of c.queues i j ≡ ks → queue_of c.queues i j ≡ []
      by [] e = e
      by (k ∷ ks) e =
          let es = exchanges_of c.numbering in
          let between : IsBetween es i j k = subst (All (IsBetween es i j)) e (st.queued i j) 0 k (omega arith) in
          let x = (exchanges c.numbering st.numbered).each k between.0 between.1 in
          let flying = st.flying x.sender x.receiver i j (x.from ∙ ap (λ (n : ℕ). Some n) between.2) (x.to ∙ ap (λ (n : ℕ). Some n) between.3) in
          let none_left : in_flight c i j ≡ [] = sym (flights_are x.sender x.receiver log (in_flight c i j) flying) ∙ none x.sender x.receiver in
          let some_left : in_flight c i j ≡ message_at es k ∷ map (message_at es) ks = ap (map (message_at es)) e in
          let bad : [] ≡ message_at es k ∷ map (message_at es) ks = sym none_left ∙ some_left in
          absurd (cc)

  -- each role is at its end and the queues are empty exactly where the log is complete
  pub complete_test : (ended empty : Bool) → is_protocol a.roles a.global ≡ true → IsPermitted a log → IsTrue ended ↔ HaveEnded a log → ended ≡ true → IsTrue empty ↔ AllEmpty c.queues → IsTrue empty ↔ IsComplete a log
  complete_test ended empty v permitted ends all queues = (
    λ t. record { permitted = permitted; ended = ends.0 all; empty = none_in_flight v permitted (queues.0 t) },
    λ h. queues.1 (none_queued h.empty),
  )

-- a role that is not at its end: the log is not complete
pub not_complete : (a : Agreement) (log : List Event) (b : Bool) → IsTrue b ↔ HaveEnded a log → b ≡ false → IsComplete a log → ⊥
not_complete a log b is e h = true≢false (sym (is.1 h.ended) ∙ e)
