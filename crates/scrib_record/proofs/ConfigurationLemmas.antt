-- The configuration of a conversation: what its machines and queues show of each log that leads to it, and where one
-- more event leads.
use Rattle.std.proofs.Common.{◌≡◌, ◌≢◌, ◌&&◌, ◌||◌, true, false, ℕ, zero, suc, ◌<◌, List, [], ◌∷◌, ◌++◌, Some, All, filter_map, length, map, set, slice_get, refl, sym, ap, subst, ◌∙◌, inl, inr, arith}
use Rattle.std.specs.Str.{bytes_eq}
use Rattle.std.proofs.lemmas.Bool.{and_parts, and_from, and_right, cases_Bool, true≢false, or_right}
use Rattle.std.proofs.lemmas.List.{append_cancel_left}
use Rattle.std.proofs.lemmas.Option.{same_Some}
use Rattle.scrib_types.specs.declared.message.Message.{Message}
use Rattle.scrib_types.specs.declared.event.Action.{Action}
use Rattle.scrib_types.specs.declared.event.Event.{Event}
use Rattle.scrib_types.specs.declared.event.Event.TheVariants.{Join, Sent, Received}
use Rattle.scrib_types.specs.Traces.{IsTrace}
use Rattle.scrib_types.specs.Agreement.{Agreement}
use Rattle.scrib_types.specs.Logs.{subject_of, action_of, is_action, is_action_of, is_join_of, own_actions, has_joined}
use Rattle.scrib_types.specs.Queues.{sent_message, received_message, sent, received}
use Rattle.scrib_machine.specs.declared.machine.Edge.{Edge}
use Rattle.scrib_machine.specs.Machines.{Steps, Path}
use Rattle.scrib_machine.specs.Paths.{step_is_trace, path_push, path_within}
use Rattle.scrib_queues.specs.Channels.{queue_of}
use Rattle.scrib_record.specs.declared.role_state.RoleState.{RoleState}
use Rattle.scrib_record.specs.declared.configuration.Configuration.{Configuration}
use Rattle.scrib_record.specs.RoleMachines.{IsMachineOf, AreMachinesOf}
use Rattle.scrib_record.specs.Following.{MayAct, IsOldest}
use Rattle.scrib_record.specs.Configurations.{IsRoleState, AreRoleStates, Flight, flight_of, exchanges_of, message_at, IsBetween, AreQueued, IsNumberedBy, AreFlying, LeadsTo, IsSameConfiguration, Others, IsAtFront}
use Rattle.scrib_record.specs.Places.{place_in}
use Rattle.scrib_record.proofs.Logs.{own_more, own_same, joined_on, or_false}
use Rattle.scrib_record.proofs.Queues.{sent_on, received_on, listed, grown, led, fly_still, fly_sent, fly_taken, listed_is}
use Rattle.scrib_record.proofs.RolePlaces.{bytes_same, bytes_itself, place_within, place_role, same_role, same_place, is_declared}

-- the machine at a role's place is the role's
machine_for : (a : Agreement) (ms : List (List (List Edge))) (r : List ℕ) (i : ℕ) (m : List (List Edge)) → AreMachinesOf a ms → place_in a.roles r ≡ Some i → slice_get ms i ≡ Some m → IsMachineOf a r m
machine_for a ms r i m w e at = w.each i r m (place_role a.roles r i e) at

-- and the state at its place is the role's
pub role_state_for : (a : Agreement) (ms : List (List (List Edge))) (log : List Event) (role_states : List RoleState) (r : List ℕ) (i : ℕ) (s : RoleState) → AreRoleStates a ms log role_states → place_in a.roles r ≡ Some i → slice_get role_states i ≡ Some s → IsRoleState ms log r i s
role_state_for a ms log role_states r i s st e at =
    let t = st r i e in subst (IsRoleState ms log r i) (same_Some t.0 s (sym t.1 ∙ at)) t.2

led_by : (ms : List (List (List Edge))) (log : List Event) (r : List ℕ) (i : ℕ) (s : RoleState) (m : List (List Edge)) → IsRoleState ms log r i s → slice_get ms i ≡ Some m → Path m 0 (own_actions r log) s.state
led_by ms log r i s m k at =
    subst (λ (x : List (List Edge)). Path x 0 (own_actions r log) s.state) (same_Some k.machine m (sym k.runs ∙ at)) k.led

-- each role's place has a state
pub role_state_within : (a : Agreement) (ms : List (List (List Edge))) (log : List Event) (c : Configuration) (r : List ℕ) (i : ℕ) → LeadsTo a ms log c → place_in a.roles r ≡ Some i → i < length c.role_states.items
role_state_within a ms log c r i st e = let n = place_within a.roles r i e in omega (arith, n, st.role_states)

-- a role at its place, with its state and machine
pub record IsAt (a : Agreement) (ms : List (List (List Edge))) (log : List Event) (r : List ℕ) (i : ℕ) (s : RoleState) (m : List (List Edge)) : Type 0 where
  pub place : place_in a.roles r ≡ Some i
  pub role_state : IsRoleState ms log r i s
  pub path : Path m 0 (own_actions r log) s.state
  pub runs : IsMachineOf a r m

pub is_at : (a : Agreement) (ms : List (List (List Edge))) (log : List Event) (c : Configuration) (r : List ℕ) (i : ℕ) (s : RoleState) (m : List (List Edge)) → AreMachinesOf a ms → LeadsTo a ms log c → place_in a.roles r ≡ Some i → slice_get c.role_states.items i ≡ Some s → slice_get ms i ≡ Some m → IsAt a ms log r i s m
is_at a ms log c r i s m w st e here at =
    let k = role_state_for a ms log c.role_states.items r i s st.states_are e here in
    record { place = e; role_state = k; path = led_by ms log r i s m k at; runs = machine_for a ms r i m w e at }

pub state_within : (a : Agreement) (ms : List (List (List Edge))) (log : List Event) (r : List ℕ) (i : ℕ) (s : RoleState) (m : List (List Edge)) → IsAt a ms log r i s m → s.state < length m
state_within a ms log r i s m k = path_within m k.runs.machine (own_actions r log) 0 s.state k.runs.machine.some k.path

-- a step of the machine is an action that the role may make
pub acts_on : (a : Agreement) (ms : List (List (List Edge))) (log : List Event) (r : List ℕ) (i : ℕ) (s : RoleState) (m : List (List Edge)) (act : Action) → IsAt a ms log r i s m → s.joined ≡ true → (n : ℕ) × Steps m s.state act n → MayAct a log r act
acts_on a ms log r i s m act k j h = record {
  declared = is_declared a.roles r i k.place;
  joined = sym k.role_state.joined ∙ j;
  local = k.runs.local;
  projected = k.runs.projected;
  trace = (step_is_trace k.runs.local m k.runs.machine k.runs.follows (own_actions r log) s.state k.path act).0 h;
}

pub acts_from : (a : Agreement) (ms : List (List (List Edge))) (log : List Event) (r : List ℕ) (i : ℕ) (s : RoleState) (m : List (List Edge)) (act : Action) → IsAt a ms log r i s m → MayAct a log r act → (s.joined ≡ true) × ((n : ℕ) × Steps m s.state act n)
acts_from a ms log r i s m act k h =
    let same : h.local ≡ k.runs.local = same_Some h.local k.runs.local (sym h.projected ∙ k.runs.projected) in
    let w = own_actions r log in (
      k.role_state.joined ∙ h.joined,
      (step_is_trace k.runs.local m k.runs.machine k.runs.follows w s.state k.path act).1 (subst (λ x. IsTrace x (w ++ act ∷ [])) same h.trace),
    )

-- the first message in flight is the oldest
pub front_oldest : (a : Agreement) (log : List Event) (flight : Flight) (p q : List ℕ) (i j : ℕ) (m : Message) → AreFlying a log flight → place_in a.roles p ≡ Some i → place_in a.roles q ≡ Some j → IsAtFront i j m flight → IsOldest p q m log
front_oldest a log flight p q i j m fly e f h = (h.0, fly p q i j e f ∙ ap (λ x. received p q log ++ x) h.1)

pub oldest_front : (a : Agreement) (log : List Event) (flight : Flight) (p q : List ℕ) (i j : ℕ) (m : Message) → AreFlying a log flight → place_in a.roles p ≡ Some i → place_in a.roles q ≡ Some j → IsOldest p q m log → IsAtFront i j m flight
oldest_front a log flight p q i j m fly e f h =
    (h.0, append_cancel_left (received p q log) (flight i j) (m ∷ h.0) (sym (fly p q i j e f) ∙ h.1))

-- states of roles
no_action : (r : List ℕ) (e : Event) → bytes_eq r (subject_of e) ≡ false → is_action_of r e ≡ false
no_action r e ne = and_right (is_action e) (bytes_eq r (subject_of e)) ne

no_join : (r : List ℕ) (e : Event) → bytes_eq r (subject_of e) ≡ false → is_join_of r e ≡ false
no_join r (Join s) ne = ne
no_join r (Sent p q m) ne = refl
no_join r (Received p q m) ne = refl

joined_still : (r : List ℕ) (log : List Event) (e : Event) → is_join_of r e ≡ false → has_joined r (log ++ e ∷ []) ≡ has_joined r log
joined_still r log e n = joined_on r log e ∙ ap (λ b. has_joined r log || b) n ∙ or_false (has_joined r log)

-- of a role that took no part in the event
role_state_still : (ms : List (List (List Edge))) (log : List Event) (e : Event) (r : List ℕ) (i : ℕ) (s : RoleState) → bytes_eq r (subject_of e) ≡ false → IsRoleState ms log r i s → IsRoleState ms (log ++ e ∷ []) r i s
role_state_still ms log e r i s ne k = record {
  machine = k.machine;
  runs = k.runs;
  joined = k.joined ∙ sym (joined_still r log e (no_join r e ne));
  led = subst (λ w. Path k.machine 0 w s.state) (sym (own_same r log e (no_action r e ne))) k.led;
}

-- of the event's role
pub role_state_joined : (ms : List (List (List Edge))) (log : List Event) (r : List ℕ) (i : ℕ) (s t : RoleState) → t.joined ≡ true → t.state ≡ s.state → IsRoleState ms log r i s → IsRoleState ms (log ++ Join r ∷ []) r i t
role_state_joined ms log r i s t j e k = record {
  machine = k.machine;
  runs = k.runs;
  joined = j ∙ sym (joined_on r log (Join r) ∙ or_right (has_joined r log) (bytes_eq r r) (bytes_itself r));
  led = subst (λ n. Path k.machine 0 (own_actions r (log ++ Join r ∷ [])) n) (sym e) (subst (λ w. Path k.machine 0 w s.state) (sym (own_same r log (Join r) refl)) k.led);
}

role_state_acted : (a : Agreement) (ms : List (List (List Edge))) (log : List Event) (e : Event) (i : ℕ) (s t : RoleState) (m : List (List Edge)) → is_action_of (subject_of e) e ≡ true → is_join_of (subject_of e) e ≡ false → slice_get ms i ≡ Some m → IsAt a ms log (subject_of e) i s m → s.joined ≡ true → t.joined ≡ true → Steps m s.state (action_of e) t.state → IsRoleState ms (log ++ e ∷ []) (subject_of e) i t
role_state_acted a ms log e i s t m is other at k j tj step = record {
  machine = m;
  runs = at;
  joined = tj ∙ sym j ∙ k.role_state.joined ∙ sym (joined_still (subject_of e) log e other);
  led =
      subst (λ w. Path m 0 w t.state) (sym (own_more (subject_of e) log e is))
      (path_push m (own_actions (subject_of e) log) (action_of e) 0 s.state t.state k.path step);
}

pub role_state_sent : (a : Agreement) (ms : List (List (List Edge))) (log : List Event) (p q : List ℕ) (x : Message) (i : ℕ) (s t : RoleState) (m : List (List Edge)) → slice_get ms i ≡ Some m → IsAt a ms log p i s m → s.joined ≡ true → t.joined ≡ true → Steps m s.state (action_of (Sent p q x)) t.state → IsRoleState ms (log ++ Sent p q x ∷ []) p i t
role_state_sent a ms log p q x i s t m = role_state_acted a ms log (Sent p q x) i s t m (bytes_itself p) refl

pub role_state_received : (a : Agreement) (ms : List (List (List Edge))) (log : List Event) (p q : List ℕ) (x : Message) (i : ℕ) (s t : RoleState) (m : List (List Edge)) → slice_get ms i ≡ Some m → IsAt a ms log q i s m → s.joined ≡ true → t.joined ≡ true → Steps m s.state (action_of (Received p q x)) t.state → IsRoleState ms (log ++ Received p q x ∷ []) q i t
role_state_received a ms log p q x i s t m = role_state_acted a ms log (Received p q x) i s t m (bytes_itself q) refl

get_set : (xs : List RoleState) (i : ℕ) (s x : RoleState) → slice_get xs i ≡ Some x → slice_get (set xs i s) i ≡ Some s
get_set [] i s x e = absurd (cc)
get_set (y ∷ xs) zero s x e = refl
get_set (y ∷ xs) (suc i) s x e = get_set xs i s x e

get_set_other : (xs : List RoleState) (i k : ℕ) (s : RoleState) → k ≢ i → slice_get (set xs i s) k ≡ slice_get xs k
get_set_other [] i k s n = refl
get_set_other (y ∷ xs) zero zero s n = absurd (n refl)
get_set_other (y ∷ xs) zero (suc k) s n = refl
get_set_other (y ∷ xs) (suc i) zero s n = refl
get_set_other (y ∷ xs) (suc i) (suc k) s n = get_set_other xs i k s (λ e. n (ap suc e))

role_states_on : (a : Agreement) (ms : List (List (List Edge))) (log : List Event) (old new : List RoleState) (e : Event) (i : ℕ) (s : RoleState) → AreRoleStates a ms log old → place_in a.roles (subject_of e) ≡ Some i → new ≡ set old i s → IsRoleState ms (log ++ e ∷ []) (subject_of e) i s → AreRoleStates a ms (log ++ e ∷ []) new
role_states_on a ms log old new e i s st at is k r j here =
    elim (cases_Bool (bytes_eq r (subject_of e))) [
      | inl b ↦
          let who : subject_of e ≡ r = sym (bytes_same r (subject_of e) b) in
          let where_ : i ≡ j = same_place a.roles (subject_of e) r i j who at here in
          let t = st (subject_of e) i at in
          let now : slice_get new i ≡ Some s = ap (λ (x : List RoleState). slice_get x i) is ∙ get_set old i s t.0 t.1 in
          (s, subst (λ n. slice_get new n ≡ Some s) where_ now, subst (λ n. IsRoleState ms (log ++ e ∷ []) r n s) where_ (subst (λ x. IsRoleState ms (log ++ e ∷ []) x i s) who k))
      | inr b ↦
          let other : j ≢ i = λ n. true≢false (sym (bytes_itself r) ∙ ap (bytes_eq r) (same_role a.roles r (subject_of e) i (here ∙ ap Some n) at) ∙ b) in
          let t = st r j here in
          (t.0, ap (λ (x : List RoleState). slice_get x j) is ∙ get_set_other old i j s other ∙ t.1, role_state_still ms log e r j t.0 b t.2)
    ]

-- messages in flight
pub flying_still : (a : Agreement) (log : List Event) (r : List ℕ) (flight : Flight) → AreFlying a log flight → AreFlying a (log ++ Join r ∷ []) flight
flying_still a log r flight fly p q i j e f =
    rw (sent_on p q log (Join r), received_on p q log (Join r)) (fly_still (sent p q log) (received p q log) (flight i j) (fly p q i j e f))

-- whether two pairs of roles are equal
elsewhere : (roles : List (List ℕ)) (p q s t : List ℕ) (i j k l : ℕ) → place_in roles p ≡ Some i → place_in roles q ≡ Some j → place_in roles s ≡ Some k → place_in roles t ≡ Some l → (bytes_eq s p && bytes_eq t q) ≡ false → ¬ ((k ≡ i) × (l ≡ j))
elsewhere roles p q s t i j k l ep eq es et b both =
    let sp : s ≡ p = same_role roles s p i (es ∙ ap Some both.0) ep in
    let tq : t ≡ q = same_role roles t q j (et ∙ ap Some both.1) eq in
    let yes : (bytes_eq s p && bytes_eq t q) ≡ true = rw (sp, tq) (and_from (bytes_eq p p) (bytes_eq q q) (bytes_itself p) (bytes_itself q)) in
    true≢false (sym yes ∙ b)

record SamePair (i j k l : ℕ) : Type 0 where
  pub first : k ≡ i
  pub second : l ≡ j

here : (roles : List (List ℕ)) (p q s t : List ℕ) (i j k l : ℕ) → place_in roles p ≡ Some i → place_in roles q ≡ Some j → place_in roles s ≡ Some k → place_in roles t ≡ Some l → (bytes_eq s p && bytes_eq t q) ≡ true → SamePair i j k l
here roles p q s t i j k l ep eq es et b =
    let y = and_parts (bytes_eq s p) (bytes_eq t q) b in
    record { first = same_place roles s p k i (bytes_same s p y.0) es ep; second = same_place roles t q l j (bytes_same t q y.1) et eq }

queue_grown : (roles : List (List ℕ)) (p q s t : List ℕ) (m : Message) (i j k l : ℕ) (old new : Flight) → place_in roles p ≡ Some i → place_in roles q ≡ Some j → place_in roles s ≡ Some k → place_in roles t ≡ Some l → new i j ≡ old i j ++ m ∷ [] → Others i j old new → new k l ≡ grown (bytes_eq s p && bytes_eq t q) (old k l) m
queue_grown roles p q s t m i j k l old new ep eq es et pushed others =
    elim (cases_Bool (bytes_eq s p && bytes_eq t q)) [
      | inl b ↦ let z = here roles p q s t i j k l ep eq es et b in rw (b, z.first, z.second) pushed
      | inr b ↦ rw b (others k l (elsewhere roles p q s t i j k l ep eq es et b))
    ]

pub flying_sent : (a : Agreement) (log : List Event) (s u : List ℕ) (m : Message) (i j : ℕ) (old new : Flight) → AreFlying a log old → place_in a.roles s ≡ Some i → place_in a.roles u ≡ Some j → new i j ≡ old i j ++ m ∷ [] → Others i j old new → AreFlying a (log ++ Sent s u m ∷ []) new
flying_sent a log s u m i j old new fly es eu pushed others p q k l e f =
    let ev = Sent s u m in
    let b = bytes_eq p s && bytes_eq q u in
    let added : filter_map (sent_message p q) (ev ∷ []) ≡ listed b m = listed_is b m (sent_message p q) ev refl in
    let now = queue_grown a.roles s u p q m i j k l old new es eu e f pushed others in
    rw (sent_on p q log ev, received_on p q log ev)
    (ap (λ x. sent p q log ++ x) added
    ∙ fly_sent b m (sent p q log) (received p q log) (old k l) (fly p q k l e f)
    ∙ ap (λ x. (received p q log ++ []) ++ x) (sym now))

queue_led : (roles : List (List ℕ)) (p q s t : List ℕ) (m : Message) (i j k l : ℕ) (old new : Flight) → place_in roles p ≡ Some i → place_in roles q ≡ Some j → place_in roles s ≡ Some k → place_in roles t ≡ Some l → old i j ≡ m ∷ new i j → Others i j old new → old k l ≡ led (bytes_eq s p && bytes_eq t q) m (new k l)
queue_led roles p q s t m i j k l old new ep eq es et popped others =
    elim (cases_Bool (bytes_eq s p && bytes_eq t q)) [
      | inl b ↦ let z = here roles p q s t i j k l ep eq es et b in rw (b, z.first, z.second) popped
      | inr b ↦ rw b (sym (others k l (elsewhere roles p q s t i j k l ep eq es et b)))
    ]

pub flying_taken : (a : Agreement) (log : List Event) (s u : List ℕ) (m : Message) (i j : ℕ) (old new : Flight) → AreFlying a log old → place_in a.roles s ≡ Some i → place_in a.roles u ≡ Some j → old i j ≡ m ∷ new i j → Others i j old new → AreFlying a (log ++ Received s u m ∷ []) new
flying_taken a log s u m i j old new fly es eu popped others p q k l e f =
    let ev = Received s u m in
    let b = bytes_eq p s && bytes_eq q u in
    let added : filter_map (received_message p q) (ev ∷ []) ≡ listed b m = listed_is b m (received_message p q) ev refl in
    let then = queue_led a.roles s u p q m i j k l old new es eu e f popped others in
    rw (sent_on p q log ev, received_on p q log ev)
    (fly_taken b m (sent p q log) (received p q log) (old k l) (new k l) (fly p q k l e f) then
    ∙ ap (λ x. (received p q log ++ x) ++ new k l) (sym added))

-- the configuration that an event leads to
pub led_on : (a : Agreement) (ms : List (List (List Edge))) (log : List Event) (c d : Configuration) (e : Event) (i : ℕ) (s : RoleState) → LeadsTo a ms log c → place_in a.roles (subject_of e) ≡ Some i → d.role_states.items ≡ set c.role_states.items i s → IsRoleState ms (log ++ e ∷ []) (subject_of e) i s → d.queues.roles ≡ c.queues.roles → d.numbering ≡ c.numbering → AreQueued (exchanges_of c.numbering) d.queues → AreFlying a (log ++ e ∷ []) (flight_of (exchanges_of c.numbering) d.queues) → LeadsTo a ms (log ++ e ∷ []) d
led_on a ms log c d e i s st at is k roles same queued fly = record {
  role_states = ap length is ∙ length_set c.role_states.items i s ∙ st.role_states;
  queues = roles ∙ st.queues;
  states_are = role_states_on a ms log c.role_states.items d.role_states.items e i s st.states_are at is k;
  follow = st.follow;
  numbered = subst (IsNumberedBy a.roles ms) (sym same) st.numbered;
  queued = subst (λ n. AreQueued (exchanges_of n) d.queues) (sym same) queued;
  flying = subst (λ n. AreFlying a (log ++ e ∷ []) (flight_of (exchanges_of n) d.queues)) (sym same) fly;
}
  where
    length_set : (xs : List RoleState) (i : ℕ) (s : RoleState) → length (set xs i s) ≡ length xs
    length_set [] i s = refl
    length_set (x ∷ xs) zero s = refl
    length_set (x ∷ xs) (suc i) s = ap suc (length_set xs i s)

pub led_same : (a : Agreement) (ms : List (List (List Edge))) (log : List Event) (c d : Configuration) → IsSameConfiguration c d → LeadsTo a ms log c → LeadsTo a ms log d
led_same a ms log c d same st = record {
  role_states = ap length same.role_states ∙ st.role_states;
  queues = same.roles ∙ st.queues;
  states_are = subst (AreRoleStates a ms log) (sym same.role_states) st.states_are;
  follow = st.follow;
  numbered = subst (IsNumberedBy a.roles ms) (sym same.numbering) st.numbered;
  queued = λ i j.
      subst (λ n. All (IsBetween (exchanges_of n) i j) (queue_of d.queues i j)) (sym same.numbering)
      (subst (All (IsBetween (exchanges_of c.numbering) i j)) (sym (same.messages i j)) (st.queued i j));
  flying = λ p q i j e f.
      subst (λ n. sent p q log ≡ received p q log ++ flight_of (exchanges_of n) d.queues i j) (sym same.numbering)
      (st.flying p q i j e f ∙ ap (λ ks. received p q log ++ map (message_at (exchanges_of c.numbering)) ks) (sym (same.messages i j)));
}
