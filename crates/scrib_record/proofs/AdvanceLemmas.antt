-- The results of a configuration at an event.
use Rattle.std.proofs.Common.{◌≡◌, Bool, true, false, not, ℕ, ◌<◌, List, [], ◌∷◌, ◌++◌, Option, Some, None, Contains, length, get_or, nat_lt, set, slice_get, refl, sym, ap, subst, ◌∙◌, arith}
use Rattle.std.proofs.lemmas.Bool.{true≢false, ltb-true}
use Rattle.std.proofs.lemmas.Option.{same_Some, slice_get_read}
use Rattle.scrib_types.specs.declared.message.Message.{Message}
use Rattle.scrib_types.specs.declared.event.Action.{Action}
use Rattle.scrib_types.specs.declared.event.Action.TheVariants.{Sends, Receives}
use Rattle.scrib_types.specs.declared.event.Event.{Event}
use Rattle.scrib_types.specs.declared.event.Event.TheVariants.{Join, Sent, Received}
use Rattle.scrib_types.specs.Agreement.{Agreement}
use Rattle.scrib_types.specs.WellFormed.{is_protocol, well_formed}
use Rattle.scrib_machine.specs.declared.machine.Edge.{Edge}
use Rattle.scrib_machine.specs.Machines.{Steps}
use Rattle.scrib_queues.specs.Channels.{Channels, SameElsewhere, IsTaken, queue_of}
use Rattle.scrib_record.specs.declared.role_state.RoleState.{RoleState}
use Rattle.scrib_record.specs.declared.configuration.Configuration.{Configuration}
use Rattle.scrib_record.specs.RoleMachines.{AreMachinesOf}
use Rattle.scrib_record.specs.Following.{MayAct, MayFollow}
use Rattle.scrib_record.specs.declared.numbered_edge.NumberedEdge.TheVariants as edges
use Rattle.scrib_record.specs.Configurations.{AreFlying, AreQueued, LeadsTo, IsBetween, IsNumberedBy, IsAtFront, IsNext, exchanges_of, flight_of, in_flight, message_at}
use Rattle.scrib_record.specs.Exchanges.{IsNumberOf, IsAbsent, HasRow, Numbered, IsNumberingOf, row_at}
use Rattle.scrib_record.specs.Places.{place_in}
use Rattle.scrib_record.proofs.FlightLemmas.{others_same, pushed, taken, queued_pushed, queued_taken}
use Rattle.scrib_record.proofs.NumberingLemmas.{same_number, is_row, has_row, send_steps, reception_steps, numbered_send, numbered_reception}
use Rattle.scrib_record.proofs.RolePlaces.{place_at, place_for, place_role, place_within, not_declared, is_declared}
use Rattle.scrib_record.proofs.MachineLemmas.{valid}
use Rattle.scrib_record.proofs.Partners.{acts_among}
use Rattle.scrib_record.proofs.ConfigurationLemmas.{IsAt, is_at, state_within, role_state_for, role_state_within, acts_on, acts_from, front_oldest, oldest_front, role_state_joined, role_state_sent, role_state_received, flying_still, flying_sent, flying_taken, led_on}

-- the result of a search of the roles, under another name for these
pub place_is : (roles known : List (List ℕ)) (r : List ℕ) (o x : Option ℕ) → roles ≡ known → o ≡ place_in roles r → o ≡ x → place_in known r ≡ x
place_is roles known r o x same at is = ap (λ (rs : List (List ℕ)). place_in rs r) (sym same) ∙ sym at ∙ is

-- the element that was read at an index
pub read_at : {X : Type 0} (xs known : List X) (i : ℕ) (x : X) → xs ≡ known → i < length xs → x ≡ get_or xs i x → slice_get known i ≡ Some x
read_at xs known i x same n is = ap (λ ys. slice_get ys i) (sym same) ∙ slice_get_read xs (length xs) i x refl n is

pub role_state_read : (a : Agreement) (ms : List (List (List Edge))) (log : List Event) (c : Configuration) (r : List ℕ) (i : ℕ) (s : RoleState) → LeadsTo a ms log c → place_in a.roles r ≡ Some i → s ≡ get_or c.role_states.items i s → slice_get c.role_states.items i ≡ Some s
role_state_read a ms log c r i s st e is = read_at c.role_states.items c.role_states.items i s refl (role_state_within a ms log c r i st e) is

-- a role that had joined when its state was read has joined when it is read again
pub joined_again : (a : Agreement) (ms : List (List (List Edge))) (log : List Event) (c : Configuration) (r : List ℕ) (i : ℕ) (s t : RoleState) → LeadsTo a ms log c → place_in a.roles r ≡ Some i → s ≡ get_or c.role_states.items i s → t ≡ get_or c.role_states.items i t → s.joined ≡ true → t.joined ≡ true
joined_again a ms log c r i s t st e is again j =
    let same : t ≡ s = same_Some t s (sym (role_state_read a ms log c r i t st e again) ∙ role_state_read a ms log c r i s st e is) in
    ap (λ (x : RoleState). x.joined) same ∙ j

pub machine_read : (a : Agreement) (ms xs : List (List (List Edge))) (r : List ℕ) (i : ℕ) (m : List (List Edge)) → AreMachinesOf a ms → xs ≡ ms → place_in a.roles r ≡ Some i → m ≡ get_or xs i m → slice_get ms i ≡ Some m
machine_read a ms xs r i m w same e is =
    let n : i < length xs = omega (arith, place_within a.roles r i e, w.count, ap length same) in read_at xs ms i m same n is

-- the role, its state and its machine, as they were read
pub at_read : (a : Agreement) (ms xs : List (List (List Edge))) (log : List Event) (c : Configuration) (r : List ℕ) (i : ℕ) (s : RoleState) (m : List (List Edge)) → AreMachinesOf a ms → LeadsTo a ms log c → place_in a.roles r ≡ Some i → s ≡ get_or c.role_states.items i s → xs ≡ ms → m ≡ get_or xs i m → IsAt a ms log r i s m
at_read a ms xs log c r i s m w st e role_state same is =
    is_at a ms log c r i s m w st e (role_state_read a ms log c r i s st e role_state) (machine_read a ms xs r i m w same e is)

-- a role that is at the hinted place has that place
pub hinted : (a : Agreement) (xs : List (List ℕ)) (r x : List ℕ) (i : ℕ) → is_protocol a.roles a.global ≡ true → xs ≡ a.roles → true ≡ nat_lt i (length xs) → x ≡ get_or xs i x → r ≡ x → Some i ≡ place_in a.roles r
hinted a xs r x i v same n is e =
    let there : slice_get a.roles i ≡ Some x = read_at xs a.roles i x same (ltb-true i (length xs) (sym n)) is in
    sym (place_at a.roles r i (valid a.roles a.global v).differ (there ∙ ap Some (sym e)))

pub formed : (p a : Agreement) → p ≡ a → is_protocol p.roles p.global ≡ true → well_formed a.roles a.global ≡ true
formed p a e v = subst (λ (x : Agreement). well_formed x.roles x.global ≡ true) e (valid p.roles p.global v).formed

pub join_nobody : (a : Agreement) (log : List Event) (r : List ℕ) → place_in a.roles r ≡ None → MayFollow a log (Join r) → ⊥
join_nobody a log r e h = true≢false (sym h.0 ∙ not_declared a.roles r e)

pub join_twice : (a : Agreement) (ms : List (List (List Edge))) (log : List Event) (c : Configuration) (r : List ℕ) (i : ℕ) (s : RoleState) → LeadsTo a ms log c → place_in a.roles r ≡ Some i → slice_get c.role_states.items i ≡ Some s → s.joined ≡ true → MayFollow a log (Join r) → ⊥
join_twice a ms log c r i s st e at j h = true≢false (sym j ∙ (role_state_for a ms log c.role_states.items r i s st.states_are e at).joined ∙ h.1)

pub joins : (a : Agreement) (ms : List (List (List Edge))) (log : List Event) (c d : Configuration) (r : List ℕ) (i : ℕ) (s t : RoleState) → LeadsTo a ms log c → place_in a.roles r ≡ Some i → slice_get c.role_states.items i ≡ Some s → s.joined ≡ false → t.joined ≡ true → t.state ≡ s.state → d.role_states.items ≡ set c.role_states.items i t → d.queues ≡ c.queues → d.numbering ≡ c.numbering → IsNext a ms log (Join r) d true
joins a ms log c d r i s t st e at j tj ts role_states queues same =
    let k = role_state_for a ms log c.role_states.items r i s st.states_are e at in
    let es = exchanges_of c.numbering in (
      (is_declared a.roles r i e, sym k.joined ∙ j),
      led_on a ms log c d (Join r) i t st e role_states (role_state_joined ms log r i s t tj ts k) (ap (λ (x : Channels ℕ). x.roles) queues) same
          (subst (λ (x : Channels ℕ). AreQueued es x) (sym queues) st.queued)
          (subst (λ (x : Channels ℕ). AreFlying a (log ++ Join r ∷ []) (flight_of es x)) (sym queues) (flying_still a log r (in_flight c) st.flying)),
    )

pub act_nobody : (a : Agreement) (log : List Event) (r : List ℕ) → place_in a.roles r ≡ None → (act : _) → MayAct a log r act → ⊥
act_nobody a log r e act h = true≢false (sym h.declared ∙ not_declared a.roles r e)

pub send_nowhere : (a : Agreement) (log : List Event) (p q : List ℕ) (m : Message) → well_formed a.roles a.global ≡ true → place_in a.roles q ≡ None → MayFollow a log (Sent p q m) → ⊥
send_nowhere a log p q m f e h = true≢false (sym (acts_among a log p (Sends q m) f h) ∙ not_declared a.roles q e)

pub receive_nowhere : (a : Agreement) (log : List Event) (p q : List ℕ) (m : Message) → well_formed a.roles a.global ≡ true → place_in a.roles p ≡ None → MayFollow a log (Received p q m) → ⊥
receive_nowhere a log p q m f e h = true≢false (sym (acts_among a log q (Receives p m) f h.0) ∙ not_declared a.roles p e)

-- there is a numbering
pub unnumbered : (roles : List (List ℕ)) (ms : List (List (List Edge))) (o : Option Numbered) → IsNumberedBy roles ms o → o ≡ None → ⊥
unnumbered roles ms None h e = h
unnumbered roles ms (Some n) h e = absurd (cc)

pub numbered_with : (roles : List (List ℕ)) (ms : List (List (List Edge))) (o : Option Numbered) (n : Numbered) → IsNumberedBy roles ms o → o ≡ Some n → IsNumberingOf roles ms n.exchanges n.machines
numbered_with roles ms o n h e = subst (IsNumberedBy roles ms) e h

pub exchanges_are : (o : Option Numbered) (n : Numbered) → o ≡ Some n → n.exchanges ≡ exchanges_of o
exchanges_are o n e = ap exchanges_of (sym e)

-- an event that may not follow
pub refused : (a : Agreement) (ms : List (List (List Edge))) (log : List Event) (c : Configuration) (d e : Event) → e ≡ d → (MayFollow a log d → ⊥) → LeadsTo a ms log c → IsNext a ms log e c false
refused a ms log c d e is never st = (λ h. never (subst (MayFollow a log) is h), st)

pub not_yet : (b : Bool) → not b ≡ true → b ≡ false
not_yet true e = absurd (true≢false (sym e))
not_yet false e = refl

pub already : (b : Bool) → not b ≡ false → b ≡ true
already true e = refl
already false e = absurd (true≢false e)

-- a role that has not joined makes no action
pub act_unjoined : (a : Agreement) (ms : List (List (List Edge))) (log : List Event) (r : List ℕ) (i : ℕ) (s : RoleState) (k : List (List Edge)) (act : Action) → IsAt a ms log r i s k → s.joined ≡ false → MayAct a log r act → ⊥
act_unjoined a ms log r i s k act at j h = true≢false (sym (acts_from a ms log r i s k act at h).0 ∙ j)

-- a role whose machine has no such step makes no such action
pub act_stuck : (a : Agreement) (ms : List (List (List Edge))) (log : List Event) (r : List ℕ) (i : ℕ) (s : RoleState) (k : List (List Edge)) (act : Action) → IsAt a ms log r i s k → ((n : ℕ) → Steps k s.state act n → ⊥) → MayAct a log r act → ⊥
act_stuck a ms log r i s k act at never h = let w = acts_from a ms log r i s k act at h in never w.1.0 w.1.1

-- a declared role is at its place, with a state and a machine
pub record IsSomewhere (a : Agreement) (ms : List (List (List Edge))) (log : List Event) (r : List ℕ) : Type 0 where
  pub place : ℕ
  pub state : RoleState
  pub machine : List (List Edge)
  pub named : slice_get a.roles place ≡ Some r
  pub runs : slice_get ms place ≡ Some machine
  pub at : IsAt a ms log r place state machine

pub somewhere : (a : Agreement) (ms : List (List (List Edge))) (log : List Event) (c : Configuration) (r : List ℕ) (i : ℕ) → LeadsTo a ms log c → place_in a.roles r ≡ Some i → IsSomewhere a ms log r
somewhere a ms log c r i st e =
    let t = st.states_are r i e in
    record {
      place = i;
      state = t.0;
      machine = t.2.machine;
      named = place_role a.roles r i e;
      runs = t.2.runs;
      at = is_at a ms log c r i t.0 t.2.machine st.follow st e t.1 t.2.runs;
    }

-- the state at a role's place is the one that was read
pub at_state : (a : Agreement) (ms : List (List (List Edge))) (log : List Event) (c : Configuration) (r : List ℕ) (i : ℕ) (s : RoleState) → LeadsTo a ms log c → place_in a.roles r ≡ Some i → s ≡ get_or c.role_states.items i s → (m : List (List Edge)) × (slice_get ms i ≡ Some m) × IsAt a ms log r i s m
at_state a ms log c r i s st e is =
    let here = role_state_read a ms log c r i s st e is in
    let t = role_state_for a ms log c.role_states.items r i s st.states_are e here in
    (t.machine, t.runs, is_at a ms log c r i s t.machine st.follow st e here t.runs)

-- the machine of a role has a row for its state
pub row_there : (a : Agreement) (ms : List (List (List Edge))) (log : List Event) (n : Numbered) (r : List ℕ) (i : ℕ) (s : RoleState) (f : List (List Edge)) → IsNumberingOf a.roles ms n.exchanges n.machines → IsAt a ms log r i s f → slice_get ms i ≡ Some f → HasRow n.machines i s.state
row_there a ms log n r i s f w at runs = has_row a.roles ms n r i s.state f w (place_role a.roles r i at.place) runs (state_within a ms log r i s f at)

-- the role acts somewhere
acts_somewhere : (a : Agreement) (ms : List (List (List Edge))) (log : List Event) (c : Configuration) (r : List ℕ) (act : Action) → LeadsTo a ms log c → MayAct a log r act → IsSomewhere a ms log r
acts_somewhere a ms log c r act st h = let p = place_for a.roles r h.declared in somewhere a ms log c r p.0 st p.1

-- no exchange, no step
pub send_absent : (a : Agreement) (ms : List (List (List Edge))) (log : List Event) (c : Configuration) (n : Numbered) (p q : List ℕ) (m : Message) → LeadsTo a ms log c → IsNumberingOf a.roles ms n.exchanges n.machines → IsAbsent n.exchanges (Sent p q m) → MayFollow a log (Sent p q m) → ⊥
send_absent a ms log c n p q m st w absent h =
    let t = acts_somewhere a ms log c p (Sends q m) st h in
    let row = is_row a.roles ms n p t.place t.state.state t.machine w t.named t.runs (state_within a ms log p t.place t.state t.machine t.at) in
    act_stuck a ms log p t.place t.state t.machine (Sends q m) t.at
    (λ k step. let x = numbered_send n.exchanges p q m t.machine t.state.state k _ row step in absent x.0 x.1) h

pub reception_absent : (a : Agreement) (ms : List (List (List Edge))) (log : List Event) (c : Configuration) (n : Numbered) (p q : List ℕ) (m : Message) → LeadsTo a ms log c → IsNumberingOf a.roles ms n.exchanges n.machines → IsAbsent n.exchanges (Received p q m) → MayFollow a log (Received p q m) → ⊥
reception_absent a ms log c n p q m st w absent h =
    let t = acts_somewhere a ms log c q (Receives p m) st h.0 in
    let row = is_row a.roles ms n q t.place t.state.state t.machine w t.named t.runs (state_within a ms log q t.place t.state t.machine t.at) in
    act_stuck a ms log q t.place t.state t.machine (Receives p m) t.at
    (λ k step. let x = numbered_reception n.exchanges p q m t.machine t.state.state k _ row step in absent x.0 x.1) h.0

-- no edge of the exchange, no step
pub send_stuck : (a : Agreement) (ms : List (List (List Edge))) (log : List Event) (n : Numbered) (p q : List ℕ) (m : Message) (i k : ℕ) (s : RoleState) (f : List (List Edge)) → IsNumberingOf a.roles ms n.exchanges n.machines → IsAt a ms log p i s f → slice_get ms i ≡ Some f → IsNumberOf n.exchanges (Sent p q m) k → ((next : ℕ) → Contains (row_at n.machines i s.state) (edges.Sends k next) → ⊥) → MayFollow a log (Sent p q m) → ⊥
send_stuck a ms log n p q m i k s f w at runs num never h =
    let row = is_row a.roles ms n p i s.state f w (place_role a.roles p i at.place) runs (state_within a ms log p i s f at) in
    act_stuck a ms log p i s f (Sends q m) at
    (λ j step.
    let x = numbered_send n.exchanges p q m f s.state j _ row step in
    let same : x.0 ≡ k = same_number a.roles n.exchanges (Sent p q m) (Sent p q m) x.0 k w.exchanges x.1 num refl in
    never j (subst (λ y. Contains (row_at n.machines i s.state) (edges.Sends y j)) same x.2)) h

pub reception_stuck : (a : Agreement) (ms : List (List (List Edge))) (log : List Event) (n : Numbered) (p q : List ℕ) (m : Message) (i k : ℕ) (s : RoleState) (f : List (List Edge)) → IsNumberingOf a.roles ms n.exchanges n.machines → IsAt a ms log q i s f → slice_get ms i ≡ Some f → IsNumberOf n.exchanges (Sent p q m) k → ((next : ℕ) → Contains (row_at n.machines i s.state) (edges.Receives k next) → ⊥) → MayFollow a log (Received p q m) → ⊥
reception_stuck a ms log n p q m i k s f w at runs num never h =
    let row = is_row a.roles ms n q i s.state f w (place_role a.roles q i at.place) runs (state_within a ms log q i s f at) in
    act_stuck a ms log q i s f (Receives p m) at
    (λ j step.
    let x = numbered_reception n.exchanges p q m f s.state j _ row step in
    let same : x.0 ≡ k = same_number a.roles n.exchanges (Received p q m) (Sent p q m) x.0 k w.exchanges x.1 num refl in
    never j (subst (λ y. Contains (row_at n.machines i s.state) (edges.Receives y j)) same x.2)) h.0

-- the step of a numbered edge
pub send_step : (a : Agreement) (ms : List (List (List Edge))) (log : List Event) (n : Numbered) (p q : List ℕ) (m : Message) (i k next : ℕ) (s : RoleState) (f : List (List Edge)) → IsNumberingOf a.roles ms n.exchanges n.machines → IsAt a ms log p i s f → slice_get ms i ≡ Some f → IsNumberOf n.exchanges (Sent p q m) k → Contains (row_at n.machines i s.state) (edges.Sends k next) → Steps f s.state (Sends q m) next
send_step a ms log n p q m i k next s f w at runs num h =
    let row = is_row a.roles ms n p i s.state f w (place_role a.roles p i at.place) runs (state_within a ms log p i s f at) in
    send_steps a.roles n.exchanges p q m f s.state k next _ w.exchanges row num h

pub reception_step : (a : Agreement) (ms : List (List (List Edge))) (log : List Event) (n : Numbered) (p q : List ℕ) (m : Message) (i k next : ℕ) (s : RoleState) (f : List (List Edge)) → IsNumberingOf a.roles ms n.exchanges n.machines → IsAt a ms log q i s f → slice_get ms i ≡ Some f → IsNumberOf n.exchanges (Sent p q m) k → Contains (row_at n.machines i s.state) (edges.Receives k next) → Steps f s.state (Receives p m) next
reception_step a ms log n p q m i k next s f w at runs num h =
    let row = is_row a.roles ms n q i s.state f w (place_role a.roles q i at.place) runs (state_within a ms log q i s f at) in
    reception_steps a.roles n.exchanges p q m f s.state k next _ w.exchanges row record { exchange = num.exchange; here = num.here; same = num.same } h

pub receive_early : (a : Agreement) (ms : List (List (List Edge))) (log : List Event) (c : Configuration) (p q : List ℕ) (m : Message) (i j : ℕ) → LeadsTo a ms log c → place_in a.roles p ≡ Some i → place_in a.roles q ≡ Some j → (IsAtFront i j m (in_flight c) → ⊥) → MayFollow a log (Received p q m) → ⊥
receive_early a ms log c p q m i j st e f never h = never (oldest_front a log (in_flight c) p q i j m st.flying e f h.1)

pub sends_on : (a : Agreement) (ms : List (List (List Edge))) (log : List Event) (c d : Configuration) (p q : List ℕ) (m : Message) (i j k : ℕ) (s t : RoleState) (f : List (List Edge)) → LeadsTo a ms log c → IsAt a ms log p i s f → slice_get ms i ≡ Some f → place_in a.roles q ≡ Some j → s.joined ≡ true → t.joined ≡ true → Steps f s.state (Sends q m) t.state → d.role_states.items ≡ set c.role_states.items i t → d.queues.roles ≡ c.queues.roles → d.numbering ≡ c.numbering → IsBetween (exchanges_of c.numbering) i j k → message_at (exchanges_of c.numbering) k ≡ m → queue_of d.queues i j ≡ queue_of c.queues i j ++ k ∷ [] → SameElsewhere i j c.queues d.queues → IsNext a ms log (Sent p q m) d true
sends_on a ms log c d p q m i j k s t f st at runs e sj tj step role_states roles same between is push others =
    let es = exchanges_of c.numbering in (
      acts_on a ms log p i s f (Sends q m) at sj (t.state, step),
      led_on a ms log c d (Sent p q m) i t st at.place role_states (role_state_sent a ms log p q m i s t f runs at sj tj step) roles same
          (queued_pushed es i j k c.queues d.queues st.queued between push others)
          (flying_sent a log p q m i j (in_flight c) (flight_of es d.queues) st.flying at.place e (pushed es i j k m c.queues d.queues is push) (others_same es i j c.queues d.queues others)),
    )

pub receives_on : (a : Agreement) (ms : List (List (List Edge))) (log : List Event) (c d : Configuration) (p q : List ℕ) (m : Message) (i j k : ℕ) (s t : RoleState) (f : List (List Edge)) → LeadsTo a ms log c → IsAt a ms log q j s f → slice_get ms j ≡ Some f → place_in a.roles p ≡ Some i → s.joined ≡ true → t.joined ≡ true → Steps f s.state (Receives p m) t.state → d.role_states.items ≡ set c.role_states.items j t → d.queues.roles ≡ c.queues.roles → d.numbering ≡ c.numbering → message_at (exchanges_of c.numbering) k ≡ m → queue_of c.queues i j ≡ k ∷ queue_of d.queues i j → SameElsewhere i j c.queues d.queues → IsNext a ms log (Received p q m) d true
receives_on a ms log c d p q m i j k s t f st at runs e sj tj step role_states roles same is pop others =
    let es = exchanges_of c.numbering in
    let popped : in_flight c i j ≡ m ∷ flight_of es d.queues i j = taken es i j k m c.queues d.queues is pop in (
      (acts_on a ms log q j s f (Receives p m) at sj (t.state, step), front_oldest a log (in_flight c) p q i j m st.flying e at.place (_, popped)),
      led_on a ms log c d (Received p q m) j t st at.place role_states (role_state_received a ms log p q m j s t f runs at sj tj step) roles same
          (queued_taken es i j k c.queues d.queues st.queued pop others)
          (flying_taken a log p q m i j (in_flight c) (flight_of es d.queues) st.flying e at.place popped (others_same es i j c.queues d.queues others)),
    )

-- the oldest number was taken out
pub was_taken : (k : ℕ) (b : Bool) (old new : List ℕ) → b ≡ true → IsTaken k b old new → old ≡ k ∷ new
was_taken k true old new e h = h
was_taken k false old new e h = absurd (true≢false (sym e))
