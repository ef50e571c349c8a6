-- One event more after a permitted log: joins, sends and the oldest messages in flight.
use Rattle.std.proofs.Common.{◌≡◌, ◌||◌, Bool, true, false, ℕ, List, [], ◌∷◌, ◌++◌, Option, Some, refl, sym, ap, ◌∙◌, subst, append_assoc, append-nil}
use Rattle.std.proofs.lemmas.Bool.{true≢false}
use Rattle.std.proofs.lemmas.List.Elements.{filter_map-append}
use Rattle.scrib_types.specs.declared.message.Message.{Message}
use Rattle.scrib_types.specs.declared.event.Action.{Action}
use Rattle.scrib_types.specs.declared.event.Action.TheVariants as act
use Rattle.scrib_types.specs.declared.event.Event.{Event}
use Rattle.scrib_types.specs.declared.event.Event.TheVariants.{Join, Sent, Received}
use Rattle.scrib_types.specs.Trees.{GlobalTree, LocalTree}
use Rattle.scrib_types.specs.Projection.{projection, widest}
use Rattle.scrib_types.specs.WellFormed.{has_role}
use Rattle.scrib_types.specs.Agreement.{Agreement}
use Rattle.scrib_types.specs.Permitted.{IsPermitted}
use Rattle.scrib_types.specs.Traces.{LocalTransition, IsTrace}
use Rattle.scrib_types.specs.Logs.{subject_of, action_of, is_action, is_join_of, actions, own_actions, has_joined, IsJoined, AllJoined}
use Rattle.scrib_types.specs.Queues.{sent_message, received_message, sent, received, flights}
use Rattle.scrib_global.specs.Runs.{Run}
use Rattle.scrib_global.specs.Simulation.{Leads}
use Rattle.scrib_global.specs.Next.{IsTypeAfter}
use Rattle.scrib_global.specs.NextEvents.{ComesNext}
use Rattle.scrib_global.proofs.Names.{which}
use Rattle.scrib_global.proofs.Locals.{does_one}
use Rattle.scrib_global.proofs.FollowingTypes.{Follows}
use Rattle.scrib_global.proofs.EnabledEvents.{can_send}
use Rattle.scrib_global.proofs.Events.{own_yes, own_no, received_yes, flights_are}
use Rattle.scrib_global.proofs.ProtocolFacts.{Given}
use Rattle.scrib_global.proofs.LogPrefixes.{joined_end, own_end}
use Rattle.scrib_global.proofs.Steps.{trace_leads}
use Rattle.scrib_global.proofs.Runs.{start_in, leads_one, run_follows, run_on, actions_on, run_permitted, permitted_run}

-- a declared role that hasn't joined may join
actions_join : (log : List Event) (r : List ℕ) → actions (log ++ Join r ∷ []) ≡ actions log
actions_join [] r = refl
actions_join (Join s ∷ log) r = actions_join log r
actions_join (Sent p q m ∷ log) r = ap (λ z. Sent p q m ∷ z) (actions_join log r)
actions_join (Received p q m ∷ log) r = ap (λ z. Received p q m ∷ z) (actions_join log r)

pub join_next : (a : Agreement) → Given a → (log : List Event) → IsPermitted a log → (r : List ℕ) → has_role r a.roles ≡ true → has_joined r log ≡ false → IsPermitted a (log ++ Join r ∷ [])
join_next a f log pm r d n =
    let rn = permitted_run a f log pm in
    run_permitted a f (log ++ Join r ∷ []) (joined_end a.roles log (Join r) pm.joined (d, n)) rn.0
    (subst (λ z. Run a.global z rn.0) (sym (actions_join log r)) rn.1)

-- whose event comes next
last_joined : (a : Agreement) (log : List Event) (e : Event) → IsPermitted a (log ++ e ∷ []) → IsJoined a.roles log e
last_joined a log e pm = pm.joined log [] e refl

pub join_first : (a : Agreement) (log : List Event) (r : List ℕ) → ComesNext a log r act.Join → has_joined r log ≡ false
join_first a log r pm = (last_joined a log (Join r) pm).1

-- a role that joined may make each send of its local type
pub send_next : (a : Agreement) → Given a → (log : List Event) → IsPermitted a log → (p : List ℕ) → has_joined p log ≡ true → (start now next : LocalTree) → projection widest p a.global ≡ Some start → Leads start (own_actions p log) now → (q : List ℕ) (m : Message) → LocalTransition now (act.Sends q m) next → IsPermitted a (log ++ Sent p q m ∷ [])
send_next a f log pm p j start now next projected h q m d =
    let e = Sent p q m in
    let rn = permitted_run a f log pm in
    let y = run_follows log a.global rn.0 rn.1 p start (start_in a f p start projected) in
    let fk : Follows rn.0 p now = subst (λ z. Follows rn.0 p z) (leads_one (own_actions p log) start y.0 now y.1 h) y.2 in
    let st = can_send rn.0 p q m now next fk d in
    run_permitted a f (log ++ e ∷ []) (joined_end a.roles log e pm.joined j) st.0
    (subst (λ z. Run a.global z st.0) (sym (actions_on log e refl)) (run_on rn.1 e st.1))

-- a message that may be received is the oldest in flight
pub oldest_next : (a : Agreement) (log : List Event) (p q : List ℕ) (m : Message) → IsPermitted a (log ++ Received p q m ∷ []) → (w : List Message) × (flights p q log ≡ m ∷ w)
oldest_next a log p q m pm =
    let e = Received p q m in
    let y = pm.queued (log ++ e ∷ []) [] (sym (append-nil (log ++ e ∷ []))) p q in
    let all : sent p q (log ++ e ∷ []) ≡ sent p q log = filter_map-append (sent_message p q) log (e ∷ []) ∙ append-nil (sent p q log) in
    let last : received p q (e ∷ []) ≡ m ∷ [] = received_yes p q q p m [] refl refl in
    let got : received p q (log ++ e ∷ []) ≡ received p q log ++ m ∷ [] = filter_map-append (received_message p q) log (e ∷ []) ∙ ap (λ z. received p q log ++ z) last in
    (y.0, flights_are p q log (m ∷ y.0) (sym all ∙ y.1 ∙ ap (λ z. z ++ y.0) got ∙ append_assoc (received p q log) (m ∷ []) y.0))

-- the local type that is left
pub type_after : (a : Agreement) (log : List Event) → IsPermitted a log → (r : List ℕ) → has_role r a.roles ≡ true → (l : LocalTree) × IsTypeAfter a.global log r l
type_after a log pm r d =
    let t = pm.traces r d in
    let y = trace_leads (own_actions r log) t.0 t.2 in
    (y.0, record { start = t.0; projected = t.1; leads = y.1 })

some_same : (x y : LocalTree) → ◌≡◌ {A = Option LocalTree} (Some x) (Some y) → x ≡ y
some_same x y h = cc

pub type_after_one : (g : GlobalTree) (log : List Event) (r : List ℕ) (l k : LocalTree) → IsTypeAfter g log r l → IsTypeAfter g log r k → l ≡ k
type_after_one g log r l k x y =
    let same : x.start ≡ y.start = some_same x.start y.start (sym x.projected ∙ y.projected) in
    leads_one (own_actions r log) y.start l k (subst (λ s. Leads s (own_actions r log) l) same x.leads) y.leads

-- an action that comes next is one of that type
trace_after : (w : List Action) (l k : LocalTree) (a : Action) → Leads l w k → IsTrace l (w ++ a ∷ []) → (j : LocalTree) × LocalTransition k a j
trace_after [] l k a h t = (t.0, subst (λ x. LocalTransition x a t.0) h t.1)
trace_after (d ∷ w) l k a h t = trace_after w h.0 k a h.2 (subst (λ x. IsTrace x (w ++ a ∷ [])) (does_one t.1 h.1) t.2)

event_after : (a : Agreement) (log : List Event) (e : Event) → is_action e ≡ true → IsPermitted a (log ++ e ∷ []) → has_role (subject_of e) a.roles ≡ true → (l : LocalTree) → IsTypeAfter a.global log (subject_of e) l → (j : LocalTree) × LocalTransition l (action_of e) j
event_after a log e i pm d l x =
    let r = subject_of e in
    let t = pm.traces r d in
    let last : own_actions r (e ∷ []) ≡ action_of e ∷ [] = own_yes r e [] i refl in
    let own : own_actions r (log ++ e ∷ []) ≡ own_actions r log ++ action_of e ∷ [] = own_end r log e ∙ ap (λ z. own_actions r log ++ z) last in
    let same : t.0 ≡ x.start = some_same t.0 x.start (sym t.1 ∙ x.projected) in
    trace_after (own_actions r log) x.start l (action_of e) x.leads
    (subst (λ s. IsTrace s (own_actions r log ++ action_of e ∷ [])) same (subst (IsTrace t.0) own t.2))

pub next_does : (a : Agreement) (log : List Event) (r : List ℕ) → has_role r a.roles ≡ true → has_joined r log ≡ true → (l : LocalTree) → IsTypeAfter a.global log r l → (d : Action) → ComesNext a log r d → (j : LocalTree) × LocalTransition l d j
next_does a log r known joined l x act.Join pm = absurd (true≢false (sym joined ∙ join_first a log r pm))
next_does a log r known joined l x (act.Sends q m) pm = event_after a log (Sent r q m) refl pm known l x
next_does a log r known joined l x (act.Receives p m) pm = event_after a log (Received p r m) refl pm known l x

-- a role that hasn't joined did nothing
either_on : (b x y : Bool) → (x ≡ true → y ≡ true) → (b || x) ≡ true → (b || y) ≡ true
either_on true x y f h = refl
either_on false x y f h = f h

joined_in : (r : List ℕ) (before after : List Event) → has_joined r before ≡ true → has_joined r (before ++ after) ≡ true
joined_in r [] after h = absurd (true≢false (sym h))
joined_in r (e ∷ before) after h = either_on (is_join_of r e) (has_joined r before) (has_joined r (before ++ after)) (λ i. joined_in r before after i) h

own_event : (r : List ℕ) (log before after : List Event) (e : Event) → is_action e ≡ true → has_joined (subject_of e) before ≡ true → has_joined r log ≡ false → log ≡ before ++ e ∷ after → own_actions r after ≡ [] → own_actions r (e ∷ after) ≡ []
own_event r log before after e i j n eq rest = elim (which r (subject_of e)) [
  | yes s ↦
      let there : has_joined r before ≡ true = subst (λ x. has_joined x before ≡ true) (sym s) j in
      absurd (true≢false (sym (joined_in r before (e ∷ after) there) ∙ ap (has_joined r) (sym eq) ∙ n))
  | no x ↦ own_no r e after i x ∙ rest
]

own_late : (roles : List (List ℕ)) (r : List ℕ) (log before after : List Event) → AllJoined roles log → has_joined r log ≡ false → log ≡ before ++ after → own_actions r after ≡ []
own_late roles r log before [] j n eq = refl
own_late roles r log before (Join s ∷ after) j n eq =
    own_late roles r log (before ++ Join s ∷ []) after j n (eq ∙ sym (append_assoc before (Join s ∷ []) after))
own_late roles r log before (Sent p q m ∷ after) j n eq =
    own_event r log before after (Sent p q m) refl (j before after (Sent p q m) eq) n eq
    (own_late roles r log (before ++ Sent p q m ∷ []) after j n (eq ∙ sym (append_assoc before (Sent p q m ∷ []) after)))
own_late roles r log before (Received p q m ∷ after) j n eq =
    own_event r log before after (Received p q m) refl (j before after (Received p q m) eq) n eq
    (own_late roles r log (before ++ Received p q m ∷ []) after j n (eq ∙ sym (append_assoc before (Received p q m ∷ []) after)))

pub own_before_join : (a : Agreement) (log : List Event) → IsPermitted a log → (r : List ℕ) → has_joined r log ≡ false → own_actions r log ≡ []
own_before_join a log pm r n = own_late a.roles r log [] log pm.joined n refl
