-- A log is permitted exactly where its joins are right and it is a run.
use Rattle.std.proofs.Common.{◌≡◌, ◌⊎◌, inl, inr, true, false, ℕ, zero, suc, List, [], ◌∷◌, ◌++◌, Some, refl, sym, ap, ◌∙◌, subst, append-nil}
use Rattle.std.proofs.lemmas.Bool.{true≢false, cases_Bool}
use Rattle.scrib_types.specs.declared.message.Message.{Message}
use Rattle.scrib_types.specs.declared.event.Action.{Action}
use Rattle.scrib_types.specs.declared.event.Event.{Event}
use Rattle.scrib_types.specs.declared.event.Event.TheVariants.{Join, Sent, Received}
use Rattle.scrib_types.specs.Trees.{GlobalTree, GlobalEnd, GlobalVar, GlobalRec, Comm, Flight, GlobalBranches, NoBranch, Branch, LocalTree, LocalEnd}
use Rattle.scrib_types.specs.Projection.{projection, widest}
use Rattle.scrib_types.specs.WellFormed.{has_role, is_protocol}
use Rattle.scrib_types.specs.Agreement.{Agreement}
use Rattle.scrib_types.specs.Permitted.{IsPermitted}
use Rattle.scrib_types.specs.Traces.{LocalTransition, IsTrace}
use Rattle.scrib_types.specs.Logs.{subject_of, action_of, is_action, actions, own_actions, has_joined, IsJoined, AllJoined}
use Rattle.scrib_types.specs.Queues.{sent, received, flights}
use Rattle.scrib_global.specs.Transitions.{IsBranch, first, later, Transition}
use Rattle.scrib_global.specs.Runs.{Run, stays, goes}
use Rattle.scrib_global.specs.InFlight.{OnPath, ends, repeats, chooses, flies}
use Rattle.scrib_global.specs.Simulation.{Leads, Awaits, Simulates}
use Rattle.scrib_global.proofs.Names.{which, NotPair, pair_cases}
use Rattle.scrib_global.proofs.Substitution.{Absent, NonEmpty}
use Rattle.scrib_global.proofs.ProjectionLemmas.{project_absent}
use Rattle.scrib_global.proofs.Locals.{does_one, alike_refl}
use Rattle.scrib_global.proofs.FollowingTypes.{Follows, follows_project}
use Rattle.scrib_global.proofs.TransitionLemmas.{others, subject}
use Rattle.scrib_global.proofs.FlightPaths.{Carries, CarriesAll, CarriesAt, Effect, carries_start, carries_step, carries_head, Bears, carries_at, all_carries}
use Rattle.scrib_global.proofs.EnabledEvents.{can_send, can_receive}
use Rattle.scrib_global.proofs.Events.{own_yes, own_no, sent_yes, sent_no, effect_log, log_effect, received_head, flights_are, all_declared, own_nothing, split_cases}
use Rattle.scrib_global.proofs.ProtocolFacts.{Given, given, projects_of}
use Rattle.scrib_global.proofs.Steps.{leads_trace}

-- what a run of a known list is
abbrev pub RunAs : GlobalTree → List Event → GlobalTree → Type 0
RunAs g [] h = g ≡ h
RunAs g (e ∷ w) h = (k : GlobalTree) × Transition g e k × Run k w h

pub run_as : {g h : GlobalTree} {w : List Event} → Run g w h → RunAs g w h
run_as stays = refl
run_as (goes {h = k} st rn) = (k, st, rn)

-- the types at the start
pub start_absent : (a : Agreement) → Given a → (r : List ℕ) → Absent r a.global → Follows a.global r LocalEnd
start_absent a f r n = follows_project r (project_absent r a.global f.sound f.closed n) f.sound f.closed LocalEnd (alike_refl LocalEnd)

start_out : (a : Agreement) → Given a → (r : List ℕ) → has_role r a.roles ≡ false → Follows a.global r LocalEnd
start_out a f r n = start_absent a f r (f.strangers r n)

pub start_in : (a : Agreement) → Given a → (r : List ℕ) (l : LocalTree) → projection widest r a.global ≡ Some l → Follows a.global r l
start_in a f r l p = follows_project r (projects_of r a.global l p) f.sound f.closed l (alike_refl l)

-- the type that the actions lead to is one
pub leads_one : (w : List Action) (l k k' : LocalTree) → Leads l w k → Leads l w k' → k ≡ k'
leads_one [] l k k' h i = sym h ∙ i
leads_one (d ∷ w) l k k' h i = leads_one w h.0 k k' h.2 (subst (λ x. Leads x w k') (does_one i.1 h.1) i.2)

-- a role along a run
follow_goes : (log : List Event) (g h k : GlobalTree) (e : Event) → is_action e ≡ true → (r : List ℕ) → Transition g e h → ((l : LocalTree) → Follows h r l → (y : LocalTree) × Leads l (own_actions r log) y × Follows k r y) → Dec (r ≡ subject_of e) → (l : LocalTree) → Follows g r l → (y : LocalTree) × Leads l (own_actions r (e ∷ log)) y × Follows k r y
follow_goes log g h k e i r st ih (yes s) l f =
    let y = subject st l (subst (λ z. Follows g z l) s f) in
    let z = ih y.0 (subst (λ z. Follows h z y.0) (sym s) y.2) in
    (z.0, subst (λ w. Leads l w z.0) (sym (own_yes r e log i s)) (y.0, y.1, z.1), z.2)
follow_goes log g h k e i r st ih (no n) l f =
    let z = ih l (others st r l n f) in
    (z.0, subst (λ w. Leads l w z.0) (sym (own_no r e log i n)) z.1, z.2)

pub run_follows : (log : List Event) (g h : GlobalTree) → Run g (actions log) h → (r : List ℕ) (l : LocalTree) → Follows g r l → (y : LocalTree) × Leads l (own_actions r log) y × Follows h r y
run_follows [] g h rn r l f = (l, refl, subst (λ z. Follows z r l) (run_as rn) f)
run_follows (Join s ∷ log) g h rn r l f = run_follows log g h rn r l f
run_follows (Sent p q m ∷ log) g h rn r l f =
    let x = run_as rn in
    follow_goes log g x.0 h (Sent p q m) refl r x.1 (λ l' f'. run_follows log x.0 h x.2 r l' f') (which r p) l f
run_follows (Received p q m ∷ log) g h rn r l f =
    let x = run_as rn in
    follow_goes log g x.0 h (Received p q m) refl r x.1 (λ l' f'. run_follows log x.0 h x.2 r l' f') (which r q) l f

-- a pair's messages along a run
effect_of : (e : Event) (g h : GlobalTree) → Transition g e h → (a b : List ℕ) (w : List Message) → Carries g a b w → (v : List Message) × Effect e a b w v
effect_of (Join r) g h st a b w c = (w, refl)
effect_of (Sent s q m) g h st a b w c = pick (pair_cases a s b q)
  where
    pick : ((a ≡ s) × (b ≡ q)) ⊎ NotPair a s b q → (v : List Message) × Effect (Sent s q m) a b w v
    pick (inl i) = (w ++ m ∷ [], (λ x y. refl, λ n. absurd (n i.0 i.1)))
    pick (inr n) = (w, (λ x y. absurd (n x y), λ x. refl))
effect_of (Received p s m) g h st a b w c = pick (pair_cases a p b s)
  where
    pick : ((a ≡ p) × (b ≡ s)) ⊎ NotPair a p b s → (v : List Message) × Effect (Received p s m) a b w v
    pick (inl i) =
        let c' = subst (λ x. Carries g x s w) i.0 (subst (λ y. Carries g a y w) i.1 c) in
        let y = carries_head st w c' in
        (y.0, (λ e f. y.1, λ n. absurd (n i.0 i.1)))
    pick (inr n) = (w, (λ x y. absurd (n x y), λ x. refl))

carry_goes : (log : List Event) (g h k : GlobalTree) (e : Event) (a b : List ℕ) → Transition g e h → ((v : List Message) → Carries h a b v → (x : List Message) × (v ++ sent a b log ≡ received a b log ++ x) × Carries k a b x) → (w : List Message) → Carries g a b w → (x : List Message) × (w ++ sent a b (e ∷ log) ≡ received a b (e ∷ log) ++ x) × Carries k a b x
carry_goes log g h k e a b st ih w c =
    let v = effect_of e g h st a b w c in
    let y = ih v.0 (carries_step st a b w v.0 v.1 c) in
    (y.0, effect_log e a b w v.0 y.0 log v.1 y.1, y.2)

run_carries : (log : List Event) (g h : GlobalTree) → Run g (actions log) h → (a b : List ℕ) (w : List Message) → Carries g a b w → (x : List Message) × (w ++ sent a b log ≡ received a b log ++ x) × Carries h a b x
run_carries [] g h rn a b w c = (w, append-nil w, subst (λ z. Carries z a b w) (run_as rn) c)
run_carries (Join s ∷ log) g h rn a b w c = run_carries log g h rn a b w c
run_carries (Sent p q m ∷ log) g h rn a b w c =
    let x = run_as rn in
    carry_goes log g x.0 h (Sent p q m) a b x.1 (λ v c'. run_carries log x.0 h x.2 a b v c') w c
run_carries (Received p q m ∷ log) g h rn a b w c =
    let x = run_as rn in
    carry_goes log g x.0 h (Received p q m) a b x.1 (λ v c'. run_carries log x.0 h x.2 a b v c') w c

-- runs in parts
run_front : (before after : List Event) (g h : GlobalTree) → Run g (actions (before ++ after)) h → (k : GlobalTree) × Run g (actions before) k
run_front [] after g h rn = (g, stays)
run_front (Join s ∷ before) after g h rn = run_front before after g h rn
run_front (Sent p q m ∷ before) after g h rn = let x = run_as rn in let y = run_front before after x.0 h x.2 in (y.0, goes x.1 y.1)
run_front (Received p q m ∷ before) after g h rn = let x = run_as rn in let y = run_front before after x.0 h x.2 in (y.0, goes x.1 y.1)

pub run_on : {g h k : GlobalTree} {w : List Event} → Run g w h → (e : Event) → Transition h e k → Run g (w ++ e ∷ []) k
run_on stays e st = goes st stays
run_on (goes x rn) e st = goes x (run_on rn e st)

pub actions_on : (log : List Event) (e : Event) → is_action e ≡ true → actions (log ++ e ∷ []) ≡ actions log ++ e ∷ []
actions_on [] e i = rw i refl
actions_on (Join s ∷ log) e i = actions_on log e i
actions_on (Sent p q m ∷ log) e i = ap (λ z. Sent p q m ∷ z) (actions_on log e i)
actions_on (Received p q m ∷ log) e i = ap (λ z. Received p q m ∷ z) (actions_on log e i)

-- a run is permitted
pub run_permitted : (a : Agreement) → Given a → (log : List Event) → AllJoined a.roles log → (h : GlobalTree) → Run a.global (actions log) h → IsPermitted a log
run_permitted a f log j h rn = record {
  joined = j;
  declared = all_declared a.roles log j;
  traces = λ r i.
      let p = f.projected r i in
      let y = run_follows log a.global h rn r p.0 (start_in a f r p.0 p.1) in
      (p.0, p.1, leads_trace (own_actions r log) p.0 y.0 y.1);
  queued = λ before after e p q.
      let k = run_front before after a.global h (subst (λ z. Run a.global (actions z) h) e rn) in
      let y = run_carries before a.global k.0 k.1 p q [] (carries_start a.global f.sound f.closed p q) in
      (y.0, y.1);
}

-- a permitted log is a run
abbrev QueuedFrom : List Message → List ℕ → List ℕ → List Event → Type 0
QueuedFrom w a b log = (before after : List Event) → log ≡ before ++ after → (x : List Message) × (w ++ sent a b before ≡ received a b before ++ x)

abbrev Ready : GlobalTree → List Event → Type 0
Ready g log = (r : List ℕ) → (l : LocalTree) × Follows g r l × IsTrace l (own_actions r log)

abbrev Laden : GlobalTree → List Event → Type 0
Laden g log = (a b : List ℕ) → (w : List Message) × Carries g a b w × QueuedFrom w a b log

first_step : (g : GlobalTree) (e : Event) (log : List Event) → is_action e ≡ true → Laden g (e ∷ log) → (l k : LocalTree) → Follows g (subject_of e) l → LocalTransition l (action_of e) k → (h : GlobalTree) × Transition g e h
first_step g (Join r) log i qs l k f dk = absurd (true≢false (sym i))
first_step g (Sent s q m) log i qs l k f dk = can_send g s q m l k f dk
first_step g (Received p s m) log i qs l k f dk =
    let y = qs p s in
    let x = y.2 (Received p s m ∷ []) log refl in
    can_receive g s p m m l k x.0 f dk (subst (λ z. Carries g p s z) (received_head s p m y.0 x.0 x.1) y.1)

ready_next : (g h : GlobalTree) (e : Event) (log : List Event) → is_action e ≡ true → Transition g e h → Ready g (e ∷ log) → Ready h log
ready_next g h e log i st fs r = pick (which r (subject_of e))
  where
    pick : Dec (r ≡ subject_of e) → (l : LocalTree) × Follows h r l × IsTrace l (own_actions r log)
    pick (yes s) =
        let y = fs r in
        let t : IsTrace y.0 (action_of e ∷ own_actions r log) = subst (λ z. IsTrace y.0 z) (own_yes r e log i s) y.2 in
        let z = subject st y.0 (subst (λ x. Follows g x y.0) s y.1) in
        (z.0, subst (λ x. Follows h x z.0) (sym s) z.2, subst (λ x. IsTrace x (own_actions r log)) (does_one t.1 z.1) t.2)
    pick (no n) =
        let y = fs r in
        (y.0, others st r y.0 n y.1, subst (λ z. IsTrace y.0 z) (own_no r e log i n) y.2)

laden_next : (g h : GlobalTree) (e : Event) (log : List Event) → Transition g e h → Laden g (e ∷ log) → Laden h log
laden_next g h e log st qs a b =
    let y = qs a b in
    let v = effect_of e g h st a b y.0 y.1 in (
      v.0,
      carries_step st a b y.0 v.0 v.1 y.1,
      λ before after eq. let x = y.2 (e ∷ before) after (ap (λ z. e ∷ z) eq) in (x.0, log_effect e a b y.0 v.0 x.0 before v.1 x.1),
    )

laden_join : (g : GlobalTree) (r : List ℕ) (log : List Event) → Laden g (Join r ∷ log) → Laden g log
laden_join g r log qs a b = let y = qs a b in (y.0, y.1, λ before after eq. y.2 (Join r ∷ before) after (ap (λ z. Join r ∷ z) eq))

run_goes : (log : List Event) (g : GlobalTree) (e : Event) → is_action e ≡ true → Ready g (e ∷ log) → Laden g (e ∷ log) → ((h : GlobalTree) → Ready h log → Laden h log → (k : GlobalTree) × Run h (actions log) k) → (k : GlobalTree) × Run g (e ∷ actions log) k
run_goes log g e i fs qs ih =
    let y = fs (subject_of e) in
    let t : IsTrace y.0 (action_of e ∷ own_actions (subject_of e) log) = subst (λ z. IsTrace y.0 z) (own_yes (subject_of e) e log i refl) y.2 in
    let st = first_step g e log i qs y.0 t.0 y.1 t.1 in
    let z = ih st.0 (ready_next g st.0 e log i st.1 fs) (laden_next g st.0 e log st.1 qs) in
    (z.0, goes st.1 z.1)

runs : (log : List Event) (g : GlobalTree) → Ready g log → Laden g log → (h : GlobalTree) × Run g (actions log) h
runs [] g fs qs = (g, stays)
runs (Join r ∷ log) g fs qs = runs log g fs (laden_join g r log qs)
runs (Sent p q m ∷ log) g fs qs = run_goes log g (Sent p q m) refl fs qs (λ h fs' qs'. runs log h fs' qs')
runs (Received p q m ∷ log) g fs qs = run_goes log g (Received p q m) refl fs qs (λ h fs' qs'. runs log h fs' qs')

pub permitted_run : (a : Agreement) → Given a → (log : List Event) → IsPermitted a log → (h : GlobalTree) × Run a.global (actions log) h
permitted_run a f log p =
    runs log a.global
    (λ r. elim (cases_Bool (has_role r a.roles)) [
      | inl i ↦ let t = p.traces r i in (t.0, start_in a f r t.0 t.1, t.2)
      | inr n ↦ (LocalEnd, start_out a f r n, subst (λ z. IsTrace LocalEnd z) (sym (own_nothing a.roles log p.declared r n)) tt)
    ])
    (λ x y. ([], carries_start a.global f.sound f.closed x y, λ before after e. p.queued before after e x y))

-- what is in flight
path_flies : (p q : List ℕ) (m : Message) (g : GlobalTree) (v : List Event) (a b : List ℕ) (w : List Message) → Bears p q m g a b w → ((u : List Message) → Carries g a b u → sent a b v ≡ u) → ((a ≡ p) × (b ≡ q)) ⊎ NotPair a p b q → sent a b (Sent p q m ∷ v) ≡ w
path_flies p q m g v a b w c ih (inl i) =
    let y = c.0 i.0 i.1 in
    sent_yes a b p q m v i.0 i.1 ∙ ap (λ z. m ∷ z) (ih y.0 y.2) ∙ sym y.1
path_flies p q m g v a b w c ih (inr n) = sent_no a b p q m v n ∙ ih w (c.1 n)

path_carries : {g : GlobalTree} {v : List Event} → OnPath g v → (a b : List ℕ) (w : List Message) → Carries g a b w → sent a b v ≡ w
path_carries ends a b w c = sym c
path_carries repeats a b w c = sym c.0
path_carries (chooses x rest) a b w c = path_carries rest a b w (all_carries x a b w c.4)
path_carries (flies {p} {q} {m} {g} {w = v} x rest) a b w c = path_flies p q m g v a b w (carries_at x p q a b w c.1) (λ u d. path_carries rest a b u d) (pair_cases a p b q)

pub run_carried : (a : Agreement) → Given a → (log : List Event) (h : GlobalTree) → Run a.global (actions log) h → (p q : List ℕ) → Carries h p q (flights p q log)
run_carried a f log h rn p q =
    let y = run_carries log a.global h rn p q [] (carries_start a.global f.sound f.closed p q) in
    subst (λ z. Carries h p q z) (sym (flights_are p q log y.0 y.1)) y.2

-- a state has a path
mutual
  some_path : (g : GlobalTree) (a b : List ℕ) (w : List Message) → Carries g a b w → (v : List Event) × OnPath g v
  some_path GlobalEnd a b w c = ([], ends)
  some_path (GlobalVar k) a b w c = absurd c
  some_path (GlobalRec g) a b w c = ([], repeats)
  some_path (Comm p q bs) a b w c = let y = some_branch bs a b w c.1 c.4 in (y.4, chooses y.3 y.5)
  some_path (Flight p q j bs) a b w c = let y = that_branch bs j p q a b w c.1 in (Sent p q y.0 ∷ y.3, flies y.2 y.4)

  some_branch : (bs : GlobalBranches) (a b : List ℕ) (w : List Message) → NonEmpty bs → CarriesAll bs a b w → (j : ℕ) × (m : Message) × (g : GlobalTree) × IsBranch bs j m g × (v : List Event) × OnPath g v
  some_branch NoBranch a b w n c = absurd n
  some_branch (Branch m g bs) a b w n c = let y = some_path g a b w c.0 in (0, m, g, first, y.0, y.1)

  that_branch : (bs : GlobalBranches) (j : ℕ) (p q a b : List ℕ) (w : List Message) → CarriesAt bs j p q a b w → (m : Message) × (g : GlobalTree) × IsBranch bs j m g × (v : List Event) × OnPath g v
  that_branch NoBranch j p q a b w c = absurd c
  that_branch (Branch m g bs) zero p q a b w c = elim (pair_cases a p b q) [
    | inl i ↦ let x = c.0 i.0 i.1 in let y = some_path g a b x.0 x.2 in (m, g, first, y.0, y.1)
    | inr n ↦ let y = some_path g a b w (c.1 n) in (m, g, first, y.0, y.1)
  ]
  that_branch (Branch m g bs) (suc j) p q a b w c = let y = that_branch bs j p q a b w c in (y.0, y.1, later y.2, y.3, y.4)

-- the oldest message may be received
receive_joined : (roles : List (List ℕ)) (log : List Event) (p q : List ℕ) (m : Message) → AllJoined roles log → has_joined q log ≡ true → AllJoined roles (log ++ Received p q m ∷ [])
receive_joined roles log p q m j h before after e eq =
    elim (split_cases log before after (Received p q m) e eq) [
      | inl i ↦ let P : List Event → Type 0 = λ b. IsJoined roles b e in
          let Q : Event → Type 0 = λ x. IsJoined roles log x in
          subst P (sym i.0) (subst Q (sym i.1) h)
      | inr i ↦ j before i.0 e i.1
    ]

oldest_next : (a : Agreement) → Given a → (log : List Event) → IsPermitted a log → (p q : List ℕ) → Awaits a log p q → (m : Message) (w : List Message) → flights p q log ≡ m ∷ w → IsPermitted a (log ++ Received p q m ∷ [])
oldest_next a f log pm p q aw m w e =
    let rn = permitted_run a f log pm in
    let y = run_follows log a.global rn.0 rn.1 q aw.start (start_in a f q aw.start aw.projected) in
    let fk : Follows rn.0 q aw.now = subst (λ z. Follows rn.0 q z) (leads_one (own_actions q log) aw.start y.0 aw.now y.1 aw.leads) y.2 in
    let st = can_receive rn.0 q p aw.message m aw.now aw.next w fk aw.receives (subst (λ z. Carries rn.0 p q z) e (run_carried a f log rn.0 rn.1 p q)) in
    run_permitted a f (log ++ Received p q m ∷ []) (receive_joined a.roles log p q m pm.joined aw.joined) st.0
    (subst (λ z. Run a.global z st.0) (sym (actions_on log (Received p q m) refl)) (run_on rn.1 (Received p q m) st.1))

pub simulates : (a : Agreement) → is_protocol a.roles a.global ≡ true → Simulates a
simulates a h =
    let f = given a h in
    record {
      exact = λ log. (
        λ p. let r = permitted_run a f log p in record { joined = p.joined; state = r.0; run = r.1 },
        λ r. run_permitted a f log r.joined r.state r.run,
      );
      carries = λ log s rn v x p q. path_carries x p q (flights p q log) (run_carried a f log s rn p q);
      path = λ log s rn. some_path s [] [] (flights [] [] log) (run_carried a f log s rn [] []);
      oldest = λ log p s q aw m w e. oldest_next a f log p s q aw m w e;
    }
