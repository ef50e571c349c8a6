-- The next actions of a role: those of its state's edges that the messages in flight allow.
use Rattle.std.proofs.Common.{◌≡◌, ◌↔◌, true, false, ℕ, zero, suc, ◌+◌, ◌<◌, ◌≤◌, List, [], ◌∷◌, ◌++◌, Some, None, AllPairs, Contains, length, get_or, take, drop, map, slice_get, slice_index_or, refl, sym, ap, subst, ◌∙◌, append_assoc, inl, inr, arith}
use Rattle.std.proofs.lemmas.Bool.{true≢false}
use Rattle.std.proofs.lemmas.List.{append-nil, take_more, take_all, drop_more, drop_all, get_or-map, length-map}
use Rattle.std.proofs.lemmas.List.Elements.{Contains-push, Contains-push_cases, Contains-append_left}
use Rattle.std.proofs.lemmas.List.Quantifiers.{all_pairs_remove}
use Rattle.std.proofs.lemmas.Option.{same_Some}
use Rattle.scrib_types.specs.declared.event.Action.{Action}
use Rattle.scrib_types.specs.declared.event.Action.TheVariants.{Join, Sends, Receives}
use Rattle.scrib_types.specs.declared.event.Event.{Event}
use Rattle.scrib_types.specs.Agreement.{Agreement}
use Rattle.scrib_types.specs.Judgement.{ComesBefore, AreAllowed}
use Rattle.scrib_types.specs.Logs.{event_of}
use Rattle.scrib_types.specs.Permitted.{IsPermitted}
use Rattle.scrib_types.specs.WellFormed.{well_formed}
use Rattle.scrib_machine.specs.declared.machine.Edge.{Edge}
use Rattle.scrib_machine.specs.Machines.{Steps}
use Rattle.scrib_record.specs.declared.role_state.RoleState.{RoleState}
use Rattle.scrib_record.specs.declared.configuration.Configuration.{Configuration}
use Rattle.scrib_record.specs.Following.{MayFollow}
use Rattle.scrib_record.specs.Configurations.{LeadsTo, in_flight, IsEnabled}
use Rattle.scrib_record.specs.Places.{place_in}
use Rattle.scrib_record.proofs.RolePlaces.{place_for, is_declared}
use Rattle.scrib_record.proofs.PermittedLogLemmas.{permitted_on, may_follow}
use Rattle.scrib_record.proofs.Partners.{acts_among}
use Rattle.scrib_record.proofs.ConfigurationLemmas.{IsAt, role_state_for, acts_on, acts_from, front_oldest, oldest_front}
use Rattle.scrib_record.proofs.AdvanceLemmas.{join_nobody, act_nobody}

abbrev pub act_of : Edge → Action
act_of e = e.action

-- lists in order, without one of their elements
pairs_without : (R : Action → Action → Type 0) (xs ys : List Action) (y : Action) → AllPairs R (xs ++ y ∷ ys) → AllPairs R (xs ++ ys)
pairs_without R xs ys y h = subst (AllPairs R) (removed xs) (all_pairs_remove R (xs ++ y ∷ ys) (length xs) (within xs) h)
  where
    removed : (xs : List Action) → take (length xs) (xs ++ y ∷ ys) ++ drop (suc (length xs)) (xs ++ y ∷ ys) ≡ xs ++ ys
    removed [] = refl
    removed (x ∷ xs) = ap (λ zs. x ∷ zs) (removed xs)

    within : (xs : List Action) → length xs < length (xs ++ y ∷ ys)
    within [] = omega arith
    within (x ∷ xs) = let w = within xs in omega arith

-- the actions that pass, up to the i-th
pub record PassSoFar (P : Action → Type 0) (actions : List Action) (i : ℕ) (list : List Action) : Type 0 where
  pub sorted : AllPairs ComesBefore (list ++ drop i actions)
  pub exact : (act : Action) → Contains list act ↔ (Contains (take i actions) act × P act)

nothing : {X : Type 0} (x : X) → Contains [] x → ⊥
nothing x h = absurd (omega (arith, h.1))

pub pass_none : (P : Action → Type 0) (actions list : List Action) → AllPairs ComesBefore actions → list ≡ [] → PassSoFar P actions 0 list
pass_none P actions list h e = record {
  sorted = let R : Action → Action → Type 0 = ComesBefore in subst (λ z. AllPairs R (z ++ actions)) (sym e) h;
  exact = λ act. (λ n. absurd (nothing act (subst (λ (z : List Action). Contains z act) e n)), λ n. absurd (nothing act n.0));
}

pub pass_more : (P : Action → Type 0) (actions list new : List Action) (i : ℕ) (x : Action) → i < length actions → x ≡ get_or actions i x → PassSoFar P actions i list → P x → new ≡ list ++ x ∷ [] → PassSoFar P actions (i + 1) new
pass_more P actions list new i x n is h p e =
    let R : Action → Action → Type 0 = ComesBefore in
    let rest : drop i actions ≡ x ∷ drop (i + 1) actions = drop_more actions i x n ∙ ap (λ y. y ∷ drop (i + 1) actions) (sym is) in
    let more : take (i + 1) actions ≡ take i actions ++ x ∷ [] = take_more actions i x n ∙ ap (λ y. take i actions ++ y ∷ []) (sym is) in
    record {
      sorted = subst (AllPairs R) (ap (λ z. list ++ z) rest ∙ sym (append_assoc list (x ∷ []) (drop (i + 1) actions)) ∙ ap (λ z. z ++ drop (i + 1) actions) (sym e)) h.sorted;
      exact = λ act. (
        λ c. elim (Contains-push_cases list x act (subst (λ (z : List Action). Contains z act) e c)) [
          | inl l ↦ let q = (h.exact act).0 l in (subst (λ (z : List Action). Contains z act) (sym more) (Contains-append_left (take i actions) (x ∷ []) act q.0), q.1)
          | inr s ↦ (subst (λ (z : List Action). Contains z act) (sym more) (subst (λ y. Contains (take i actions ++ x ∷ []) y) s (Contains-push (take i actions) x)), subst P s p)
        ],
        λ c. subst (λ (z : List Action). Contains z act) (sym e) (elim (Contains-push_cases (take i actions) x act (subst (λ (z : List Action). Contains z act) more c.0)) [
          | inl l ↦ Contains-append_left list (x ∷ []) act ((h.exact act).1 (l, c.1))
          | inr s ↦ subst (λ y. Contains (list ++ x ∷ []) y) s (Contains-push list x)
        ]),
      );
    }

pub pass_skip : (P : Action → Type 0) (actions list : List Action) (i : ℕ) (x : Action) → i < length actions → x ≡ get_or actions i x → PassSoFar P actions i list → (P x → ⊥) → PassSoFar P actions (i + 1) list
pass_skip P actions list i x n is h p =
    let R : Action → Action → Type 0 = ComesBefore in
    let rest : drop i actions ≡ x ∷ drop (i + 1) actions = drop_more actions i x n ∙ ap (λ y. y ∷ drop (i + 1) actions) (sym is) in
    let more : take (i + 1) actions ≡ take i actions ++ x ∷ [] = take_more actions i x n ∙ ap (λ y. take i actions ++ y ∷ []) (sym is) in
    record {
      sorted = pairs_without R list (drop (i + 1) actions) x (subst (AllPairs R) (ap (λ z. list ++ z) rest) h.sorted);
      exact = λ act. (
        λ c. let q = (h.exact act).0 c in (subst (λ (z : List Action). Contains z act) (sym more) (Contains-append_left (take i actions) (x ∷ []) act q.0), q.1),
        λ c. elim (Contains-push_cases (take i actions) x act (subst (λ (z : List Action). Contains z act) more c.0)) [
          | inl l ↦ (h.exact act).1 (l, c.1)
          | inr s ↦ absurd (p (subst P (sym s) c.1))
        ],
      );
    }

-- one more edge
pub edge_more : (P : Action → Type 0) (es : List Edge) (list new : List Action) (i : ℕ) (e : Edge) (x : Action) → i < length es → e ≡ get_or es i e → PassSoFar P (map act_of es) i list → P e.action → x ≡ e.action → new ≡ list ++ x ∷ [] → PassSoFar P (map act_of es) (i + 1) new
edge_more P es list new i e x n is h p same push =
    let there : e.action ≡ get_or (map act_of es) i e.action = ap act_of is ∙ sym (get_or-map act_of es i e e.action n) in
    pass_more P (map act_of es) list new i e.action (omega (arith, length-map es act_of)) there h p (push ∙ ap (λ y. list ++ y ∷ []) same)

pub edge_skip : (P : Action → Type 0) (es : List Edge) (list new : List Action) (i : ℕ) (e : Edge) → i < length es → e ≡ get_or es i e → PassSoFar P (map act_of es) i list → (P e.action → ⊥) → new ≡ list → PassSoFar P (map act_of es) (i + 1) new
edge_skip P es list new i e n is h p same =
    let there : e.action ≡ get_or (map act_of es) i e.action = ap act_of is ∙ sym (get_or-map act_of es i e e.action n) in
    subst (PassSoFar P (map act_of es) (i + 1)) (sym same) (pass_skip P (map act_of es) list i e.action (omega (arith, length-map es act_of)) there h p)

pub pass_sorted : (P : Action → Type 0) (actions list : List Action) (n : ℕ) → length actions ≤ n → PassSoFar P actions n list → AllPairs ComesBefore list
pass_sorted P actions list n le h =
    let R : Action → Action → Type 0 = ComesBefore in
    subst (AllPairs R) (ap (λ z. list ++ z) (drop_all n actions le) ∙ append-nil list) h.sorted

pub pass_exact : (P : Action → Type 0) (actions list : List Action) (n : ℕ) → length actions ≤ n → PassSoFar P actions n list → (act : Action) → Contains list act ↔ (Contains actions act × P act)
pass_exact P actions list n le h act =
    let all = take_all n actions le in (
      λ c. let q = (h.exact act).0 c in (subst (λ (z : List Action). Contains z act) all q.0, q.1),
      λ c. (h.exact act).1 (subst (λ (z : List Action). Contains z act) (sym all) c.0, c.1),
    )

-- the actions of edges
edge_for : (es : List Edge) (act : Action) → Contains (map act_of es) act → (n : ℕ) × Contains es (record { action = act; next = n })
edge_for es act h = found es h.0 (omega (arith, h.1, length-map es act_of)) h.2
  where
    found : (es : List Edge) (k : ℕ) → k < length es → slice_index_or (map act_of es) k act ≡ act → (n : ℕ) × Contains es (record { action = act; next = n })
    found [] k l e = absurd (omega arith)
    found (x ∷ es) zero l e = (x.next, (0, omega arith, ap (λ (y : Action). record { action = y; next = x.next }) e))
    found (x ∷ es) (suc k) l e = let w = found es k (omega arith) e in (w.0, (suc w.1.0, omega (arith, w.1.1), w.1.2))

action_of_edge : (es : List Edge) (act : Action) (n : ℕ) → Contains es (record { action = act; next = n }) → Contains (map act_of es) act
action_of_edge es act n h =
    (h.0, omega (arith, h.1, length-map es act_of), get_or-map act_of es h.0 (record { action = act; next = n }) act h.1 ∙ ap act_of h.2)

steps_of : (m : List (List Edge)) (i : ℕ) (es : List Edge) (act : Action) → slice_get m i ≡ Some es → Contains (map act_of es) act → (n : ℕ) × Steps m i act n
steps_of m i es act here h = let w = edge_for es act h in (w.0, record { edges = es; here = here; there = w.1 })

edges_with : (m : List (List Edge)) (i : ℕ) (es : List Edge) (act : Action) (n : ℕ) → slice_get m i ≡ Some es → Steps m i act n → Contains (map act_of es) act
edges_with m i es act n here s =
    action_of_edge es act n (subst (λ (x : List Edge). Contains x (record { action = act; next = n })) (same_Some s.edges es (sym s.here ∙ here)) s.there)

-- what may follow, as actions of one role
record IsChooser (a : Agreement) (ms : List (List (List Edge))) (log : List Event) (c : Configuration) (r : List ℕ) (i : ℕ) (s : RoleState) (m : List (List Edge)) (es : List Edge) : Type 0 where
  led_to : LeadsTo a ms log c
  at : IsAt a ms log r i s m
  joined : s.joined ≡ true
  edges : slice_get m s.state ≡ Some es
  formed : well_formed a.roles a.global ≡ true

may_from : (a : Agreement) (ms : List (List (List Edge))) (log : List Event) (c : Configuration) (r : List ℕ) (i : ℕ) (s : RoleState) (m : List (List Edge)) (es : List Edge) (act : Action) → IsChooser a ms log c r i s m es → Contains (map act_of es) act → IsEnabled a.roles (in_flight c) i act → MayFollow a log (event_of r act)
may_from a ms log c r i s m es Join h k u = absurd u
may_from a ms log c r i s m es (Sends q x) h k u = acts_on a ms log r i s m (Sends q x) h.at h.joined (steps_of m s.state es (Sends q x) h.edges k)
may_from a ms log c r i s m es (Receives p x) h k u =
    (acts_on a ms log r i s m (Receives p x) h.at h.joined (steps_of m s.state es (Receives p x) h.edges k), front_oldest a log (in_flight c) p r u.0 i x h.led_to.flying u.1 h.at.place u.2)

due_from : (a : Agreement) (ms : List (List (List Edge))) (log : List Event) (c : Configuration) (r : List ℕ) (i : ℕ) (s : RoleState) (m : List (List Edge)) (es : List Edge) (act : Action) → IsChooser a ms log c r i s m es → MayFollow a log (event_of r act) → Contains (map act_of es) act × IsEnabled a.roles (in_flight c) i act
due_from a ms log c r i s m es Join h f = absurd (true≢false (sym h.joined ∙ h.at.role_state.joined ∙ f.1))
due_from a ms log c r i s m es (Sends q x) h f =
    let w = acts_from a ms log r i s m (Sends q x) h.at f in (edges_with m s.state es (Sends q x) w.1.0 h.edges w.1.1, tt)
due_from a ms log c r i s m es (Receives p x) h f =
    let w = acts_from a ms log r i s m (Receives p x) h.at f.0 in
    let from = place_for a.roles p (acts_among a log r (Receives p x) h.formed f.0) in
    (edges_with m s.state es (Receives p x) w.1.0 h.edges w.1.1, (from.0, from.1, oldest_front a log (in_flight c) p r from.0 i x h.led_to.flying from.1 h.at.place f.1))

pub allowed_present : (a : Agreement) (ms : List (List (List Edge))) (log : List Event) (c : Configuration) (r : List ℕ) (i : ℕ) (s : RoleState) (m : List (List Edge)) (es : List Edge) (list : List Action) → LeadsTo a ms log c → IsAt a ms log r i s m → s.joined ≡ true → slice_get m s.state ≡ Some es → well_formed a.roles a.global ≡ true → IsPermitted a log → AllPairs ComesBefore list → ((act : Action) → Contains list act ↔ (Contains (map act_of es) act × IsEnabled a.roles (in_flight c) i act)) → AreAllowed a log r list
allowed_present a ms log c r i s m es list st at j here f p sorted exact =
    let h : IsChooser a ms log c r i s m es = record { led_to = st; at = at; joined = j; edges = here; formed = f } in
    record {
      sorted = sorted;
      exact = λ act. (
        λ k. let q = (exact act).0 k in permitted_on a log (event_of r act) p (may_from a ms log c r i s m es act h q.0 q.1),
        λ k. (exact act).1 (due_from a ms log c r i s m es act h (may_follow a log (event_of r act) k)),
      );
    }

nobody : (a : Agreement) (log : List Event) (r : List ℕ) (act : Action) → place_in a.roles r ≡ None → MayFollow a log (event_of r act) → ⊥
nobody a log r Join n h = join_nobody a log r n h
nobody a log r (Sends q m) n h = act_nobody a log r n (Sends q m) h
nobody a log r (Receives p m) n h = act_nobody a log r n (Receives p m) h.0

pub allowed_nobody : (a : Agreement) (log : List Event) (r : List ℕ) (list : List Action) → place_in a.roles r ≡ None → list ≡ [] → AreAllowed a log r list
allowed_nobody a log r list n e = record {
  sorted = λ i j d lt w. absurd (let z : length list ≡ 0 = ap length e in omega arith);
  exact = λ act. (
    λ h. absurd (nothing act (subst (λ (z : List Action). Contains z act) e h)),
    λ h. absurd (nobody a log r act n (may_follow a log (event_of r act) h)),
  );
}

only_joins : (a : Agreement) (ms : List (List (List Edge))) (log : List Event) (c : Configuration) (r : List ℕ) (i : ℕ) (s : RoleState) (act : Action) → LeadsTo a ms log c → place_in a.roles r ≡ Some i → slice_get c.role_states.items i ≡ Some s → s.joined ≡ false → MayFollow a log (event_of r act) → Join ≡ act
only_joins a ms log c r i s Join st e at j h = refl
only_joins a ms log c r i s (Sends q m) st e at j h = absurd (true≢false (sym h.joined ∙ sym (role_state_for a ms log c.role_states.items r i s st.states_are e at).joined ∙ j))
only_joins a ms log c r i s (Receives p m) st e at j h = absurd (true≢false (sym h.0.joined ∙ sym (role_state_for a ms log c.role_states.items r i s st.states_are e at).joined ∙ j))

pub allowed_absent : (a : Agreement) (ms : List (List (List Edge))) (log : List Event) (c : Configuration) (r : List ℕ) (i : ℕ) (s : RoleState) (list : List Action) → LeadsTo a ms log c → place_in a.roles r ≡ Some i → slice_get c.role_states.items i ≡ Some s → s.joined ≡ false → IsPermitted a log → list ≡ Join ∷ [] → AreAllowed a log r list
allowed_absent a ms log c r i s list st e at j p is =
    let may : MayFollow a log (event_of r Join) = (is_declared a.roles r i e, sym (role_state_for a ms log c.role_states.items r i s st.states_are e at).joined ∙ j) in
    record {
      sorted = λ k n d lt w. absurd (let z : length list ≡ 1 = ap length is in omega arith);
      exact = λ act. (
        λ h. elim (Contains-push_cases [] Join act (subst (λ (z : List Action). Contains z act) is h)) [
          | inl z ↦ absurd (nothing act z)
          | inr q ↦ subst (λ y. IsPermitted a (log ++ event_of r y ∷ [])) q (permitted_on a log (event_of r Join) p may)
        ],
        λ h. let q = only_joins a ms log c r i s act st e at j (may_follow a log (event_of r act) h) in
            subst (λ (z : List Action). Contains z act) (sym is) (subst (λ y. Contains (Join ∷ []) y) q (Contains-push [] Join)),
      );
    }
