-- A permitted log is complete exactly where each declared role is at rest.
use Rattle.std.proofs.Common.{◌≡◌, ◌≢◌, ◌↔◌, ◌||◌, inl, inr, true, false, not, IsTrue, ℕ, List, [], ◌∷◌, ◌++◌, Contains, map, refl, sym, ap, ◌∙◌, subst}
use Rattle.std.specs.List.{AllByRecursion}
use Rattle.std.specs.Str.{bytes_eq}
use Rattle.std.proofs.lemmas.Bool.{true≢false, cases_Bool, or_cases, or_right, and_parts, and_from, not_from_false}
use Rattle.std.proofs.lemmas.Slice.Eq.{bytes_eq-Decides}
use Rattle.std.proofs.lemmas.List.Elements.{Contains-append_left, Contains-push}
use Rattle.scrib_types.specs.declared.message.Message.{Message}
use Rattle.scrib_types.specs.declared.event.Action.{Action}
use Rattle.scrib_types.specs.declared.event.Action.TheVariants as act
use Rattle.scrib_types.specs.declared.event.Event.{Event}
use Rattle.scrib_types.specs.declared.event.Event.TheVariants.{Join, Sent, Received}
use Rattle.scrib_types.specs.Trees.{GlobalTree, GlobalEnd, GlobalVar, GlobalRec, Comm, Flight, GlobalBranches, NoBranch, Branch, LocalTree}
use Rattle.scrib_types.specs.Projection.{occurs, branches_occur, widest}
use Rattle.scrib_types.specs.WellFormed.{has_role, distinct_operators, has_branches, well_formed, branches_well_formed, projects, is_protocol}
use Rattle.scrib_types.specs.Agreement.{Agreement}
use Rattle.scrib_types.specs.Permitted.{IsPermitted}
use Rattle.scrib_types.specs.Traces.{LocalTransition, IsTrace}
use Rattle.scrib_types.specs.Logs.{subject_of, action_of, is_action, own_actions, has_joined, IsJoined}
use Rattle.scrib_global.specs.declared.next.RoleNext.{RoleNext}
use Rattle.scrib_global.specs.declared.next.RoleNext.TheVariants.{MayJoin, Done, May, WaitsFor}
use Rattle.scrib_global.specs.declared.next.RoleStatus.{RoleStatus}
use Rattle.scrib_global.specs.Simulation.{Leads}
use Rattle.scrib_types.specs.Complete.{IsComplete}
use Rattle.scrib_global.specs.Progress.{Completes}
use Rattle.scrib_global.specs.NextEvents.{ComesNext, MayMake, IsWaiting, Describes, IsStatus, AreNext}
use Rattle.scrib_global.proofs.Completion.{completes}
use Rattle.scrib_global.proofs.Progress.{progresses}
use Rattle.scrib_cli.specs.NextLines.{is_at_rest, are_at_rest}

-- A role that occurs in a protocol's type is declared.
declared_as : (roles : List (List ℕ)) (r p : List ℕ) → bytes_eq r p ≡ true → has_role p roles ≡ true → has_role r roles ≡ true
declared_as roles r p e h = subst (λ x. has_role x roles ≡ true) (sym ((bytes_eq-Decides r p).0 e)) h

mutual
  occurs_declared : (roles : List (List ℕ)) (r : List ℕ) (g : GlobalTree) → well_formed roles g ≡ true → occurs r g ≡ true → has_role r roles ≡ true
  occurs_declared roles r GlobalEnd w o = absurd (true≢false (sym o))
  occurs_declared roles r (GlobalVar n) w o = absurd (true≢false (sym o))
  occurs_declared roles r (GlobalRec g) w o = occurs_declared roles r g (and_parts _ (well_formed roles g) w).1 o
  occurs_declared roles r (Comm p q bs) w o =
      let branches = and_parts _ (branches_well_formed roles bs) w in
      let distinct = and_parts _ (distinct_operators bs) branches.0 in
      let some = and_parts _ (has_branches bs) distinct.0 in
      let apart = and_parts _ (not (bytes_eq p q)) some.0 in
      let ends = and_parts (has_role p roles) (has_role q roles) apart.0 in
      elim (or_cases (bytes_eq r p || bytes_eq r q) (branches_occur r bs) o) [
        | inl e ↦ elim (or_cases (bytes_eq r p) (bytes_eq r q) e) [
          | inl i ↦ declared_as roles r p i ends.0
          | inr i ↦ declared_as roles r q i ends.1
        ]
        | inr e ↦ branches_declared roles r bs branches.1 e
      ]
  occurs_declared roles r (Flight p q j bs) w o = absurd (true≢false (sym w))

  branches_declared : (roles : List (List ℕ)) (r : List ℕ) (bs : GlobalBranches) → branches_well_formed roles bs ≡ true → branches_occur r bs ≡ true → has_role r roles ≡ true
  branches_declared roles r NoBranch w o = absurd (true≢false (sym o))
  branches_declared roles r (Branch m g bs) w o =
      let y = and_parts (well_formed roles g) (branches_well_formed roles bs) w in
      elim (or_cases (occurs r g) (branches_occur r bs) o) [
        | inl e ↦ occurs_declared roles r g y.0 e
        | inr e ↦ branches_declared roles r bs y.1 e
      ]

formed : (roles : List (List ℕ)) (g : GlobalTree) → is_protocol roles g ≡ true → well_formed roles g ≡ true
unfolding is_protocol
formed roles g v = let y = and_parts _ (projects widest g roles) v in (and_parts _ (well_formed roles g) y.0).1

-- One event more after a log.
join_first : (a : Agreement) (log : List Event) (r : List ℕ) → ComesNext a log r act.Join → has_joined r log ≡ false
join_first a log r n = (n.joined log [] (Join r) refl).1

same_join : (r s : List ℕ) → ◌≡◌ {A = Event} (Join r) (Join s) → r ≡ s
same_join r s e = cc

no_send : (p q s : List ℕ) (m : Message) → ◌≡◌ {A = Event} (Sent p q m) (Join s) → ⊥
no_send p q s m e = cc e

no_reception : (p q s : List ℕ) (m : Message) → ◌≡◌ {A = Event} (Received p q m) (Join s) → ⊥
no_reception p q s m e = cc e

comes : (a : Agreement) (log : List Event) (e : Event) → IsPermitted a (log ++ e ∷ []) → ComesNext a log (subject_of e) (action_of e)
comes a log (Join r) n = n
comes a log (Sent p q m) n = n
comes a log (Received p q m) n = n

subject_joined : (roles : List (List ℕ)) (log : List Event) (e : Event) → is_action e ≡ true → IsJoined roles log e → has_joined (subject_of e) log ≡ true
subject_joined roles log (Join r) i j = absurd (true≢false (sym i))
subject_joined roles log (Sent p q m) i j = j
subject_joined roles log (Received p q m) i j = j

last_of : (P : Event → Type 0) (xs : List Event) (y : Event) → AllByRecursion P (xs ++ y ∷ []) → P y
last_of P [] y h = h.0
last_of P (x ∷ xs) y h = last_of P xs y h.1

leads_more : (w : List Action) (d : Action) (l k j : LocalTree) → Leads l w k → LocalTransition k d j → IsTrace l (w ++ d ∷ [])
leads_more [] d l k j h s = (j, subst (λ x. LocalTransition x d j) (sym h) s, tt)
leads_more (b ∷ w) d l k j h s = (h.0, h.1, leads_more w d h.0 k j h.2 s)

-- After a complete log each declared role is at rest.
some_action : (acts : List Action) → acts ≢ [] → (d : Action) × Contains acts d
some_action [] h = absurd (h refl)
some_action (x ∷ xs) h = (x, Contains-append_left (x ∷ []) xs x (Contains-push [] x))

none_comes : (a : Agreement) → Completes a → (log : List Event) → IsComplete a log → (r : List ℕ) → has_joined r log ≡ true → (d : Action) → ComesNext a log r d → ⊥
none_comes a law log c r j act.Join n = true≢false (sym j ∙ join_first a log r n)
none_comes a law log c r j (act.Sends q m) n = let y = law.last log c (Sent r q m) n in no_send r q y.0 m y.1
none_comes a law log c r j (act.Receives p m) n = let y = law.last log c (Received p r m) n in no_reception p r y.0 m y.1

none_made : (a : Agreement) → Completes a → (log : List Event) → IsComplete a log → (r : List ℕ) (acts : List Action) → MayMake a log r acts → ⊥
none_made a law log c r acts h = let d = some_action acts h.some in none_comes a law log c r h.joined d.0 ((h.exact d.0).0 d.1)

none_awaited : (a : Agreement) (log : List Event) → IsComplete a log → (r : List ℕ) → has_role r a.roles ≡ true → (acts : List Action) → IsWaiting a log r acts → ⊥
none_awaited a log c r known acts h =
    let d = some_action acts h.some in
    let t = (h.exact d.0).0 d.1 in
    c.ended r known h.after.start h.after.projected d.0 (leads_more (own_actions r log) d.0 h.after.start h.left t.0 h.after.leads t.1)

rests : (a : Agreement) → Completes a → (log : List Event) → IsComplete a log → (r : List ℕ) → has_role r a.roles ≡ true → (next : RoleNext) → Describes a log r next → is_at_rest next ≡ true
rests a law log c r known (MayJoin acts) h =
    let y = law.last log c (Join r) h.0 in
    not_from_false acts (h.1 ∙ ap (λ x. occurs x a.global) (same_join r y.0 y.1) ∙ y.2)
rests a law log c r known Done h = refl
rests a law log c r known (May acts) h = absurd (none_made a law log c r acts h)
rests a law log c r known (WaitsFor acts) h = absurd (none_awaited a log c r known acts h)

abbrev names : List RoleStatus → List (List ℕ)
names found = map (λ (s : RoleStatus). s.role) found

all_rest : (a : Agreement) → Completes a → (log : List Event) → IsComplete a log → (found : List RoleStatus) → ((r : List ℕ) → has_role r (names found) ≡ true → has_role r a.roles ≡ true) → AllByRecursion (IsStatus a log) found → are_at_rest found ≡ true
all_rest a law log c [] known h = refl
all_rest a law log c (s ∷ found) known h =
    let itself : bytes_eq s.role s.role ≡ true = (bytes_eq-Decides s.role s.role).1 refl in
    let here : has_role s.role a.roles ≡ true = known s.role (ap (λ b. b || has_role s.role (names found)) itself) in
    and_from (is_at_rest s.next) (are_at_rest found) (rests a law log c s.role here s.next h.0.described)
    (all_rest a law log c found (λ r i. known r (or_right (bytes_eq r s.role) (has_role r (names found)) i)) h.1)

-- Where each declared role is at rest, no send and no reception comes next, and each role that acts has joined.
status_of : (P : RoleStatus → Type 0) (found : List RoleStatus) (r : List ℕ) → AllByRecursion P found → are_at_rest found ≡ true → has_role r (names found) ≡ true → (s : RoleStatus) × (s.role ≡ r) × P s × (is_at_rest s.next ≡ true)
status_of P [] r all rest i = absurd (true≢false (sym i))
status_of P (s ∷ found) r all rest i =
    let y = and_parts (is_at_rest s.next) (are_at_rest found) rest in
    elim (cases_Bool (bytes_eq r s.role)) [
      | inl e ↦ (s, sym ((bytes_eq-Decides r s.role).0 e), all.0, y.0)
      | inr n ↦ status_of P found r all.1 y.1 (sym (ap (λ b. b || has_role r (names found)) n) ∙ i)
    ]

joined_at_rest : (a : Agreement) (log : List Event) (r : List ℕ) (next : RoleNext) → Describes a log r next → is_at_rest next ≡ true → occurs r a.global ≡ true → has_joined r log ≡ true
joined_at_rest a log r (MayJoin acts) h rest o = absurd (true≢false (sym rest ∙ ap not (h.1 ∙ o)))
joined_at_rest a log r Done h rest o = h.joined
joined_at_rest a log r (May acts) h rest o = h.joined
joined_at_rest a log r (WaitsFor acts) h rest o = h.joined

none_at_rest : (a : Agreement) (log : List Event) (r : List ℕ) (next : RoleNext) → Describes a log r next → is_at_rest next ≡ true → has_joined r log ≡ true → (d : Action) → ComesNext a log r d → ⊥
none_at_rest a log r (MayJoin acts) h rest j d n = true≢false (sym j ∙ join_first a log r h.0)
none_at_rest a log r Done h rest j d n = h.none d n
none_at_rest a log r (May acts) h rest j d n = true≢false (sym rest)
none_at_rest a log r (WaitsFor acts) h rest j d n = true≢false (sym rest)

module _ (a : Agreement) (log : List Event) (found : List RoleStatus) (x : AreNext a log found) (rest : are_at_rest found ≡ true) where
  -- a declared role's status describes it and is at rest
  resting : (r : List ℕ) → has_role r a.roles ≡ true → (next : RoleNext) × Describes a log r next × (is_at_rest next ≡ true)
  resting r known =
      let s = status_of (IsStatus a log) found r x.each rest (subst (λ z. has_role r z ≡ true) (sym x.listed) known) in
      (s.0.next, subst (λ z. Describes a log z s.0.next) s.1 s.2.described, s.3)

  actor_joined : is_protocol a.roles a.global ≡ true → (r : List ℕ) → occurs r a.global ≡ true → has_joined r log ≡ true
  actor_joined v r o =
      let y = resting r (occurs_declared a.roles r a.global (formed a.roles a.global v) o) in
      joined_at_rest a log r y.0 y.1 y.2 o

  no_action : (e : Event) → is_action e ≡ true → IsPermitted a (log ++ e ∷ []) → ⊥
  no_action e i n =
      let r = subject_of e in
      let y = resting r (last_of (λ z. has_role (subject_of z) a.roles ≡ true) log e n.declared) in
      none_at_rest a log r y.0 y.1 y.2 (subject_joined a.roles log e i (n.joined log [] e refl)) (action_of e) (comes a log e n)

pub complete_at_rest : (a : Agreement) → is_protocol a.roles a.global ≡ true → (log : List Event) (found : List RoleStatus) → AreNext a log found → IsTrue (are_at_rest found) ↔ IsComplete a log
complete_at_rest a v log found x = (
  λ rest. elim ((progresses a v).acts log x.permitted (actor_joined a log found x rest v)) [
    | inl c ↦ c
    | inr y ↦ absurd (no_action a log found x rest y.0 y.1 y.2)
  ],
  λ c. all_rest a (completes a v) log c found (λ r i. subst (λ z. has_role r z ≡ true) x.listed i) x.each,
)
