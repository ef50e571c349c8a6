-- What each role may do next after a permitted log, and that it is one thing.
use Rattle.std.proofs.Common.{◌≡◌, ◌≢◌, ◌||◌, inl, inr, Bool, true, false, ℕ, List, [], ◌∷◌, Contains, map, if◌then◌else◌, refl, sym, ap, ◌∙◌, subst}
use Rattle.std.specs.List.{AllByRecursion}
use Rattle.std.specs.Str.{bytes_eq}
use Rattle.std.proofs.lemmas.Bool.{true≢false, cases_Bool, or_right}
use Rattle.scrib_types.specs.declared.message.Message.{Message}
use Rattle.scrib_types.specs.declared.event.Action.{Action}
use Rattle.scrib_types.specs.declared.event.Action.TheVariants.{Join, Sends, Receives}
use Rattle.scrib_types.specs.declared.event.Event.{Event}
use Rattle.scrib_types.specs.Trees.{GlobalTree, LocalTree, LocalEnd}
use Rattle.scrib_types.specs.Projection.{occurs}
use Rattle.scrib_types.specs.WellFormed.{has_role, is_protocol}
use Rattle.scrib_types.specs.Agreement.{Agreement}
use Rattle.scrib_types.specs.Permitted.{IsPermitted}
use Rattle.scrib_types.specs.Traces.{LocalTransition}
use Rattle.scrib_types.specs.Logs.{own_actions, has_joined}
use Rattle.scrib_types.specs.Queues.{flights}
use Rattle.scrib_global.specs.declared.next.RoleNext.{RoleNext}
use Rattle.scrib_global.specs.declared.next.RoleNext.TheVariants.{MayJoin, Done, May, WaitsFor}
use Rattle.scrib_global.specs.declared.next.RoleStatus.{RoleStatus}
use Rattle.scrib_global.specs.Simulation.{Leads, Awaits}
use Rattle.scrib_global.specs.Unfolded.{acts_first}
use Rattle.scrib_global.specs.Next.{IsTypeAfter, next_by_type, IsNextOf, IsNextByType, AreNextByType}
use Rattle.scrib_global.specs.NextEvents.{ComesNext, IsAtEnd, MayMake, IsWaiting, Describes, SameNext, DeterminesNext, IsStatus, AreNext}
use Rattle.scrib_global.proofs.Names.{name_itself}
use Rattle.scrib_global.proofs.Locals.{does_as}
use Rattle.scrib_global.proofs.ProtocolFacts.{Given, given, tests, projects_of}
use Rattle.scrib_global.proofs.Candidates.{Among, contains_among, contains_first}
use Rattle.scrib_global.proofs.Runs.{simulates}
use Rattle.scrib_global.proofs.FormedTypes.{Formed, formed, leads_formed, acts_occurs}
use Rattle.scrib_global.proofs.OfferedActions.{offers, among_contains, does_offered, offered_does, end_or_offers, AllSends, AllFrom, NextBy, by_end, by_sends, by_oldest, by_waiting, next_by}
use Rattle.scrib_global.proofs.NextLists.{chosen_true, chosen_false, by_type}
use Rattle.scrib_global.proofs.NextLogs.{join_next, join_first, send_next, oldest_next, type_after, type_after_one, next_does, own_before_join}

-- a role that joined, after a permitted log
record Joined (a : Agreement) (log : List Event) (r : List ℕ) (l : LocalTree) : Type 0 where
  facts : Given a
  valid : is_protocol a.roles a.global ≡ true
  permitted : IsPermitted a log
  known : has_role r a.roles ≡ true
  joined : has_joined r log ≡ true
  after : IsTypeAfter a.global log r l

does : (a : Agreement) (log : List Event) (r : List ℕ) (l : LocalTree) → Joined a log r l → (act : Action) → ComesNext a log r act → (k : LocalTree) × LocalTransition l act k
does a log r l j act h = next_does a log r j.known j.joined l j.after act h

some_actions : (acts : List Action) (act : Action) → Among act acts → acts ≢ []
some_actions [] act h e = absurd h
some_actions (x ∷ acts) act h e = cc e

-- the end
end_does : (act : Action) (k : LocalTree) → LocalTransition LocalEnd act k → ⊥
end_does act k d = does_as d

at_end : (a : Agreement) (log : List Event) (r : List ℕ) → Joined a log r LocalEnd → IsAtEnd a log r
at_end a log r j = record {
  joined = j.joined;
  ended = j.after;
  none = λ act h. let y = does a log r LocalEnd j act h in end_does act y.0 y.1;
}

-- sends
send_comes : (a : Agreement) (log : List Event) (r : List ℕ) (l : LocalTree) → Joined a log r l → (act : Action) → Among act (offers l) → (q : List ℕ) (m : Message) → act ≡ Sends q m → ComesNext a log r act
send_comes a log r l j act h q m e =
    let y = offered_does l act h in
    let d : LocalTransition l (Sends q m) y.0 = subst (λ x. LocalTransition l x y.0) e y.1 in
    subst (λ x. ComesNext a log r x) (sym e) (send_next a j.facts log j.permitted r j.joined j.after.start l y.0 j.after.projected j.after.leads q m d)

may_send : (a : Agreement) (log : List Event) (r : List ℕ) (l : LocalTree) → Joined a log r l → (first : Action) → Among first (offers l) → AllSends (offers l) → MayMake a log r (offers l)
may_send a log r l j first h all = record {
  joined = j.joined;
  some = some_actions (offers l) first h;
  exact = λ act. (
    λ c. let i = among_contains act (offers l) c in let y = all act i in send_comes a log r l j act i y.0 y.1 y.2,
    λ n. let y = does a log r l j act n in contains_among act (offers l) (does_offered y.1),
  );
}

-- receptions
same_message : (m n : Message) (w v : List Message) → m ∷ w ≡ n ∷ v → m ≡ n
same_message m n w v e = cc

same_reception : (p q : List ℕ) (m n : Message) → Receives p m ≡ Receives q n → (p ≡ q) × (m ≡ n)
same_reception p q m n e = (cc, cc)

reception_comes : (a : Agreement) (log : List Event) (r : List ℕ) (l : LocalTree) → Joined a log r l → (first : Action) → Among first (offers l) → (p : List ℕ) → AllFrom p (offers l) → (m : Message) (w : List Message) → flights p r log ≡ m ∷ w → ComesNext a log r (Receives p m)
reception_comes a log r l j first h p all m w e =
    let x = all first h in
    let y = offered_does l first h in
    let awaits : Awaits a log p r =
    record {
      joined = j.joined;
      start = j.after.start;
      projected = j.after.projected;
      now = l;
      leads = j.after.leads;
      message = x.0;
      next = y.0;
      receives = subst (λ z. LocalTransition l z y.0) x.1 y.1;
    } in
    (simulates a j.valid).oldest log j.permitted p r awaits m w e

-- a reception that comes next is of the oldest message in flight
next_oldest : (a : Agreement) (log : List Event) (r : List ℕ) (l : LocalTree) → Joined a log r l → (p : List ℕ) → AllFrom p (offers l) → (act : Action) → ComesNext a log r act → (m : Message) × (w : List Message) × (act ≡ Receives p m) × (flights p r log ≡ m ∷ w)
next_oldest a log r l j p all act h =
    let y = does a log r l j act h in
    let x = all act (does_offered y.1) in
    let z = oldest_next a log p r x.0 (subst (λ d. ComesNext a log r d) x.1 h) in
    (x.0, z.0, x.1, z.1)

may_receive : (a : Agreement) (log : List Event) (r : List ℕ) (l : LocalTree) → Joined a log r l → (first : Action) → Among first (offers l) → (p : List ℕ) → AllFrom p (offers l) → (m : Message) (w : List Message) → flights p r log ≡ m ∷ w → MayMake a log r (Receives p m ∷ [])
may_receive a log r l j first h p all m w e = record {
  joined = j.joined;
  some = λ i. cc i;
  exact = λ act. (
    λ c. elim (among_contains act (Receives p m ∷ []) c) [
      | inl i ↦ subst (λ d. ComesNext a log r d) (sym i) (reception_comes a log r l j first h p all m w e)
      | inr i ↦ absurd i
    ],
    λ n.
        let y = next_oldest a log r l j p all act n in
        let same : y.0 ≡ m = same_message y.0 m y.1 w (sym y.3 ∙ e) in
        contains_among act (Receives p m ∷ []) (inl (y.2 ∙ ap (λ (x : Message). Receives p x) same)),
  );
}

no_message : (m : Message) (w : List Message) → ◌≡◌ {A = List Message} [] (m ∷ w) → ⊥
no_message m w e = cc e

waiting : (a : Agreement) (log : List Event) (r : List ℕ) (l : LocalTree) → Joined a log r l → (first : Action) → Among first (offers l) → (p : List ℕ) → AllFrom p (offers l) → flights p r log ≡ [] → IsWaiting a log r (offers l)
waiting a log r l j first h p all e = record {
  joined = j.joined;
  none = λ act n. let y = next_oldest a log r l j p all act n in no_message y.0 y.1 (sym e ∙ y.3);
  left = l;
  after = j.after;
  some = some_actions (offers l) first h;
  exact = λ act. (
    λ c. offered_does l act (among_contains act (offers l) c),
    λ d. contains_among act (offers l) (does_offered d.1),
  );
  sender = p;
  receptions = λ act c. all act (among_contains act (offers l) c);
  empty = e;
}

-- by the form of the type that is left
described_by : (a : Agreement) (log : List Event) (r : List ℕ) (l : LocalTree) → Joined a log r l → (first : Action) (acts : List Action) (next : RoleNext) → NextBy r log acts next → acts ≡ offers l → Among first acts → Describes a log r next
described_by a log r l j first acts next by_end e h = absurd h
described_by a log r l j first acts next (by_sends all) e h =
    subst (λ xs. MayMake a log r xs) (sym e) (may_send a log r l j first (subst (λ xs. Among first xs) e h) (subst (λ xs. AllSends xs) e all))
described_by a log r l j first acts next (by_oldest {p} {m} {w} all f) e h =
    may_receive a log r l j first (subst (λ xs. Among first xs) e h) p (subst (λ xs. AllFrom p xs) e all) m w f
described_by a log r l j first acts next (by_waiting {p} all f) e h =
    subst (λ xs. IsWaiting a log r xs) (sym e) (waiting a log r l j first (subst (λ xs. Among first xs) e h) p (subst (λ xs. AllFrom p xs) e all) f)

type_formed : (a : Agreement) (log : List Event) (r : List ℕ) (l : LocalTree) → Joined a log r l → Formed l 0
type_formed a log r l j =
    let x = j.after in
    leads_formed (own_actions r log) x.start l x.leads
    (formed a.roles r 0 (projects_of r a.global x.start x.projected) (tests a.roles a.global j.valid).formed j.facts.closed)

joined_describes : (a : Agreement) (log : List Event) (r : List ℕ) (l : LocalTree) → Joined a log r l → Describes a log r (next_by_type l r log)
joined_describes a log r l j = elim (end_or_offers l (type_formed a log r l j)) [
  | inl e ↦ subst (λ x. Describes a log r (next_by_type x r log)) (sym e) (at_end a log r (subst (λ x. Joined a log r x) e j))
  | inr y ↦ described_by a log r l j y.0 (offers l) (next_by_type l r log) (next_by l r log) refl y.1
]

-- a role that hasn't joined
start_acts : (a : Agreement) (log : List Event) → IsPermitted a log → (r : List ℕ) → has_joined r log ≡ false → (l : LocalTree) → IsTypeAfter a.global log r l → acts_first l ≡ occurs r a.global
start_acts a log pm r n l x =
    let still : Leads x.start [] l = subst (λ w. Leads x.start w l) (own_before_join a log pm r n) x.leads in
    subst (λ z. acts_first z ≡ occurs r a.global) still (acts_occurs r a.global x.start (projects_of r a.global x.start x.projected))

-- the next step of a declared role, with what it means
record NextOf (a : Agreement) (log : List Event) (r : List ℕ) (next : RoleNext) : Type 0 where
  is : IsNextOf a log r next
  described : Describes a log r next

next_of : (a : Agreement) → is_protocol a.roles a.global ≡ true → (log : List Event) → IsPermitted a log → (r : List ℕ) → has_role r a.roles ≡ true → (next : RoleNext) → IsNextByType a.global log r next → NextOf a log r next
next_of a v log pm r d next by =
    let t = type_after a log pm r d in
    let yes' : RoleNext = next_by_type t.0 r log in
    let e = by t.0 t.1 in
    elim (cases_Bool (has_joined r log)) [
      | inl j ↦
          let same = e ∙ chosen_true (has_joined r log) yes' (MayJoin (acts_first t.0)) j in
          let here : Joined a log r t.0 = record { facts = given a v; valid = v; permitted = pm; known = d; joined = j; after = t.1 } in
          record {
            is = (t.0, t.1, same ∙ sym (chosen_true (has_joined r log) yes' (MayJoin (occurs r a.global)) j));
            described = subst (λ x. Describes a log r x) (sym same) (joined_describes a log r t.0 here);
          }
      | inr n ↦
          let same = e ∙ chosen_false (has_joined r log) yes' (MayJoin (acts_first t.0)) n ∙ ap (λ (b : Bool). MayJoin b) (start_acts a log pm r n t.0 t.1) in
          record {
            is = (t.0, t.1, same ∙ sym (chosen_false (has_joined r log) yes' (MayJoin (occurs r a.global)) n));
            described = subst (λ x. Describes a log r x) (sym same) (join_next a (given a v) log pm r d n, refl);
          }
    ]

-- one value alone is described
some_action : (acts : List Action) → acts ≢ [] → (act : Action) × Contains acts act
some_action [] h = absurd (h refl)
some_action (x ∷ acts) h = (x, contains_first x acts)

not_both : (a : Agreement) (log : List Event) (r : List ℕ) → ComesNext a log r Join → has_joined r log ≡ true → ⊥
not_both a log r h j = true≢false (sym j ∙ join_first a log r h)

some_or_none : (a : Agreement) (log : List Event) (r : List ℕ) (acts : List Action) → MayMake a log r acts → ((act : Action) → ComesNext a log r act → ⊥) → ⊥
some_or_none a log r acts x none = let y = some_action acts x.some in none y.0 ((x.exact y.0).0 y.1)

end_or_waits : (a : Agreement) (log : List Event) (r : List ℕ) (acts : List Action) → IsAtEnd a log r → IsWaiting a log r acts → ⊥
end_or_waits a log r acts x y =
    let z = some_action acts y.some in
    let d = (y.exact z.0).0 z.1 in
    end_does z.0 d.0 (subst (λ l. LocalTransition l z.0 d.0) (type_after_one a.global log r y.left LocalEnd y.after x.ended) d.1)

both_wait : (a : Agreement) (log : List Event) (r : List ℕ) (xs ys : List Action) → IsWaiting a log r xs → IsWaiting a log r ys → (act : Action) → Contains xs act → Contains ys act
both_wait a log r xs ys x y act h =
    let d = (x.exact act).0 h in
    (y.exact act).1 (d.0, subst (λ l. LocalTransition l act d.0) (type_after_one a.global log r x.left y.left x.after y.after) d.1)

described_one : (a : Agreement) (log : List Event) (r : List ℕ) (m n : RoleNext) → Describes a log r m → Describes a log r n → SameNext m n
described_one a log r (MayJoin b) (MayJoin c) x y = x.1 ∙ sym y.1
described_one a log r (MayJoin b) Done x y = not_both a log r x.0 y.joined
described_one a log r (MayJoin b) (May ys) x y = not_both a log r x.0 y.joined
described_one a log r (MayJoin b) (WaitsFor ys) x y = not_both a log r x.0 y.joined
described_one a log r Done (MayJoin c) x y = not_both a log r y.0 x.joined
described_one a log r Done Done x y = tt
described_one a log r Done (May ys) x y = some_or_none a log r ys y x.none
described_one a log r Done (WaitsFor ys) x y = end_or_waits a log r ys x y
described_one a log r (May xs) (MayJoin c) x y = not_both a log r y.0 x.joined
described_one a log r (May xs) Done x y = some_or_none a log r xs x y.none
described_one a log r (May xs) (May ys) x y = λ act. (λ h. (y.exact act).1 ((x.exact act).0 h), λ h. (x.exact act).1 ((y.exact act).0 h))
described_one a log r (May xs) (WaitsFor ys) x y = some_or_none a log r xs x y.none
described_one a log r (WaitsFor xs) (MayJoin c) x y = not_both a log r y.0 x.joined
described_one a log r (WaitsFor xs) Done x y = end_or_waits a log r xs y x
described_one a log r (WaitsFor xs) (May ys) x y = some_or_none a log r ys y x.none
described_one a log r (WaitsFor xs) (WaitsFor ys) x y = λ act. (both_wait a log r xs ys x y act, both_wait a log r ys xs y x act)

-- one thing holds of each role
pub determines_next : (a : Agreement) → is_protocol a.roles a.global ≡ true → DeterminesNext a
determines_next a v log pm r d =
    let t = type_after a log pm r d in
    let next : RoleNext = (if has_joined r log then next_by_type t.0 r log else MayJoin (acts_first t.0)) in
    let y = next_of a v log pm r d next (by_type a.global log r t.0 t.1) in
    record { next = next; is = y.is; described = y.described; only = λ other h. described_one a log r next other y.described h }

-- the same of each role of a list
abbrev names : List RoleStatus → List (List ℕ)
names found = map (λ (s : RoleStatus). s.role) found

each_status : (a : Agreement) → is_protocol a.roles a.global ≡ true → (log : List Event) → IsPermitted a log → (found : List RoleStatus) → ((r : List ℕ) → has_role r (names found) ≡ true → has_role r a.roles ≡ true) → AllByRecursion (λ (s : RoleStatus). IsNextByType a.global log s.role s.next) found → AllByRecursion (IsStatus a log) found
each_status a v log pm [] known h = tt
each_status a v log pm (s ∷ found) known h =
    let d : has_role s.role a.roles ≡ true = known s.role (ap (λ b. b || has_role s.role (names found)) (name_itself s.role)) in
    let y = next_of a v log pm s.role d s.next h.0 in
    (record { next = y.is; described = y.described }, each_status a v log pm found (λ r i. known r (or_right (bytes_eq r s.role) (has_role r (names found)) i)) h.1)

pub next_found : (a : Agreement) → is_protocol a.roles a.global ≡ true → (log : List Event) → IsPermitted a log → (g : GlobalTree) (roles : List (List ℕ)) (found : List RoleStatus) → g ≡ a.global → roles ≡ a.roles → AreNextByType g log roles found → AreNext a log found
next_found a v log pm g roles found eg er h =
    let listed : names found ≡ a.roles = h.listed ∙ er in
    record {
      permitted = pm;
      listed = listed;
      each = each_status a v log pm found (λ r i. subst (λ x. has_role r x ≡ true) listed i)
          (subst (λ x. AllByRecursion (λ (s : RoleStatus). IsNextByType x log s.role s.next) found) eg h.each);
    }
