-- The judgement of a whole log, from the judgement of its beginnings.
use Rattle.std.proofs.Common.{◌≡◌, ◌↔◌, ◌||◌, IsTrue, IfOk, Result, Ok, Err, Bool, true, false, ℕ, zero, suc, ◌+◌, ◌<◌, ◌≤◌, List, [], ◌∷◌, ◌++◌, length, get_or, take, drop, filter, refl, sym, ap, subst, ◌∙◌, inl, inr, arith, append_assoc}
use Rattle.std.specs.List.{AllByRecursion}
use Rattle.std.specs.Str.{bytes_eq}
use Rattle.std.proofs.lemmas.Bool.{cases_lt, cases_Bool, true≢false, or_right}
use Rattle.std.proofs.lemmas.List.{take_all, take-append-drop, length-take-le, map-append}
use Rattle.std.proofs.lemmas.List.Elements.{filter-append}
use Rattle.scrib_types.specs.declared.event.Action.{Action}
use Rattle.scrib_types.specs.declared.event.Event.{Event}
use Rattle.scrib_types.specs.declared.event.Verdict.TheVariants.{Permitted, Offence}
use Rattle.scrib_types.specs.Trees.{GlobalTree, LocalTree}
use Rattle.scrib_types.specs.Agreement.{Agreement}
use Rattle.scrib_types.specs.WellFormed.{has_role, is_protocol}
use Rattle.scrib_types.specs.Permitted.{IsPermitted}
use Rattle.scrib_types.specs.Judgement.{AreAllowed, IsOffence}
use Rattle.scrib_types.specs.Logs.{subject_of, action_of, is_action_of, own_actions, AllJoined}
use Rattle.scrib_types.specs.Queues.{IsQueued}
use Rattle.scrib_types.specs.Traces.{IsTrace}
use Rattle.scrib_global.specs.Traced.{IsTraced, AllTraced}
use Rattle.scrib_global.specs.Offences.{Offends}
use Rattle.scrib_global.specs.Simulation.{IsJoinedRun}
use Rattle.scrib_global.proofs.Names.{same_name, name_itself}
use Rattle.scrib_global.proofs.Events.{all_declared}
use Rattle.scrib_global.proofs.ProtocolFacts.{given}
use Rattle.scrib_global.proofs.LogPrefixes.{one_more, at_place, joined_none, queued_none}
use Rattle.scrib_global.proofs.Runs.{simulates}

-- the own actions of each role are a trace, for one role more
pub traced_none : (g : GlobalTree) (log : List Event) → AllTraced g log []
traced_none g log r h = absurd (true≢false (sym h))

traced_end : (g : GlobalTree) (log : List Event) (rs : List (List ℕ)) (r : List ℕ) → AllTraced g log rs → IsTraced g log r → AllTraced g log (rs ++ r ∷ [])
traced_end g log [] r all one s h = elim (cases_Bool (bytes_eq s r)) [
  | inl e ↦ subst (IsTraced g log) (sym (same_name s r e)) one
  | inr n ↦ absurd (true≢false (sym h ∙ ap (λ b. b || false) n))
]
traced_end g log (x ∷ rs) r all one s h = elim (cases_Bool (bytes_eq s x)) [
  | inl e ↦ all s (ap (λ b. b || has_role s rs) e)
  | inr n ↦
      traced_end g log rs r (λ t i. all t (or_right (bytes_eq t x) (has_role t rs) i)) one s (sym (ap (λ b. b || has_role s (rs ++ r ∷ [])) n) ∙ h)
]

pub traced_more : (g : GlobalTree) (log : List Event) (rs : List (List ℕ)) (i : ℕ) (r : List ℕ) → i < length rs → r ≡ get_or rs i r → AllTraced g log (take i rs) → IsTraced g log r → AllTraced g log (take (i + 1) rs)
traced_more g log rs i r n is all one = subst (AllTraced g log) (sym (one_more rs i r n is)) (traced_end g log (take i rs) r all one)

role_at : (rs : List (List ℕ)) (i : ℕ) (r : List ℕ) → i < length rs → has_role (get_or rs i r) rs ≡ true
role_at [] i r n = absurd (omega arith)
role_at (x ∷ rs) zero r n = ap (λ b. b || has_role x rs) (name_itself x)
role_at (x ∷ rs) (suc i) r n = or_right (bytes_eq (get_or rs i r) x) (has_role (get_or rs i r) rs) (role_at rs i r (omega arith))

pub traced_at : (g : GlobalTree) (log : List Event) (rs : List (List ℕ)) (i : ℕ) (r : List ℕ) → i < length rs → r ≡ get_or rs i r → AllTraced g log rs → IsTraced g log r
traced_at g log rs i r n is all = all r (ap (λ x. has_role x rs) is ∙ role_at rs i r n)

pub traced_all : (g : GlobalTree) (log : List Event) (rs : List (List ℕ)) (i : ℕ) → length rs ≤ i → AllTraced g log (take i rs) → AllTraced g log rs
traced_all g log rs i n h = subst (AllTraced g log) (take_all i rs n) h

-- the parts of the definition
pub permitted_traced : (a : Agreement) (log : List Event) (g : GlobalTree) (roles : List (List ℕ)) → g ≡ a.global → roles ≡ a.roles → IsPermitted a log → AllTraced g log roles
permitted_traced a log g roles e f p =
    subst (λ x. AllTraced x log roles) (sym e) (subst (AllTraced a.global log) (sym f) p.traces)

pub permitted_from : {E : Type 0} (a : Agreement) (log : List Event) (g : GlobalTree) (roles : List (List ℕ)) (r : Result Bool E) → g ≡ a.global → roles ≡ a.roles → AllJoined roles log → AllTraced g log roles → IfOk r (λ b. IsTrue b ↔ IsQueued log) → IfOk r (λ b. IsTrue b ↔ IsPermitted a log)
permitted_from a log g roles (Err x) e f j t q = tt
permitted_from a log g roles (Ok b) e f j t q =
    let j' : AllJoined a.roles log = subst (λ x. AllJoined x log) f j in
    let t' : AllTraced a.global log a.roles = subst (λ x. AllTraced x log a.roles) e (subst (AllTraced g log) f t) in
    (λ h. record { joined = j'; declared = all_declared a.roles log j'; traces = t'; queued = q.0 h }, λ p. q.1 p.queued)

-- the log of no events
pub permitted_none : (a : Agreement) → is_protocol a.roles a.global ≡ true → IsPermitted a []
permitted_none a v = record {
  joined = joined_none a.roles;
  declared = tt;
  traces = λ r i. let y = (given a v).projected r i in (y.0, y.1, tt);
  queued = queued_none;
}

-- a beginning of a permitted log
all_front : {X : Type 0} (P : X → Type 0) (xs ys : List X) → AllByRecursion P (xs ++ ys) → AllByRecursion P xs
all_front P [] ys h = tt
all_front P (x ∷ xs) ys h = (h.0, all_front P xs ys h.1)

trace_front : (w v : List Action) (l : LocalTree) → IsTrace l (w ++ v) → IsTrace l w
trace_front [] v l t = tt
trace_front (a ∷ w) v l t = (t.0, t.1, trace_front w v t.0 t.2)

pub own_append : (r : List ℕ) (xs ys : List Event) → own_actions r (xs ++ ys) ≡ own_actions r xs ++ own_actions r ys
own_append r xs ys = rw (filter-append (is_action_of r) xs ys, map-append action_of (filter (is_action_of r) xs) (filter (is_action_of r) ys)) refl

pub permitted_front : (a : Agreement) (xs ys : List Event) → IsPermitted a (xs ++ ys) → IsPermitted a xs
permitted_front a xs ys p = record {
  joined = λ before after e eq. p.joined before (after ++ ys) e (ap (λ z. z ++ ys) eq ∙ append_assoc before (e ∷ after) ys);
  declared = all_front (λ e. has_role (subject_of e) a.roles ≡ true) xs ys p.declared;
  traces = λ r i. let y = p.traces r i in (y.0, y.1, trace_front (own_actions r xs) (own_actions r ys) y.0 (subst (IsTrace y.0) (own_append r xs ys) y.2));
  queued = λ before after eq q r. p.queued before (after ++ ys) (ap (λ z. z ++ ys) eq ∙ append_assoc before after ys) q r;
}

permitted_take : (a : Agreement) (log : List Event) (n : ℕ) → IsPermitted a log → IsPermitted a (take n log)
permitted_take a log n p = permitted_front a (take n log) (drop n log) (subst (IsPermitted a) (sym (take-append-drop n log)) p)

-- the first events, one after another
pub first_none : (a : Agreement) → is_protocol a.roles a.global ≡ true → (log : List Event) (n : ℕ) → n ≤ 0 → IsPermitted a (take n log)
first_none a v log n le = let z : 0 ≡ n = omega arith in subst (λ x. IsPermitted a (take x log)) z (permitted_none a v)

pub first_more : (a : Agreement) (log : List Event) (i : ℕ) → ((n : ℕ) → n ≤ i → IsPermitted a (take n log)) → IsPermitted a (take (i + 1) log) → (n : ℕ) → n ≤ i + 1 → IsPermitted a (take n log)
first_more a log i h next n le = elim (cases_lt i n) [
  | inl lt ↦ let z : i + 1 ≡ n = omega arith in subst (λ y. IsPermitted a (take y log)) z next
  | inr ge ↦ h n ge
]

pub first_all : (a : Agreement) (log : List Event) (i : ℕ) → length log ≤ i → ((n : ℕ) → n ≤ i → IsPermitted a (take n log)) → IsPermitted a log
first_all a log i le h = subst (IsPermitted a) (take_all i log le) (h i (omega arith))

-- verdicts
pub run_verdict : (a : Agreement) → is_protocol a.roles a.global ≡ true → (log : List Event) → IsPermitted a log → (Permitted ≡ Permitted) ↔ IsJoinedRun a log
run_verdict a v log p = (λ e. ((simulates a v).exact log).0 p, λ r. refl)

not_permitted : (place : ℕ) (role : List ℕ) (allowed : List Action) → Offence place role allowed ≡ Permitted → ⊥
not_permitted place role allowed e = cc e

pub offence_verdict : (a : Agreement) → is_protocol a.roles a.global ≡ true → (log : List Event) (i place : ℕ) (role : List ℕ) (allowed : List Action) → Offends a log i → (Offence place role allowed ≡ Permitted) ↔ IsJoinedRun a log
offence_verdict a v log i place role allowed o = (
  λ e. absurd (not_permitted place role allowed e),
  λ r. absurd (o.here (permitted_take a log (i + 1) (((simulates a v).exact log).1 r))),
)

pub is_offence : (a : Agreement) (log : List Event) (i : ℕ) (e : Event) (role : List ℕ) (allowed : List Action) → Offends a log i → e ≡ get_or log i e → role ≡ subject_of e → AreAllowed a (take i log) role allowed → IsOffence a log (i + 1) role allowed
is_offence a log i e role allowed o is by allows = record {
  before = take i log;
  event = e;
  after = drop (i + 1) log;
  here = at_place log i e o.within is;
  counted = ap (λ y. y + 1) (sym (length-take-le i log (let w = o.within in omega arith)));
  least = λ n lt. o.before n (omega arith);
  offends = λ p. o.here (subst (IsPermitted a) (sym (one_more log i e o.within is)) p);
  by = by;
  allows = allows;
}
