-- Releases one by one are releases by the rule.
use Rattle.std.proofs.Common.{◌≡◌, ◌⊎◌, inl, inr, Bool, true, false, cond, ℕ, ◌+◌, ◌<◌, List, [], ◌∷◌, ◌++◌, map, length, length-append, All, get_or, drop, slice_get, Some, Result, Ok, Err, OnErr, OnOk, refl, sym, ap, ◌∙◌, subst, append_assoc, append-nil, arith}
use Rattle.std.specs.Str.{bytes_eq}
use Rattle.std.proofs.lemmas.Bool.{true≢false, cases_Bool, and_right, or_cases}
use Rattle.std.proofs.lemmas.List.{map-append, drop_more, drop-append-le, drop_at}
use Rattle.std.proofs.lemmas.List.Elements.{filter-append, filter_passes, All-head}
use Rattle.scrib_types.specs.declared.event.Event.{Event}
use Rattle.scrib_types.specs.declared.event.Event.TheVariants.{Join, Sent, Received}
use Rattle.scrib_types.specs.Logs.{subject_of}
use Rattle.scrib_types.specs.Queues.{sent}
use Rattle.scrib_holdback.specs.declared.flights.Flight.{Flight}
use Rattle.scrib_holdback.specs.Reorderings.{is_own, own_events}
use Rattle.scrib_holdback.specs.HoldBack.{MayHappen, IsReleasable, IsQuiescent, HoldsWithExpiries, IsHeldWithExpiries, begins, arrives, releases}
use Rattle.scrib_holdback.specs.Holdings.{Holding, sent_on, received_on, AreCounts, IsAfter, IsPushed, IsSameAfterAny}
use Rattle.scrib_holdback.specs.Releases.{IsReceivable, CountsEvent, SameCounts, own_items, HasDue, IsNextArrival, IsQuiet, IsQuietAt, IsAppended, IsSameHolding, PassesAtOnce, IsTakenOut, IsReleasedFirst, IsTakenOnto, IsDrained, Releases, nothing, one_more, is_send_to, sends_to, OnlyReceivers}
use Rattle.scrib_holdback.proofs.OwnEvents.{kept_after, name_itself, same_name}
use Rattle.scrib_holdback.proofs.CausalOrders.{sent_more, received_more}
use Rattle.scrib_holdback.proofs.Outcomes.{no_item}
use Rattle.scrib_holdback.proofs.Positions.{any_left, any_right, any_only}

-- own items and own events
own_of_items : {A : Type 0} (event : A → Event) (r : List ℕ) (items : List A) → own_events r (map event items) ≡ map event (own_items event r items)
own_of_items event r [] = refl
own_of_items event r (x ∷ items) = by (is_own r (event x)) (own_of_items event r items)
  where
    by : (b : Bool) → own_events r (map event items) ≡ map event (own_items event r items) → cond b (event x ∷ own_events r (map event items)) (own_events r (map event items)) ≡ map event (cond b (x ∷ own_items event r items) (own_items event r items))
    by true ih = ap (λ z. event x ∷ z) ih
    by false ih = ih

pub no_own_events : {A : Type 0} (event : A → Event) (r : List ℕ) (items : List A) → own_items event r items ≡ [] → own_events r (map event items) ≡ []
no_own_events event r items e = own_of_items event r items ∙ ap (map event) e

map_nothing : {A : Type 0} (event : A → Event) (items : List A) → map event items ≡ [] → items ≡ []
map_nothing event [] e = refl
map_nothing event (x ∷ items) e = absurd (cc)

no_own_items : {A : Type 0} (event : A → Event) (r : List ℕ) (items : List A) → own_events r (map event items) ≡ [] → own_items event r items ≡ []
no_own_items event r items e = map_nothing event (own_items event r items) (sym (own_of_items event r items) ∙ e)

pub own_items-append : {A : Type 0} (event : A → Event) (r : List ℕ) (xs ys : List A) → own_items event r (xs ++ ys) ≡ own_items event r xs ++ own_items event r ys
own_items-append event r xs ys = filter-append (λ x. is_own r (event x)) xs ys

pub own_item_yes : {A : Type 0} (event : A → Event) (r : List ℕ) (x : A) (xs : List A) → is_own r (event x) ≡ true → own_items event r (x ∷ xs) ≡ x ∷ own_items event r xs
own_item_yes event r x xs h = ap (λ b. cond b (x ∷ own_items event r xs) (own_items event r xs)) h

own_item_no : {A : Type 0} (event : A → Event) (r : List ℕ) (x : A) (xs : List A) → is_own r (event x) ≡ false → own_items event r (x ∷ xs) ≡ own_items event r xs
own_item_no event r x xs h = ap (λ b. cond b (x ∷ own_items event r xs) (own_items event r xs)) h

-- the first of a role's items is of the role
pub first_is_own : {A : Type 0} (event : A → Event) (r : List ℕ) (items : List A) (x : A) (others : List A) → own_items event r items ≡ x ∷ others → is_own r (event x) ≡ true
first_is_own {A} event r items x others e =
    let P : A → Type 0 = λ y. is_own r (event y) ≡ true in
    All-head P x others (subst (All P) e (filter_passes (λ y. is_own r (event y)) items))

-- an item behind none of its role is its role's first
first_in_place : {A : Type 0} (event : A → Event) (earlier later : List A) (x : A) → own_items event (subject_of (event x)) earlier ≡ [] → own_items event (subject_of (event x)) (earlier ++ x ∷ later) ≡ x ∷ own_items event (subject_of (event x)) later
first_in_place event earlier later x e =
    let r = subject_of (event x) in
    own_items-append event r earlier (x ∷ later)
    ∙ ap (λ z. z ++ own_items event r (x ∷ later)) e
    ∙ own_item_yes event r x later (name_itself r)

-- what may happen by the counts
pub may_from_ready : (log : List Event) (flights : List Flight) (e : Event) → AreCounts log flights → IsReceivable flights e → MayHappen log e
may_from_ready log flights (Join r) f h = tt
may_from_ready log flights (Sent p q m) f h = tt
may_from_ready log flights (Received p q m) f h = omega (arith, h, f.sends p q, f.receptions p q)

pub ready_from_may : (log : List Event) (flights : List Flight) (e : Event) → AreCounts log flights → MayHappen log e → IsReceivable flights e
ready_from_may log flights (Join r) f h = tt
ready_from_may log flights (Sent p q m) f h = tt
ready_from_may log flights (Received p q m) f h = omega (arith, h, f.sends p q, f.receptions p q)

-- an event makes only receptions ready that its receiver has
sent_elsewhere : (p q s t : List ℕ) (e : Event) → is_send_to q e ≡ false → length (sent p q (e ∷ [])) ≡ 0
sent_elsewhere p q s t (Join r) n = refl
sent_elsewhere p q s t (Sent a b m) n = rw (and_right (bytes_eq p a) (bytes_eq q b) n) refl
sent_elsewhere p q s t (Received a b m) n = refl

ready_before : (e : Event) (old new : List Flight) → CountsEvent e old new → (f : Event) → is_send_to (subject_of f) e ≡ false → IsReceivable new f → IsReceivable old f
ready_before e old new c (Join r) n h = tt
ready_before e old new c (Sent p q m) n h = tt
ready_before e old new c (Received p q m) n h = omega (arith, h, c.sends p q, c.receptions p q, sent_elsewhere p q p q e n)

-- a role that may release after a release could before, or is sent to
due_of_same : {A : Type 0} (event : A → Event) (old new : Holding A) (x : A) → IsReleasedFirst event old new x → (r : List ℕ) → is_own r (event x) ≡ true → HasDue event r old
due_of_same event old new x step r own =
    let s = subject_of (event x) in
    let k = step.taken in
    let at : own_items event s old.waiting ≡ x ∷ own_items event s k.later = ap (own_items event s) k.was ∙ first_in_place event k.earlier k.later x k.first in
    record {
      x = x;
      others = own_items event r k.later;
      first = subst (λ z. own_items event z old.waiting ≡ x ∷ own_items event z k.later) (sym (same_name r s own)) at;
      ready = step.ready;
    }

pub due_of_other : {A : Type 0} (event : A → Event) (old new : Holding A) (x : A) → IsTakenOut event old new x → (r : List ℕ) → is_own r (event x) ≡ false → is_send_to r (event x) ≡ false → HasDue event r new → HasDue event r old
due_of_other event old new x k r other n due =
    let left : own_items event r old.waiting ≡ own_items event r new.waiting =
    ap (own_items event r) k.was
    ∙ own_items-append event r k.earlier (x ∷ k.later)
    ∙ ap (λ z. own_items event r k.earlier ++ z) (own_item_no event r x k.later other)
    ∙ sym (own_items-append event r k.earlier k.later)
    ∙ ap (own_items event r) (sym k.now) in
    let mine : r ≡ subject_of (event due.x) = same_name r (subject_of (event due.x)) (first_is_own event r new.waiting due.x due.others due.first) in
    record {
      x = due.x;
      others = due.others;
      first = left ∙ due.first;
      ready = ready_before (event x) old.flights new.flights k.counts (event due.x) (ap (λ z. is_send_to z (event x)) (sym mine) ∙ n) due.ready;
    }

due_before_one : {A : Type 0} (event : A → Event) (old new : Holding A) (x : A) → IsReleasedFirst event old new x → (r : List ℕ) → HasDue event r new → HasDue event r old ⊎ (is_send_to r (event x) ≡ true)
due_before_one event old new x step r due =
    elim (cases_Bool (is_own r (event x))) [
      | inl own ↦ inl (due_of_same event old new x step r own)
      | inr other ↦ elim (cases_Bool (is_send_to r (event x))) [
        | inl y ↦ inr y
        | inr n ↦ inl (due_of_other event old new x step.taken r other n due)
      ]
    ]

due_onwards : {A : Type 0} (event : A → Event) (old mid : Holding A) (given : List A) (x : A) (r : List ℕ) → (HasDue event r mid → HasDue event r old ⊎ (sends_to event r given ≡ true)) → HasDue event r mid ⊎ (is_send_to r (event x) ≡ true) → HasDue event r old ⊎ (sends_to event r (given ++ x ∷ []) ≡ true)
due_onwards event old mid given x r ih (inl due) =
    elim (ih due) [ inl d ↦ inl d | inr s ↦ inr (any_left (λ z. is_send_to r (event z)) given (x ∷ []) s) ]
due_onwards event old mid given x r ih (inr y) =
    inr (any_right (λ z. is_send_to r (event z)) given (x ∷ []) (any_only (λ z. is_send_to r (event z)) x y))

pub due_before : {A : Type 0} (event : A → Event) (old : Holding A) {given : List A} {new : Holding A} → Releases event old given new → (r : List ℕ) → HasDue event r new → HasDue event r old ⊎ (sends_to event r given ≡ true)
due_before event old nothing r due = inl due
due_before event old (one_more {given = given} {mid = mid} {new = new} x rs step) r due =
    due_onwards event old mid given x r (λ d. due_before event old rs r d) (due_before_one event mid new x step r due)

-- releases one by one are releases by the rule
pub counts_one : {A : Type 0} (event : A → Event) (log : List A) (x : A) (old new : List Flight) → AreCounts (map event log) old → CountsEvent (event x) old new → AreCounts (map event (log ++ x ∷ [])) new
counts_one event log x old new f c =
    let e = event x in
    let whole : map event (log ++ x ∷ []) ≡ map event log ++ e ∷ [] = map-append event log (x ∷ []) in
    subst (λ z. AreCounts z new) (sym whole)
    (record {
      sends = λ p q. omega (arith, f.sends p q, c.sends p q, sent_more p q (map event log) (e ∷ []));
      receptions = λ p q. omega (arith, f.receptions p q, c.receptions p q, received_more p q (map event log) (e ∷ []));
    })

holds_one : {A : Type 0} (event : A → Event) (arrivals log expired : List A) (old new : Holding A) (x : A) → IsReleasedFirst event old new x → HoldsWithExpiries event arrivals log expired old.waiting → AreCounts (map event log) old.flights → HoldsWithExpiries event arrivals (log ++ x ∷ []) expired new.waiting
holds_one event arrivals log expired old new x step h f =
    let k = step.taken in
    let due : IsReleasable event log k.earlier x = record {
      first = no_own_events event (subject_of (event x)) k.earlier k.first;
      next = may_from_ready (map event log) old.flights (event x) f step.ready;
    } in
    subst (λ z. HoldsWithExpiries event arrivals (log ++ x ∷ []) expired z) (sym k.now)
    (releases k.earlier x k.later (subst (λ z. HoldsWithExpiries event arrivals log expired z) k.was h) due)

-- both facts that releases keep
pub record IsKept {A : Type 0} (event : A → Event) (arrivals log expired : List A) (h : Holding A) : Type 0 where
  pub holds : HoldsWithExpiries event arrivals log expired h.waiting
  pub counts : AreCounts (map event log) h.flights

kept_one : {A : Type 0} (event : A → Event) (arrivals log expired : List A) (old new : Holding A) (x : A) → IsReleasedFirst event old new x → IsKept event arrivals log expired old → IsKept event arrivals (log ++ x ∷ []) expired new
kept_one event arrivals log expired old new x step k = record {
  holds = holds_one event arrivals log expired old new x step k.holds k.counts;
  counts = counts_one event log x old.flights new.flights k.counts step.taken.counts;
}

pub kept_all : {A : Type 0} (event : A → Event) (old : Holding A) {given : List A} {new : Holding A} → Releases event old given new → (arrivals log expired : List A) → IsKept event arrivals log expired old → IsKept event arrivals (log ++ given) expired new
kept_all event old nothing arrivals log expired k = subst (λ z. IsKept event arrivals z expired old) (sym (append-nil log)) k
kept_all event old (one_more {given = given} {mid = mid} {new = new} x rs step) arrivals log expired k =
    subst (λ z. IsKept event arrivals z expired new) (append_assoc log given (x ∷ []))
    (kept_one event arrivals (log ++ given) expired mid new x step (kept_all event old rs arrivals log expired k))

-- where no role may release, nothing may be released
pub settled_of_quiet : {A : Type 0} (event : A → Event) (log : List A) (h : Holding A) → AreCounts (map event log) h.flights → IsQuiet event h → IsQuiescent event log h.waiting
settled_of_quiet event log h f quiet earlier later x eq due =
    let r = subject_of (event x) in
    quiet r
    (record {
      x = x;
      others = own_items event r later;
      first = ap (own_items event r) eq ∙ first_in_place event earlier later x (no_own_items event r earlier due.first);
      ready = ready_from_may (map event log) h.flights (event x) f due.next;
    })

pub quiet_of_settled : {A : Type 0} (event : A → Event) (log : List A) (h : Holding A) → AreCounts (map event log) h.flights → IsQuiescent event log h.waiting → IsQuiet event h
quiet_of_settled event log h f settled r due =
    let k = kept_after (λ z. is_own r (event z)) h.waiting [] due.others due.x due.first in
    let mine : r ≡ subject_of (event due.x) = same_name r (subject_of (event due.x)) (first_is_own event r h.waiting due.x due.others due.first) in
    settled k.front k.back due.x k.whole
    (record {
      first = no_own_events event (subject_of (event due.x)) k.front (subst (λ z. own_items event z k.front ≡ []) mine k.kept);
      next = may_from_ready (map event log) h.flights (event due.x) f due.ready;
    })

-- an item that arrives at a quiet state is the only one that may be released
ready_same : (old new : List Flight) (e : Event) → SameCounts old new → IsReceivable new e → IsReceivable old e
ready_same old new (Join r) s h = tt
ready_same old new (Sent p q m) s h = tt
ready_same old new (Received p q m) s h = omega (arith, h, s.sends p q, s.receptions p q)

-- what is due then is the arrival itself
pub record IsLast {A : Type 0} (event : A → Event) (x : A) (old : Holding A) (r : List ℕ) (due_x : A) : Type 0 where
  pub none : own_items event r old.waiting ≡ []
  pub same : due_x ≡ x
  pub mine : r ≡ subject_of (event x)

due_last : {A : Type 0} (event : A → Event) (x : A) (old new : Holding A) → IsAppended event x old new → (r : List ℕ) (due : HasDue event r new) → own_items event r old.waiting ≡ [] → IsLast event x old r due.x
due_last event x old new a r due none =
    let at : own_items event r (x ∷ []) ≡ due.x ∷ due.others =
    sym (ap (λ z. z ++ own_items event r (x ∷ [])) none) ∙ sym (own_items-append event r old.waiting (x ∷ [])) ∙ ap (own_items event r) (sym a.waiting) ∙ due.first in
    elim (cases_Bool (is_own r (event x))) [
      | inl y ↦ let one : x ∷ [] ≡ due.x ∷ due.others = sym (own_item_yes event r x [] y) ∙ at in
          record { none = none; same = (cc); mine = same_name r (subject_of (event x)) y }
      | inr n ↦ let empty : [] ≡ due.x ∷ due.others = sym (own_item_no event r x [] n) ∙ at in absurd (cc)
    ]

due_arrived : {A : Type 0} (event : A → Event) (x : A) (old new : Holding A) → IsAppended event x old new → IsQuiet event old → (r : List ℕ) (due : HasDue event r new) (own : List A) → own_items event r old.waiting ≡ own → IsLast event x old r due.x
due_arrived event x old new a quiet r due [] none = due_last event x old new a r due none
due_arrived event x old new a quiet r due (y ∷ ys) some =
    let at : y ∷ (ys ++ own_items event r (x ∷ [])) ≡ due.x ∷ due.others =
    sym (ap (λ z. z ++ own_items event r (x ∷ [])) some) ∙ sym (own_items-append event r old.waiting (x ∷ [])) ∙ ap (own_items event r) (sym a.waiting) ∙ due.first in
    let same : y ≡ due.x = cc in
    absurd (quiet r
    (record {
      x = due.x;
      others = ys;
      first = some ∙ ap (λ z. z ∷ ys) same;
      ready = ready_same old.flights new.flights (event due.x) a.counts due.ready;
    }))

-- an arrival that isn't released at once leaves nothing that may be released
pub quiet_appended : {A : Type 0} (event : A → Event) (x : A) (old new : Holding A) → IsAppended event x old new → (IsNextArrival event (event x) old → ⊥) → IsQuiet event old → IsQuiet event new
quiet_appended event x old new a not_next quiet r due =
    let k = due_arrived event x old new a quiet r due (own_items event r old.waiting) refl in
    not_next
    (record {
      none = subst (λ z. own_items event z old.waiting ≡ []) k.mine k.none;
      ready = subst (λ z. IsReceivable old.flights (event z)) k.same (ready_same old.flights new.flights (event due.x) a.counts due.ready);
    })

-- after the role of the arrival has released all that it may, only receivers of what it sent may release
pub first_receivers : {A : Type 0} (event : A → Event) (x : A) (old mid new : Holding A) (given : List A) → IsAppended event x old mid → Releases event mid given new → (HasDue event (subject_of (event x)) new → ⊥) → IsQuiet event old → OnlyReceivers event given new
first_receivers event x old mid new given a rs done quiet r due =
    elim (due_before event mid rs r due) [
      | inl d ↦ let k = due_arrived event x old mid a quiet r d (own_items event r old.waiting) refl in
          absurd (done (subst (λ z. HasDue event z new) k.mine due))
      | inr s ↦ s
    ]

-- the same once the receiver of the next of them has released all that it may
pub next_receivers : {A : Type 0} (event : A → Event) (x : A) (items : List A) (old new : Holding A) (given : List A) → Releases event old given new → ((r : List ℕ) → is_send_to r (event x) ≡ true → HasDue event r new → ⊥) → OnlyReceivers event (x ∷ items) old → OnlyReceivers event (items ++ given) new
next_receivers event x items old new given rs done only r due =
    elim (due_before event old rs r due) [
      | inl d ↦ elim (or_cases (is_send_to r (event x)) (sends_to event r items) (only r d)) [
        | inl y ↦ absurd (done r y due)
        | inr s ↦ any_left (λ z. is_send_to r (event z)) items given s
      ]
      | inr s ↦ any_right (λ z. is_send_to r (event z)) items given s
    ]

pub no_receivers : {A : Type 0} (event : A → Event) (h : Holding A) → OnlyReceivers event [] h → IsQuiet event h
no_receivers event h only r due = true≢false (sym (only r due))

-- a state that nothing may be released of
pub after_kept : {A : Type 0} (event : A → Event) (arrivals log expired : List A) (h : Holding A) → IsKept event arrivals log expired h → IsQuiet event h → IsAfter event arrivals log expired h
after_kept event arrivals log expired h k quiet = record {
  held = record { holds = k.holds; settled = settled_of_quiet event log h k.counts quiet };
  counts = k.counts;
}

-- the clause of a push
kept_appended : {A : Type 0} (event : A → Event) (x : A) (old new : Holding A) → IsAppended event x old new → (arrivals log expired : List A) → IsAfter event arrivals log expired old → IsKept event (arrivals ++ x ∷ []) log expired new
kept_appended event x old new a arrivals log expired h = record {
  holds = subst (λ z. HoldsWithExpiries event (arrivals ++ x ∷ []) log expired z) (sym a.waiting) (arrives x h.held.holds h.held.settled);
  counts = record {
    sends = λ p q. omega (arith, h.counts.sends p q, a.counts.sends p q);
    receptions = λ p q. omega (arith, h.counts.receptions p q, a.counts.receptions p q);
  };
}

pub pushed : {A : Type 0} (event : A → Event) (x : A) (old mid new : Holding A) (given : List A) → IsAppended event x old mid → Releases event mid given new → (IsQuiet event old → IsQuiet event new) → (arrivals log expired : List A) → IsAfter event arrivals log expired old → IsAfter event (arrivals ++ x ∷ []) (log ++ given) expired new
pushed event x old mid new given a rs quiet arrivals log expired h =
    after_kept event (arrivals ++ x ∷ []) (log ++ given) expired new
    (kept_all event mid rs (arrivals ++ x ∷ []) log expired (kept_appended event x old mid a arrivals log expired h))
    (quiet (quiet_of_settled event log old h.counts h.held.settled))

-- what is drained
pub releases_join : {A : Type 0} (event : A → Event) (old mid : Holding A) (first : List A) {given : List A} {new : Holding A} → Releases event mid given new → Releases event old first mid → Releases event old (first ++ given) new
releases_join event old mid first nothing before = subst (λ z. Releases event old z mid) (sym (append-nil first)) before
releases_join event old mid first (one_more {given = given} {mid = m} {new = new} x rs step) before =
    subst (λ z. Releases event old z new) (append_assoc first given (x ∷ [])) (one_more x (releases_join event old mid first rs before) step)

pub releases_count : {A : Type 0} (event : A → Event) (old : Holding A) {given : List A} {new : Holding A} → Releases event old given new → length given + length new.waiting ≡ length old.waiting
releases_count event old nothing = omega arith
releases_count event old (one_more {given = given} {mid = mid} {new = new} x rs step) =
    omega (arith, releases_count event old rs, ap length step.taken.was, ap length step.taken.now, length-append step.taken.earlier (x ∷ step.taken.later), length-append step.taken.earlier step.taken.later, length-append given (x ∷ []))

pub drained_none : {A : Type 0} (event : A → Event) (old : Holding A) (released : List A) → IsDrained event old old released released
drained_none event old released = record { given = []; appended = sym (append-nil released); releases = nothing; roles = refl }

pub drained_join : {A : Type 0} (event : A → Event) (old mid new : Holding A) (released between now : List A) → IsDrained event old mid released between → IsDrained event mid new between now → IsDrained event old new released now
drained_join event old mid new released between now d e = record {
  given = d.given ++ e.given;
  appended = e.appended ∙ ap (λ z. z ++ e.given) d.appended ∙ append_assoc released d.given e.given;
  releases = releases_join event old mid d.given e.releases d.releases;
  roles = e.roles ∙ d.roles;
}

pub drained_one : {A : Type 0} (event : A → Event) (place : ℕ) (old new : Holding A) (released now : List A) (k : IsTakenOnto event place old new released now) → IsReceivable old.flights (event k.x) → new.roles ≡ old.roles → IsDrained event old new released now
drained_one event place old new released now k ready same = record {
  given = k.x ∷ [];
  appended = k.appended;
  releases = one_more k.x nothing (record { taken = k.taken; ready = ready });
  roles = same;
}

pub drained_count : {A : Type 0} (event : A → Event) (old new : Holding A) (released now : List A) → IsDrained event old new released now → length now + length new.waiting ≡ length released + length old.waiting
drained_count event old new released now d =
    omega (arith, releases_count event old d.releases, ap length d.appended, length-append released d.given)

-- the receiver of one item more
pub only_next : {A : Type 0} (event : A → Event) (items now given : List A) (n : ℕ) (x : A) (old new : Holding A) → n < length items → x ≡ get_or items n x → now ≡ items ++ given → Releases event old given new → ((r : List ℕ) → is_send_to r (event x) ≡ true → HasDue event r new → ⊥) → OnlyReceivers event (drop n items) old → OnlyReceivers event (drop (n + 1) now) new
only_next event items now given n x old new within is more rs done only =
    let split : drop n items ≡ x ∷ drop (n + 1) items = drop_more items n x within ∙ ap (λ z. z ∷ drop (n + 1) items) (sym is) in
    let rest : drop (n + 1) now ≡ drop (n + 1) items ++ given = ap (drop (n + 1)) more ∙ drop-append-le (n + 1) items given (omega arith) in
    subst (λ z. OnlyReceivers event z new) (sym rest)
    (next_receivers event x (drop (n + 1) items) old new given rs done (subst (λ z. OnlyReceivers event z old) split only))

-- what was released before a push, and then what it released
pub drop_behind : {A : Type 0} (items given now : List A) (n : ℕ) → n ≡ length items → now ≡ items ++ given → drop n now ≡ given
drop_behind items given now n e more = ap (drop n) more ∙ drop_at items given n (sym e)

-- the state before any arrival
pub after_nothing : {A : Type 0} (event : A → Event) (h : Holding A) → h.waiting ≡ [] → h.flights ≡ [] → IsAfter event [] [] [] h
after_nothing event h none empty = record {
  held = record {
    holds = subst (λ z. HoldsWithExpiries event [] [] [] z) (sym none) begins;
    settled = λ earlier later x e due. no_item earlier later x (sym none ∙ e);
  };
  counts = record {
    sends = λ p q. omega (arith, ap (sent_on p q) empty);
    receptions = λ p q. omega (arith, ap (received_on p q) empty);
  };
}

-- a push of an arrival that waits
pub pushes_held : {A : Type 0} (event : A → Event) (x : A) (old new : Holding A) (released : List A) → IsAppended event x old new → (IsNextArrival event (event x) old → ⊥) → IsPushed event x old new released released
pushes_held event x old new released a not_next = record {
  given = [];
  appended = sym (append-nil released);
  after = pushed event x old new new [] a nothing (quiet_appended event x old new a not_next);
}

-- a push of an arrival that is released at once, and then what it makes possible
passed_step : {A : Type 0} (event : A → Event) (x : A) (old mid next : Holding A) → mid.waiting ≡ old.waiting ++ x ∷ [] → mid.flights ≡ old.flights → PassesAtOnce event x old next → IsReleasedFirst event mid next x
passed_step event x old mid next more flights k = record {
  taken = record {
    earlier = old.waiting;
    later = [];
    was = more;
    first = k.next.none;
    now = k.waiting ∙ sym (append-nil old.waiting);
    counts = subst (λ z. CountsEvent (event x) z next.flights) (sym flights) k.counts;
  };
  ready = subst (λ z. IsReceivable z (event x)) (sym flights) k.next.ready;
}

none_left : {A : Type 0} (event : A → Event) (x : A) (old next : Holding A) → PassesAtOnce event x old next → HasDue event (subject_of (event x)) next → ⊥
none_left event x old next k due =
    let empty : [] ≡ due.x ∷ due.others = sym k.next.none ∙ ap (own_items event (subject_of (event x))) (sym k.waiting) ∙ due.first in
    absurd (cc)

pub pushes_passed : {A : Type 0} (event : A → Event) (x : A) (old next new : Holding A) (released at now : List A) (start : ℕ) → PassesAtOnce event x old next → at ≡ released ++ x ∷ [] → start ≡ length released → IsDrained event next new at now → (OnlyReceivers event (drop start at) next → IsQuiet event new) → IsPushed event x old new released now
pushes_passed {A} event x old next new released at now start k more long d quiet =
    let mid : Holding A = record { roles = old.roles; waiting = old.waiting ++ x ∷ []; flights = old.flights } in
    let a : IsAppended event x old mid = record { waiting = refl; counts = record { sends = λ p q. refl; receptions = λ p q. refl } } in
    let first : Releases event mid (x ∷ []) next = one_more x nothing (passed_step event x old mid next refl refl k) in
    let whole : Releases event mid (x ∷ d.given) new = releases_join event mid next (x ∷ []) d.releases first in
    let behind : drop start at ≡ x ∷ [] = drop_behind released (x ∷ []) at start long more in
    record {
      given = x ∷ d.given;
      appended = d.appended ∙ ap (λ z. z ++ d.given) more ∙ append_assoc released (x ∷ []) d.given;
      after = pushed event x old mid new (x ∷ d.given) a whole
          (λ q. quiet (subst (λ z. OnlyReceivers event z next) (sym behind) (first_receivers event x old mid next (x ∷ []) a first (none_left event x old next k) q)));
    }

-- what the receiver of an item made possible
pub only_after_drain : {A : Type 0} (event : A → Event) (items now : List A) (n place : ℕ) (x : A) (e : Event) (old new : Holding A) → n < length items → x ≡ get_or items n x → e ≡ event x → IsDrained event old new items now → ((r : List ℕ) → is_send_to r e ≡ true → slice_get old.roles place ≡ Some r) → IsQuietAt event place new → OnlyReceivers event (drop n items) old → OnlyReceivers event (drop (n + 1) now) new
only_after_drain event items now n place x e old new within at is d role quiet =
    only_next event items now d.given n x old new within at d.appended d.releases
    (λ r to. quiet r (ap (λ z. slice_get z place) d.roles ∙ role r (ap (is_send_to r) is ∙ to)))

pub only_after_none : {A : Type 0} (event : A → Event) (items : List A) (n : ℕ) (x : A) (e : Event) (h : Holding A) → n < length items → x ≡ get_or items n x → e ≡ event x → ((r : List ℕ) → is_send_to r e ≡ true → HasDue event r h → ⊥) → OnlyReceivers event (drop n items) h → OnlyReceivers event (drop (n + 1) items) h
only_after_none event items n x e h within at is done =
    only_next event items items [] n x h h within at (sym (append-nil items)) nothing (λ r to. done r (ap (is_send_to r) is ∙ to))

-- pairs and roles that were added change nothing
pub same_after : {A : Type 0} (event : A → Event) (old new : Holding A) → IsSameHolding old new → IsSameAfterAny event old new
same_after event old new same arrivals released expired h = record {
  held = subst (λ z. IsHeldWithExpiries event arrivals released expired z) (sym same.waiting) h.held;
  counts = record {
    sends = λ p q. same.counts.sends p q ∙ h.counts.sends p q;
    receptions = λ p q. same.counts.receptions p q ∙ h.counts.receptions p q;
  };
}

-- a push after pairs and roles were added
pushes_met : {A : Type 0} (event : A → Event) (x : A) (old mid new : Holding A) (released now : List A) → IsSameHolding old mid → IsPushed event x mid new released now → IsPushed event x old new released now
pushes_met event x old mid new released now same k = record {
  given = k.given;
  appended = k.appended;
  after = λ arrivals earlier expired h. k.after arrivals earlier expired (same_after event old mid same arrivals earlier expired h);
}

-- the same where the push succeeds, and where it fails
pub pushes_if_ok : {A T E : Type 0} (event : A → Event) (x : A) (old mid new : Holding A) (released now : List A) (r : Result T E) → IsSameHolding old mid → OnOk r (IsPushed event x mid new released now) → OnOk r (IsPushed event x old new released now)
pushes_if_ok event x old mid new released now (Ok y) same k = pushes_met event x old mid new released now same k
pushes_if_ok event x old mid new released now (Err e) same k = tt

pub same_if_err : {A T E : Type 0} (event : A → Event) (old mid new : Holding A) (r : Result T E) → IsSameHolding old mid → OnErr r (IsSameAfterAny event mid new) → OnErr r (IsSameAfterAny event old new)
same_if_err event old mid new (Ok y) same k = tt
same_if_err event old mid new (Err e) same k = λ arrivals released expired h. k arrivals released expired (same_after event old mid same arrivals released expired h)
