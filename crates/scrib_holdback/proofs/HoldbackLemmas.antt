-- What a holdback keeps.
use Rattle.std.proofs.Common.{◌≡◌, ◌&&◌, ◌||◌, Bool, true, false, ℕ, ◌+◌, ◌≤◌, List, [], ◌∷◌, ◌++◌, drop, length, length-append, slice_get, cond, Option, Some, None, MatchOption, IfSome, is_some, refl, sym, ap, ◌∙◌, subst, arith}
use Rattle.std.specs.List.{AllByRecursion}
use Rattle.std.specs.Str.{bytes_eq}
use Rattle.std.proofs.lemmas.Bool.{true≢false}
use Rattle.scrib_types.specs.declared.message.Message.{Message}
use Rattle.scrib_types.specs.declared.event.Event.{Event}
use Rattle.scrib_types.specs.declared.event.Event.TheVariants.{Join, Sent, Received}
use Rattle.scrib_types.specs.Logs.{subject_of}
use Rattle.scrib_types.specs.Queues.{sent, received}
use Rattle.scrib_holdback.specs.declared.flights.Flight.{Flight}
use Rattle.scrib_holdback.specs.Holdings.{Holding, PassesAlone}
use Rattle.scrib_holdback.specs.Waiters.{Waiters}
use Rattle.scrib_holdback.specs.Lanes.{HasNone, IsFirstItem, TakesFirst}
use Rattle.scrib_holdback.specs.Releases.{IsReceivable, HasFlight, KeepsFlights, CountsEvent, SameCounts, own_items, HasDue, WaitsAt, IsDueAt, IsDueOn, IsFlightOf, IsNextArrival, IsApart, PassesAtOnce, IsQuietAt, is_send_to, sends_to, IsTakenOut, IsTakenOnto, IsDrained, IsSound}
use Rattle.scrib_holdback.specs.Reorderings.{is_own}
use Rattle.scrib_holdback.proofs.OwnEvents.{name_itself, same_name}
use Rattle.scrib_holdback.proofs.Positions.{all_here, all_without, all_weaker, all_pushed}
use Rattle.scrib_holdback.proofs.ReleaseLemmas.{own_items-append, own_item_yes, drained_one, drained_none, drop_behind, pushes_passed}

-- an event sends one message at most
sent_at_most : (p q : List ℕ) (e : Event) → length (sent p q (e ∷ [])) ≤ 1
sent_at_most p q (Join r) = omega arith
sent_at_most p q (Sent s t m) = by (bytes_eq p s && bytes_eq q t) refl
  where
    by : (b : Bool) → (bytes_eq p s && bytes_eq q t) ≡ b → length (sent p q (Sent s t m ∷ [])) ≤ 1
    by true y = let one : length (sent p q (Sent s t m ∷ [])) ≡ 1 = rw y refl in omega (arith, one)
    by false n = let none : length (sent p q (Sent s t m ∷ [])) ≡ 0 = rw n refl in omega (arith, none)
sent_at_most p q (Received s t m) = omega arith

-- an event receives one message at most
received_at_most : (p q : List ℕ) (e : Event) → length (received p q (e ∷ [])) ≤ 1
received_at_most p q (Join r) = omega arith
received_at_most p q (Sent s t m) = omega arith
received_at_most p q (Received s t m) = by (bytes_eq p s && bytes_eq q t) refl
  where
    by : (b : Bool) → (bytes_eq p s && bytes_eq q t) ≡ b → length (received p q (Received s t m ∷ [])) ≤ 1
    by true y = let one : length (received p q (Received s t m ∷ [])) ≡ 1 = rw y refl in omega (arith, one)
    by false n = let none : length (received p q (Received s t m ∷ [])) ≡ 0 = rw n refl in omega (arith, none)

-- the bounds after an item is taken out
pub sound_taken : {A : Type 0} (event : A → Event) (old new : Holding A) (pushed : ℕ) (x : A) → IsSound event old.waiting old.flights pushed → IsTakenOut event old new x → KeepsFlights old.flights new.flights → IsSound event new.waiting new.flights pushed
sound_taken {A} event old new pushed x s k keeps =
    let R : A → Type 0 = λ y. HasFlight old.flights (event y) in
    let S : A → Type 0 = λ y. HasFlight new.flights (event y) in
    let fewer : length old.waiting ≡ length new.waiting + 1 = omega (arith, ap length k.was, ap length k.now, length-append k.earlier (x ∷ k.later), length-append k.earlier k.later) in
    record {
      sends = λ p q. omega (arith, s.sends p q, k.counts.sends p q, sent_at_most p q (event x), fewer);
      receptions = λ p q. omega (arith, s.receptions p q, k.counts.receptions p q, received_at_most p q (event x), fewer);
      paired = subst (AllByRecursion S) (sym k.now) (all_weaker R S (λ y h. keeps.has (event y) h) (k.earlier ++ k.later) (all_without R k.earlier k.later x (subst (AllByRecursion R) k.was s.paired)));
      distinct = keeps.distinct s.distinct;
    }

-- the bounds with more pairs
pub sound_reserved : {A : Type 0} (event : A → Event) (waiting now : List A) (old new : List Flight) (pushed : ℕ) → IsSound event waiting old pushed → now ≡ waiting → SameCounts old new → KeepsFlights old new → IsSound event now new pushed
sound_reserved {A} event waiting now old new pushed s same counts keeps =
    let R : A → Type 0 = λ y. HasFlight old (event y) in
    let S : A → Type 0 = λ y. HasFlight new (event y) in
    record {
      sends = λ p q. omega (arith, s.sends p q, counts.sends p q, ap length same);
      receptions = λ p q. omega (arith, s.receptions p q, counts.receptions p q, ap length same);
      paired = subst (AllByRecursion S) (sym same) (all_weaker R S (λ y h. keeps.has (event y) h) waiting s.paired);
      distinct = keeps.distinct s.distinct;
    }

-- the bounds after an arrival that waits
pub sound_held : {A : Type 0} (event : A → Event) (waiting now : List A) (old new : List Flight) (pushed : ℕ) (x : A) → IsSound event waiting old pushed → now ≡ waiting ++ x ∷ [] → SameCounts old new → KeepsFlights old new → HasFlight new (event x) → IsSound event now new (pushed + 1)
sound_held {A} event waiting now old new pushed x s more counts keeps has =
    let R : A → Type 0 = λ y. HasFlight old (event y) in
    let S : A → Type 0 = λ y. HasFlight new (event y) in
    record {
      sends = λ p q. omega (arith, s.sends p q, counts.sends p q, ap length more, length-append waiting (x ∷ []));
      receptions = λ p q. omega (arith, s.receptions p q, counts.receptions p q, ap length more, length-append waiting (x ∷ []));
      paired = subst (AllByRecursion S) (sym more) (all_pushed S waiting x (all_weaker R S (λ y h. keeps.has (event y) h) waiting s.paired) has);
      distinct = keeps.distinct s.distinct;
    }

-- the bounds after an arrival that is released at once
pub sound_passed : {A : Type 0} (event : A → Event) (waiting now : List A) (old mid new : List Flight) (pushed : ℕ) (e : Event) → IsSound event waiting old pushed → now ≡ waiting → SameCounts old mid → KeepsFlights old mid → CountsEvent e mid new → KeepsFlights mid new → IsSound event now new (pushed + 1)
sound_passed {A} event waiting now old mid new pushed e s same counts keeps counted kept =
    let R : A → Type 0 = λ y. HasFlight old (event y) in
    let S : A → Type 0 = λ y. HasFlight new (event y) in
    record {
      sends = λ p q. omega (arith, s.sends p q, counts.sends p q, counted.sends p q, sent_at_most p q e, ap length same);
      receptions = λ p q. omega (arith, s.receptions p q, counts.receptions p q, counted.receptions p q, received_at_most p q e, ap length same);
      paired = subst (AllByRecursion S) (sym same) (all_weaker R S (λ y h. kept.has (event y) (keeps.has (event y) h)) waiting s.paired);
      distinct = kept.distinct (keeps.distinct s.distinct);
    }

-- the same where no pair is added
pub sound_counted : {A : Type 0} (event : A → Event) (waiting now : List A) (old new : List Flight) (pushed : ℕ) (e : Event) → IsSound event waiting old pushed → now ≡ waiting → CountsEvent e old new → KeepsFlights old new → IsSound event now new (pushed + 1)
sound_counted event waiting now old new pushed e s same counted kept =
    sound_passed event waiting now old old new pushed e s same (record { sends = λ p q. refl; receptions = λ p q. refl }) (record { has = λ f h. h; distinct = λ d. d }) counted kept

-- the bounds after an arrival is counted that is not released
pub sound_skipped : {A : Type 0} (event : A → Event) (waiting now : List A) (old new : List Flight) (pushed : ℕ) → IsSound event waiting old pushed → now ≡ waiting → new ≡ old → IsSound event now new (pushed + 1)
sound_skipped {A} event waiting now old new pushed s same flights =
    subst (λ z. IsSound event z new (pushed + 1)) (sym same)
    (subst (λ z. IsSound event waiting z (pushed + 1)) (sym flights) (record {
      sends = λ p q. omega (arith, s.sends p q);
      receptions = λ p q. omega (arith, s.receptions p q);
      paired = s.paired;
      distinct = s.distinct;
    }))

pub passed : {A : Type 0} (event : A → Event) (x : A) (old new : Holding A) (mid : List Flight) → IsNextArrival event (event x) old → new.waiting ≡ old.waiting → SameCounts old.flights mid → CountsEvent (event x) mid new.flights → PassesAtOnce event x old new
passed event x old new mid next same counts counted = record {
  next = next;
  waiting = same;
  counts = record {
    sends = λ p q. omega (arith, counts.sends p q, counted.sends p q);
    receptions = λ p q. omega (arith, counts.receptions p q, counted.receptions p q);
  };
}

pub ready_reserved : (old new : List Flight) (e : Event) → SameCounts old new → IsReceivable old e → IsReceivable new e
ready_reserved old new (Join r) s h = tt
ready_reserved old new (Sent p q m) s h = tt
ready_reserved old new (Received p q m) s h = omega (arith, h, s.sends p q, s.receptions p q)

-- a role that nothing waits of has nothing that may be released
pub none_due : {A : Type 0} (event : A → Event) (h : Holding A) (r : List ℕ) → own_items event r h.waiting ≡ [] → HasDue event r h → ⊥
none_due event h r none due = let empty : [] ≡ due.x ∷ due.others = sym none ∙ due.first in absurd (cc)

-- an arrival that passes where nothing waits
pub passes_alone : {A : Type 0} (event : A → Event) (e : Event) (old new : Holding A) → old.waiting ≡ [] → new.waiting ≡ old.waiting → IsReceivable old.flights e → CountsEvent e old.flights new.flights → PassesAlone event e old new
passes_alone {A} event e old new none same ready counted = λ x is released.
    (let next : IsNextArrival event (event x) old = record { none = ap (own_items event (subject_of (event x))) none; ready = subst (IsReceivable old.flights) (sym is) ready } in
    let k : PassesAtOnce event x old new = record { next = next; waiting = same; counts = subst (λ z. CountsEvent z old.flights new.flights) (sym is) counted } in
    pushes_passed event x old new new released (released ++ x ∷ []) (released ++ x ∷ []) (length released) k refl refl
    (drained_none event new (released ++ x ∷ []))
    (λ only r due. none_due event new r (ap (own_items event r) (same ∙ none)) due))

-- the receiver of an item that was released alone
sent_alone : {A : Type 0} (event : A → Event) (x : A) (e : Event) (released : List A) (r : List ℕ) → event x ≡ e → sends_to event r (drop (length released) (released ++ x ∷ [])) ≡ true → is_send_to r e ≡ true
sent_alone event x e released r is some =
    let behind : drop (length released) (released ++ x ∷ []) ≡ x ∷ [] = drop_behind released (x ∷ []) (released ++ x ∷ []) (length released) refl refl in
    ap (is_send_to r) (sym is) ∙ or_nothing (is_send_to r (event x)) (subst (λ z. sends_to event r z ≡ true) behind some)
  where
    or_nothing : (b : Bool) → (b || false) ≡ true → b ≡ true
    or_nothing true h = refl
    or_nothing false h = h

-- an arrival that passes where nothing waits of its role, nor of its receiver's
pub passes_apart : {A : Type 0} (event : A → Event) (e : Event) (old new : Holding A) → IsApart event e old → new.waiting ≡ old.waiting → IsReceivable old.flights e → CountsEvent e old.flights new.flights → PassesAlone event e old new
passes_apart {A} event e old new apart same ready counted = λ x is released.
    (let next : IsNextArrival event (event x) old = record { none = subst (λ z. own_items event (subject_of z) old.waiting ≡ []) (sym is) apart.none; ready = subst (IsReceivable old.flights) (sym is) ready } in
    let k : PassesAtOnce event x old new = record { next = next; waiting = same; counts = subst (λ z. CountsEvent z old.flights new.flights) (sym is) counted } in
    pushes_passed event x old new new released (released ++ x ∷ []) (released ++ x ∷ []) (length released) k refl refl
    (drained_none event new (released ++ x ∷ []))
    (λ only r due. none_due event new r (ap (own_items event r) same ∙ apart.receivers r (sent_alone event x e released r is (only r due))) due))

-- nothing waits of the role that a send is to
pub none_for_receiver : {A : Type 0} (event : A → Event) (items : List A) (e : Event) (p q : List ℕ) (m : Message) → e ≡ Sent p q m → own_items event q items ≡ [] → (r : List ℕ) → is_send_to r e ≡ true → own_items event r items ≡ []
none_for_receiver event items e p q m is none r to =
    let at : bytes_eq r q ≡ true = ap (is_send_to r) (sym is) ∙ to in
    ap (λ z. own_items event z items) (same_name r q at) ∙ none

-- an event that was read is as far apart from what waits
pub apart_read : {A : Type 0} (event : A → Event) (e f : Event) (old read : Holding A) → f ≡ e → read ≡ old → IsApart event f old → IsApart event e read
apart_read event e f old read is same h = subst (λ z. IsApart event z read) is (subst (λ z. IsApart event f z) (sym same) h)

pub role_at : (roles : List (List ℕ)) (i : ℕ) (r s : List ℕ) → slice_get roles i ≡ Some r → slice_get roles i ≡ Some s → r ≡ s
role_at roles i r s a b = let e : Some r ≡ Some s = sym a ∙ b in cc

pub quiet_at_unready : {A : Type 0} (event : A → Event) (place : ℕ) (w : Waiters A) (flights : List Flight) (x : A) → IsFirstItem event place w x → (IsReceivable flights (event x) → ⊥) → IsQuietAt event place record { roles = w.roles; waiting = w.items; flights = flights }
quiet_at_unready event place w flights x k unready r at due =
    let mine : r ≡ subject_of (event x) = role_at w.roles place r (subject_of (event x)) at k.role in
    let both : x ∷ k.others ≡ due.x ∷ due.others = sym k.first ∙ ap (λ z. own_items event z w.items) (sym mine) ∙ due.first in
    let one : x ≡ due.x = cc in
    unready (subst (λ z. IsReceivable flights (event z)) (sym one) due.ready)

pub quiet_at_none : {A : Type 0} (event : A → Event) (place : ℕ) (w : Waiters A) (flights : List Flight) → HasNone event place w → IsQuietAt event place record { roles = w.roles; waiting = w.items; flights = flights }
quiet_at_none event place w flights none r at due =
    let empty : [] ≡ due.x ∷ due.others = sym (none r at) ∙ due.first in absurd (cc)

pub some_waits : {A : Type 0} (event : A → Event) (place : ℕ) (w : Waiters A) (flights : List Flight) → HasNone event place w → WaitsAt event record { roles = w.roles; waiting = w.items; flights = flights } place → ⊥
some_waits event place w flights none at =
    let empty : [] ≡ at.x ∷ at.others = sym (none (subject_of (event at.x)) at.role) ∙ at.first in absurd (cc)

-- the place of a send's receiver
pub receiver : {A : Type 0} (event : A → Event) (h : Holding A) (p q : List ℕ) (m : Message) (o : Option ℕ) → MatchOption o (own_items event q h.waiting ≡ []) (λ place. slice_get h.roles place ≡ Some q) → MatchOption o ((r : List ℕ) → is_send_to r (Sent p q m) ≡ true → HasDue event r h → ⊥) (λ place. (r : List ℕ) → is_send_to r (Sent p q m) ≡ true → slice_get h.roles place ≡ Some r)
receiver event h p q m None none = λ r to. none_due event h r (ap (λ z. own_items event z h.waiting) (same_name r q to) ∙ none)
receiver event h p q m (Some i) at = λ r to. at ∙ ap (λ z. Some z) (sym (same_name r q to))

-- readiness by flights and an event that were read
pub ready_read : (flights read : List Flight) (e f : Event) → read ≡ flights → f ≡ e → IsReceivable read f → IsReceivable flights e
ready_read flights read e f same is h = subst (λ z. IsReceivable flights z) is (subst (λ z. IsReceivable z f) same h)

-- the first item of the role at a place is taken out
pub taken_paired : {A : Type 0} (event : A → Event) (place : ℕ) (w left : Waiters A) (flights : List Flight) (pushed : ℕ) (x : A) → IsSound event w.items flights pushed → TakesFirst event place w left x → HasFlight flights (event x)
taken_paired {A} event place w left flights pushed x s k =
    let R : A → Type 0 = λ y. HasFlight flights (event y) in
    all_here R k.earlier k.later x (subst (AllByRecursion R) k.was s.paired)

pub taken_at : {A : Type 0} (event : A → Event) (place : ℕ) (w left : Waiters A) (old new : List Flight) (x : A) → TakesFirst event place w left x → CountsEvent (event x) old new → IsTakenOut event record { roles = w.roles; waiting = w.items; flights = old } record { roles = left.roles; waiting = left.items; flights = new } x
taken_at event place w left old new x k counted = record {
  earlier = k.earlier;
  later = k.later;
  was = k.was;
  first = k.first;
  now = k.now;
  counts = counted;
}

-- the first item of the role at a place is the one that waits there
first_is : {A : Type 0} (event : A → Event) (place : ℕ) (h : Holding A) (earlier later : List A) (x : A) (at : WaitsAt event h place) → slice_get h.roles place ≡ Some (subject_of (event x)) → h.waiting ≡ earlier ++ x ∷ later → own_items event (subject_of (event x)) earlier ≡ [] → x ≡ at.x
first_is event place h earlier later x at role was first =
    let r = subject_of (event x) in
    let mine : subject_of (event at.x) ≡ r = role_at h.roles place (subject_of (event at.x)) r at.role role in
    let own : own_items event r h.waiting ≡ x ∷ own_items event r later =
    ap (own_items event r) was ∙ own_items-append event r earlier (x ∷ later) ∙ ap (λ z. z ++ own_items event r (x ∷ later)) first ∙ own_item_yes event r x later (name_itself r) in
    let both : x ∷ own_items event r later ≡ at.x ∷ at.others = sym own ∙ ap (λ z. own_items event z h.waiting) (sym mine) ∙ at.first in
    cc

-- what was taken out of a place where an item is due is that item
taken_is_due : {A : Type 0} (event : A → Event) (place : ℕ) (old new : Holding A) (released now : List A) (at : WaitsAt event old place) (k : IsTakenOnto event place old new released now) → k.x ≡ at.x
taken_is_due event place old new released now at k =
    first_is event place old k.taken.earlier k.taken.later k.x at k.role k.taken.was k.taken.first

-- what was taken out has the flight of what was due
pub flight_taken : {A : Type 0} (event : A → Event) (place pair : ℕ) (w left : Waiters A) (flights : List Flight) (x : A) → IsDueOn event record { roles = w.roles; waiting = w.items; flights = flights } place pair → TakesFirst event place w left x → IsFlightOf (event x) flights pair
flight_taken event place pair w left flights x due k =
    subst (λ z. IsFlightOf (event z) flights pair)
    (sym (first_is event place record { roles = w.roles; waiting = w.items; flights = flights } k.earlier k.later x due.due.waits k.role k.was k.first))
    due.flight

-- what is said of all that waits is said of the first item of a role
own_all : {A : Type 0} (P : A → Type 0) (event : A → Event) (r : List ℕ) (items : List A) (x : A) (others : List A) → AllByRecursion P items → own_items event r items ≡ x ∷ others → P x
own_all {A} P event r [] x others h e = let empty : ◌≡◌ {A = List A} [] (x ∷ others) = e in absurd (cc)
own_all {A} P event r (y ∷ items) x others h e = by (is_own r (event y)) (own_all P event r items x others h.1) e
  where
    by : (b : Bool) → (own_items event r items ≡ x ∷ others → P x) → cond b (y ∷ own_items event r items) (own_items event r items) ≡ x ∷ others → P x
    by true later same = let one : y ≡ x = cc in subst P one h.0
    by false later same = later same

pub drained_due : {A : Type 0} (event : A → Event) (place : ℕ) (old new : Holding A) (released now : List A) → IsDueAt event old place → IsTakenOnto event place old new released now → new.roles ≡ old.roles → IsDrained event old new released now
drained_due event place old new released now due k same =
    let ready : IsReceivable old.flights (event k.x) = subst (λ z. IsReceivable old.flights (event z)) (sym (taken_is_due event place old new released now due.waits k)) due.ready in
    drained_one event place old new released now k ready same

pub taken_count : {A : Type 0} (event : A → Event) (place : ℕ) (old new : Holding A) (released now : List A) → IsTakenOnto event place old new released now → length now + length new.waiting ≡ length released + length old.waiting
taken_count event place old new released now k =
    let t = k.taken in
    omega (arith, ap length k.appended, length-append released (k.x ∷ []), ap length t.was, ap length t.now, length-append t.earlier (k.x ∷ t.later), length-append t.earlier t.later)

-- counts that were read
pub counted_read : (e f : Event) (flights read new : List Flight) → read ≡ flights → e ≡ f → CountsEvent e read new → CountsEvent f flights new
counted_read e f flights read new same is h = subst (λ z. CountsEvent z flights new) is (subst (λ z. CountsEvent e z new) same h)

pub kept_read : (flights read new : List Flight) → read ≡ flights → KeepsFlights read new → KeepsFlights flights new
kept_read flights read new same h = subst (λ z. KeepsFlights z new) same h

pub unready_read : (flights read : List Flight) (e f : Event) (b : Bool) → read ≡ flights → f ≡ e → (IsReceivable read f → b ≡ true) → b ≡ false → IsReceivable flights e → ⊥
unready_read flights read e f b same is h no_ ready = true≢false (sym (h (ready_read read flights f e (sym same) (sym is) ready)) ∙ no_)

pub has_read : (flights read : List Flight) (e f : Event) → read ≡ flights → f ≡ e → HasFlight read f → HasFlight flights e
has_read flights read e f same is h = subst (λ z. HasFlight flights z) is (subst (λ z. HasFlight z f) same h)

-- the flight of what is due at a place, where it was found by flights and an event that were read
pub due_on : {A : Type 0} (event : A → Event) (place : ℕ) (w : Waiters A) (flights read : List Flight) (pushed : ℕ) (x : A) (f : Event) (o : Option ℕ) → read ≡ flights → f ≡ event x → IsSound event w.items flights pushed → IsFirstItem event place w x → IfSome o (IsFlightOf f read) → (is_some o ≡ true → IsReceivable read f) → (is_some o ≡ false → HasFlight read f → IsReceivable read f → ⊥) → MatchOption o (IsQuietAt event place record { roles = w.roles; waiting = w.items; flights = flights }) (IsDueOn event record { roles = w.roles; waiting = w.items; flights = flights } place)
due_on {A} event place w flights read pushed x f None same is s k at ready unready =
    let R : A → Type 0 = λ y. HasFlight flights (event y) in
    let has : HasFlight flights (event x) = own_all R event (subject_of (event x)) w.items x k.others s.paired k.first in
    quiet_at_unready event place w flights x k
    (λ due. unready refl (has_read read flights f (event x) (sym same) (sym is) has) (ready_read read flights f (event x) (sym same) (sym is) due))
due_on event place w flights read pushed x f (Some i) same is s k at ready unready = record {
  due = record { waits = record { x = x; role = k.role; others = k.others; first = k.first }; ready = ready_read flights read (event x) f same is (ready refl) };
  flight = subst (λ z. IsFlightOf z flights i) is (subst (λ z. IsFlightOf f z i) same at);
}
