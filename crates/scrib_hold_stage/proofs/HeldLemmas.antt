-- How one conversation is held, step by step.
use Rattle.std.proofs.Common.{◌≡◌, ◌∙◌, ℕ, ◌+◌, ◌<◌, ◌≤◌, Bool, true, false, not, List, [], ◌∷◌, ◌++◌, Option, None, Some, refl, sym, ap, subst, append_assoc, append-nil, arith}
use Rattle.std.specs.List.{AllByRecursion}
use Rattle.scrib_types.specs.declared.event.Event.{Event}
use Rattle.scrib_hold_stage.specs.declared.noted.Noted.{Noted}
use Rattle.scrib_hold_stage.specs.declared.conversation.Conversation.{Conversation}
use Rattle.scrib_hold_stage.specs.Conversations.{noted_event, waiting_at, IsUnopenedAt, IsOpenAt, IsPushedTo, IsOpenedIn, IsExpiredIn}
use Rattle.scrib_hold_stage.specs.Deadlines.{IsInOrder, how_many}
use Rattle.scrib_hold_stage.specs.Stages.{AreHeld, IsHeld}
use Rattle.scrib_hold_stage.proofs.Lists.{all_append, all_right, all_weaker, all_pass, many-append, none_pass, order_right}
use Rattle.scrib_hold_stage.proofs.EntryLemmas.{time_of}
use Rattle.scrib_hold_stage.proofs.HoldLemmas.{parts_count, waiting_order}
use Rattle.scrib_hold_stage.proofs.ConversationLemmas.{waiting_open, waiting_unopened}

-- ---- the same conversation

pub held_same : {A : Type 0} (event : A → Event) (bound : ℕ) (opening opening' : Option ℕ) (events events' released released' expired expired' : List (Noted A)) (now now' : Option (Conversation A))
    → opening' ≡ opening → events' ≡ events → released' ≡ released → expired' ≡ expired → now' ≡ now
    → IsHeld event bound opening events released expired now → IsHeld event bound opening' events' released' expired' now'
held_same {A} event bound opening opening' events events' released released' expired expired' now now' o e r x n h =
    record {
      early = h.early;
      arrivals = h.arrivals;
      given = h.given;
      late = h.late;
      all = e ∙ h.all;
      out = r ∙ h.out;
      gone = x ∙ h.gone;
      held = subst (λ z. AreHeld event bound z h.early h.arrivals h.given h.late now') (sym o) (subst (λ z. AreHeld event bound opening h.early h.arrivals h.given h.late z) (sym n) h.held);
    }

-- ---- what waits

-- each arrival of an open conversation was released or waits
pub open_parts : {A : Type 0} (event : A → Event) (arrivals released expired : List (Noted A)) (now : Option (Conversation A)) → IsOpenAt event arrivals released expired now
    → (p : Noted A → Bool) → how_many p arrivals ≡ how_many p released + how_many p (waiting_at now)
open_parts event arrivals released expired None k p = absurd k
open_parts event arrivals released expired (Some c) k p =
    omega (arith, parts_count (noted_event event) k.after.held.holds p, ap (how_many p) (waiting_open event arrivals released expired c k))

open_order : {A : Type 0} (event : A → Event) (arrivals released expired : List (Noted A)) (now : Option (Conversation A)) → IsOpenAt event arrivals released expired now → IsInOrder time_of arrivals → IsInOrder time_of (waiting_at now)
open_order event arrivals released expired None k o = absurd k
open_order {A} event arrivals released expired (Some c) k o =
    subst (λ (z : List (Noted A)). IsInOrder time_of z) (sym (waiting_open event arrivals released expired c k)) (waiting_order (noted_event event) time_of k.after.held.holds o)

-- where the events are in order, so is what waits
pub held_order : {A : Type 0} (event : A → Event) (bound : ℕ) (opening : Option ℕ) (events released expired : List (Noted A)) (now : Option (Conversation A))
    → IsHeld event bound opening events released expired now → IsInOrder time_of events → IsInOrder time_of (waiting_at now)
held_order {A} event bound None events released expired now h o =
    subst (λ (z : List (Noted A)). IsInOrder time_of z) (sym (waiting_unopened event h.arrivals now h.held.2)) (order_right time_of h.early h.arrivals (subst (λ (z : List (Noted A)). IsInOrder time_of z) h.all o))
held_order {A} event bound (Some n) events released expired now h o =
    open_order event h.arrivals h.given h.late now h.held.2 (order_right time_of h.early h.arrivals (subst (λ (z : List (Noted A)). IsInOrder time_of z) h.all o))

-- ---- the items that are released are the conversation's

abbrev pub AreOwn : {A : Type 0} → (Noted A → Bool) → List (Noted A) → Type 0
AreOwn mine items = AllByRecursion (λ x. mine x ≡ true) items

own_given : {A : Type 0} (event : A → Event) (mine : Noted A → Bool) (arrivals released given expired : List (Noted A)) (now : Option (Conversation A)) → IsOpenAt event arrivals (released ++ given) expired now → AreOwn mine arrivals → AreOwn mine given
own_given {A} event mine arrivals released given expired now k own =
    let other : Noted A → Bool = λ x. not (mine x) in
    let none : how_many other arrivals ≡ 0 = none_pass other arrivals (all_weaker (λ (x : Noted A). mine x ≡ true) (λ (x : Noted A). other x ≡ false) (λ x y. ap not y) arrivals own) in
    all_pass mine given (omega (arith, none, open_parts event arrivals (released ++ given) expired now k other, many-append other released given))

arrivals_own : {A : Type 0} (event : A → Event) (bound : ℕ) (mine : Noted A → Bool) (opening : Option ℕ) (events released expired : List (Noted A)) (now : Option (Conversation A)) (h : IsHeld event bound opening events released expired now) → AreOwn mine events → AreOwn mine h.arrivals
arrivals_own {A} event bound mine opening events released expired now h own =
    all_right (λ (x : Noted A). mine x ≡ true) h.early h.arrivals (subst (AreOwn mine) h.all own)

-- ---- an event is taken

module _ {A : Type 0} (event : A → Event) (bound : ℕ) (mine : Noted A → Bool) (x : Noted A) (events released expired before now : List (Noted A)) (old new : Option (Conversation A)) (p : IsPushedTo event x old new before now) where
  pub push_held : (opening : Option ℕ) → IsHeld event bound opening events released expired old → ((n : ℕ) → opening ≡ Some n → n ≤ x.time + bound)
      → IsHeld event bound opening (events ++ x ∷ []) (released ++ p.given) expired new
  push_held None h old_enough =
      let q = p.unopened h.arrivals h.held.2 in
      record {
        early = h.early;
        arrivals = h.arrivals ++ x ∷ [];
        given = h.given;
        late = h.late;
        all = ap (λ z. z ++ x ∷ []) h.all ∙ append_assoc h.early h.arrivals (x ∷ []);
        out = ap (λ z. released ++ z) q.1 ∙ append-nil released ∙ h.out;
        gone = h.gone;
        held = (h.held.0, h.held.1, q.0);
      }
  push_held (Some n) h old_enough = record {
    early = h.early;
    arrivals = h.arrivals ++ x ∷ [];
    given = h.given ++ p.given;
    late = h.late;
    all = ap (λ z. z ++ x ∷ []) h.all ∙ append_assoc h.early h.arrivals (x ∷ []);
    out = ap (λ z. z ++ p.given) h.out ∙ append_assoc h.early h.given p.given;
    gone = h.gone;
    held = (
      h.held.0,
      all_append (λ (y : Noted A). n ≤ y.time + bound) h.arrivals (x ∷ []) h.held.1 (old_enough n refl, tt),
      p.opened h.arrivals h.given h.late h.held.2,
    );
  }

  pub push_own : (opening : Option ℕ) → IsHeld event bound opening events released expired old → AreOwn mine events → mine x ≡ true → AreOwn mine p.given
  push_own None h own passes = subst (AreOwn mine) (sym (p.unopened h.arrivals h.held.2).1) tt
  push_own (Some n) h own passes =
      own_given event mine (h.arrivals ++ x ∷ []) h.given p.given h.late new (p.opened h.arrivals h.given h.late h.held.2)
      (all_append (λ (y : Noted A). mine y ≡ true) h.arrivals (x ∷ []) (arrivals_own event bound mine (Some n) events released expired old h own) (passes, tt))

  -- what waits then
  pub push_waiting : (opening : Option ℕ) → IsHeld event bound opening events released expired old → (t : Noted A → Bool)
      → how_many t (waiting_at new) + how_many t p.given ≡ how_many t (waiting_at old) + how_many t (x ∷ [])
  push_waiting None h t =
      let q = p.unopened h.arrivals h.held.2 in
      omega (arith, ap (how_many t) (waiting_unopened event h.arrivals old h.held.2), ap (how_many t) (waiting_unopened event (h.arrivals ++ x ∷ []) new q.0), many-append t h.arrivals (x ∷ []), ap (how_many t) q.1)
  push_waiting (Some n) h t =
      omega (arith, open_parts event h.arrivals h.given h.late old h.held.2 t, open_parts event (h.arrivals ++ x ∷ []) (h.given ++ p.given) h.late new (p.opened h.arrivals h.given h.late h.held.2) t, many-append t h.arrivals (x ∷ []), many-append t h.given p.given)

-- ---- an opening

module _ {A : Type 0} (event : A → Event) (bound : ℕ) (mine : Noted A → Bool) (events released expired before now : List (Noted A)) (old new : Option (Conversation A)) (p : IsOpenedIn event old new before now) where
  pub open_again : (n : ℕ) → IsHeld event bound (Some n) events released expired old → IsHeld event bound (Some n) events (released ++ p.given) expired new
  open_again n h = record {
    early = h.early;
    arrivals = h.arrivals;
    given = h.given ++ p.given;
    late = h.late;
    all = h.all;
    out = ap (λ z. z ++ p.given) h.out ∙ append_assoc h.early h.given p.given;
    gone = h.gone;
    held = (h.held.0, h.held.1, p.opened h.arrivals h.given h.late h.held.2);
  }

  pub open_first : (n : ℕ) → IsHeld event bound None events released expired old → AllByRecursion (λ x. x.time + bound < n) expired → AllByRecursion (λ x. n ≤ x.time + bound) (waiting_at old)
      → IsHeld event bound (Some n) events (released ++ p.given) expired new
  open_first n h aged fresh =
      let expired_is : expired ≡ h.early = h.gone ∙ ap (λ z. h.early ++ z) h.held.1 ∙ append-nil h.early in
      let released_is : released ≡ h.early = h.out ∙ ap (λ z. h.early ++ z) h.held.0 ∙ append-nil h.early in
      record {
        early = h.early;
        arrivals = h.arrivals;
        given = p.given;
        late = [];
        all = h.all;
        out = ap (λ z. z ++ p.given) released_is;
        gone = expired_is ∙ sym (append-nil h.early);
        held = (
          subst (AllByRecursion (λ (x : Noted A). x.time + bound < n)) expired_is aged,
          subst (AllByRecursion (λ (x : Noted A). n ≤ x.time + bound)) (waiting_unopened event h.arrivals old h.held.2) fresh,
          p.unopened h.arrivals h.held.2,
        );
      }

  pub open_own : (opening : Option ℕ) → IsHeld event bound opening events released expired old → AreOwn mine events → AreOwn mine p.given
  open_own None h own = own_given event mine h.arrivals [] p.given [] new (p.unopened h.arrivals h.held.2) (arrivals_own event bound mine None events released expired old h own)
  open_own (Some n) h own =
      own_given event mine h.arrivals h.given p.given h.late new (p.opened h.arrivals h.given h.late h.held.2) (arrivals_own event bound mine (Some n) events released expired old h own)

  pub open_waiting : (opening : Option ℕ) → IsHeld event bound opening events released expired old → (t : Noted A → Bool) → how_many t (waiting_at new) + how_many t p.given ≡ how_many t (waiting_at old)
  open_waiting None h t =
      omega (arith, ap (how_many t) (waiting_unopened event h.arrivals old h.held.2), open_parts event h.arrivals p.given [] new (p.unopened h.arrivals h.held.2) t)
  open_waiting (Some n) h t =
      omega (arith, open_parts event h.arrivals h.given h.late old h.held.2 t, open_parts event h.arrivals (h.given ++ p.given) h.late new (p.opened h.arrivals h.given h.late h.held.2) t, many-append t h.given p.given)

-- ---- the oldest event expires

module _ {A : Type 0} (event : A → Event) (bound : ℕ) (mine : Noted A → Bool) (time : ℕ) (events released expired before now : List (Noted A)) (old new : Option (Conversation A)) (p : IsExpiredIn event time old new before now) where
  -- what waited before the opening
  waited_early : (h : IsHeld event bound None events released expired old) → h.arrivals ≡ p.oldest ∷ p.waited.0
  waited_early h = sym (waiting_unopened event h.arrivals old h.held.2) ∙ p.waited.1

  unopened_then : (h : IsHeld event bound None events released expired old) → IsUnopenedAt event p.waited.0 new × (p.given ≡ [])
  unopened_then h = p.unopened p.waited.0 (subst (λ z. IsUnopenedAt event z old) (waited_early h) h.held.2)

  pub expire_held : (opening : Option ℕ) → IsHeld event bound opening events released expired old
      → IsHeld event bound opening events (released ++ p.oldest ∷ p.given) (expired ++ p.oldest ∷ []) new
  expire_held None h =
      let q = unopened_then h in
      let expired_is : expired ≡ h.early = h.gone ∙ ap (λ z. h.early ++ z) h.held.1 ∙ append-nil h.early in
      let released_is : released ≡ h.early = h.out ∙ ap (λ z. h.early ++ z) h.held.0 ∙ append-nil h.early in
      record {
        early = h.early ++ p.oldest ∷ [];
        arrivals = p.waited.0;
        given = [];
        late = [];
        all = h.all ∙ ap (λ z. h.early ++ z) (waited_early h) ∙ sym (append_assoc h.early (p.oldest ∷ []) p.waited.0);
        out = ap (λ z. released ++ p.oldest ∷ z) q.1 ∙ ap (λ z. z ++ p.oldest ∷ []) released_is ∙ sym (append-nil (h.early ++ p.oldest ∷ []));
        gone = ap (λ z. z ++ p.oldest ∷ []) expired_is ∙ sym (append-nil (h.early ++ p.oldest ∷ []));
        held = (refl, refl, q.0);
      }
  expire_held (Some n) h = record {
    early = h.early;
    arrivals = h.arrivals;
    given = h.given ++ p.oldest ∷ p.given;
    late = h.late ++ p.oldest ∷ [];
    all = h.all;
    out = ap (λ z. z ++ p.oldest ∷ p.given) h.out ∙ append_assoc h.early h.given (p.oldest ∷ p.given);
    gone = ap (λ z. z ++ p.oldest ∷ []) h.gone ∙ append_assoc h.early h.late (p.oldest ∷ []);
    held = (h.held.0, h.held.1, p.opened h.arrivals h.given h.late h.held.2);
  }

  pub expire_own : (opening : Option ℕ) → IsHeld event bound opening events released expired old → AreOwn mine events → AreOwn mine (p.oldest ∷ p.given)
  expire_own None h own =
      let each = subst (AreOwn mine) (waited_early h) (arrivals_own event bound mine None events released expired old h own) in
      (each.0, subst (AreOwn mine) (sym (unopened_then h).1) tt)
  expire_own (Some n) h own =
      own_given event mine h.arrivals h.given (p.oldest ∷ p.given) (h.late ++ p.oldest ∷ []) new (p.opened h.arrivals h.given h.late h.held.2) (arrivals_own event bound mine (Some n) events released expired old h own)

  pub expire_waiting : (opening : Option ℕ) → IsHeld event bound opening events released expired old → (t : Noted A → Bool) → how_many t (waiting_at new) + how_many t (p.oldest ∷ p.given) ≡ how_many t (waiting_at old)
  expire_waiting None h t =
      let q = unopened_then h in
      omega (arith, ap (how_many t) p.waited.1, ap (how_many t) (waiting_unopened event p.waited.0 new q.0), ap (λ z. how_many t (p.oldest ∷ z)) q.1, many-append t (p.oldest ∷ []) p.waited.0)
  expire_waiting (Some n) h t =
      omega (arith, open_parts event h.arrivals h.given h.late old h.held.2 t, open_parts event h.arrivals (h.given ++ p.oldest ∷ p.given) (h.late ++ p.oldest ∷ []) new (p.opened h.arrivals h.given h.late h.held.2) t, many-append t h.given (p.oldest ∷ p.given))
