-- Look-ups and changes of queues, for the view that contracts see.
use Rattle.std.proofs.Common.{◌≡◌, ◌↔◌, ◌==◌, ◌<◌, ◌+◌, ℕ, ◌⊎◌, inl, inr, Bool, true, false, IsTrue, List, [], ◌∷◌, ◌++◌, length, set, get_or, slice_get, zip, position, Some, None, Option, Result, Ok, Err, is_ok, OnOk, OnErr, if◌then◌else◌, rules, refl, sym, ap, subst, ◌∙◌, arith}
use Rattle.std.proofs.lemmas.Bool.{cases_eq, true≢false}
use Rattle.std.proofs.lemmas.Bool.Decides.{Decides-eqb}
use Rattle.std.proofs.lemmas.Grind.{common_steps}
use Rattle.std.proofs.lemmas.List.{get_or_default}
use Rattle.std.proofs.lemmas.List.Quantifiers.{position-Some}
use Rattle.std.proofs.lemmas.Option.{get_or_from_slice_get, same_Some, slice_get-get_or}
use Rattle.scrib_queues.specs.declared.queues.Pair.{Pair}
use Rattle.scrib_queues.specs.Channels.{Channel, Channels, SameElsewhere, SameQueues, KeepsRoom, AllEmpty, is_pair, queue_of, has_room}
use Rattle.scrib_queues.specs.Layout.{IsWaitingAt, fresh, items_of}
use Rattle.scrib_queues.proofs.Lookups.{is_first, is_past, missing, found, changed_here, changed_elsewhere, added_here, added_elsewhere, same_items}

is_own : (p q : ℕ) → is_pair p q record { from = p; to = q } ≡ true
is_own p q = grind (arith, common_steps)

-- two pairs are the same or not
same_pair_or_not : (p q from to : ℕ) → ((from ≡ p) × (to ≡ q)) ⊎ (¬ ((from ≡ p) × (to ≡ q)))
same_pair_or_not p q from to = by (cases_eq from p) (cases_eq to q)
  where
    by : (from ≡ p) ⊎ (from ≡ p → ⊥) → (to ≡ q) ⊎ (to ≡ q → ⊥) → ((from ≡ p) × (to ≡ q)) ⊎ (¬ ((from ≡ p) × (to ≡ q)))
    by (inl e) (inl f) = inl (e, f)
    by (inl e) (inr f) = inr (λ both. f both.1)
    by (inr e) f = inr (λ both. e both.0)

pub on_ok : {E : Type 0} (r : Result (Unit {0}) E) (P : Type 0) → P → OnOk r P
on_ok (Ok u) P p = p
on_ok (Err u) P p = search rules

-- the result of a search, for equal lists of pairs
pub same_position : (p q : ℕ) (read ks : List Pair) (r o : Option ℕ) → r ≡ position (is_pair p q) read → read ≡ ks → r ≡ o → position (is_pair p q) ks ≡ o
same_position p q read ks r o at same is = ap (λ pairs. position (is_pair p q) pairs) (sym same) ∙ sym at ∙ is

pub true_is_false : true ≡ false → ⊥
true_is_false e = (cc)

module _ {T : Type 0} where
  -- the view of these pairs and their queues
  abbrev pub seen : ℕ → List Pair → List (Channel T) → Channels T
  seen n ks ls = record { roles = n; used = zip ks ls }

  pub none_used : (n : ℕ) (ks : List Pair) (ls : List (Channel T)) → ks ≡ [] → AllEmpty (seen n ks ls)
  unfolding queue_of
  none_used n ks ls e p q = rw e refl

  pub none_waits : (n p q : ℕ) (ks : List Pair) (ls : List (Channel T)) → position (is_pair p q) ks ≡ None → queue_of (seen n ks ls) p q ≡ []
  unfolding queue_of
  none_waits n p q ks ls e = ap (λ (c : Channel T). c.items) (missing p q ks ls (is_past p q ks e))

  pub no_room : (n p q : ℕ) (ks : List Pair) (ls : List (Channel T)) → position (is_pair p q) ks ≡ None → has_room (seen n ks ls) p q ≡ false
  unfolding has_room
  no_room n p q ks ls e = ap (λ (c : Channel T). c.room) (missing p q ks ls (is_past p q ks e))

  pub items_at : (n p q : ℕ) (ks : List Pair) (ls : List (Channel T)) (i : ℕ) (l : Channel T) → position (is_pair p q) ks ≡ Some i → length ks ≡ length ls → l ≡ get_or ls i l → queue_of (seen n ks ls) p q ≡ l.items
  unfolding queue_of
  items_at n p q ks ls i l e long at = ap (λ (c : Channel T). c.items) (found p q ks ls i l (is_first p q ks i e) long ∙ sym at)

  pub room_at : (n p q : ℕ) (ks : List Pair) (ls : List (Channel T)) (i : ℕ) (l : Channel T) → position (is_pair p q) ks ≡ Some i → length ks ≡ length ls → l ≡ get_or ls i l → has_room (seen n ks ls) p q ≡ l.room
  unfolding has_room
  room_at n p q ks ls i l e long at = ap (λ (c : Channel T). c.room) (found p q ks ls i l (is_first p q ks i e) long ∙ sym at)

  pub items_set : (n p q : ℕ) (ks : List Pair) (ls : List (Channel T)) (i : ℕ) (l : Channel T) → position (is_pair p q) ks ≡ Some i → length ks ≡ length ls → queue_of (seen n ks (set ls i l)) p q ≡ l.items
  unfolding queue_of
  items_set n p q ks ls i l e long = ap (λ (c : Channel T). c.items) (changed_here p q ks ls i l (is_first p q ks i e) long)

  pub room_set : (n p q : ℕ) (ks : List Pair) (ls : List (Channel T)) (i : ℕ) (l : Channel T) → position (is_pair p q) ks ≡ Some i → length ks ≡ length ls → has_room (seen n ks (set ls i l)) p q ≡ l.room
  unfolding has_room
  room_set n p q ks ls i l e long = ap (λ (c : Channel T). c.room) (changed_here p q ks ls i l (is_first p q ks i e) long)

  pub set_elsewhere : (n p q : ℕ) (ks : List Pair) (ls : List (Channel T)) (i : ℕ) (l : Channel T) → position (is_pair p q) ks ≡ Some i → SameElsewhere p q (seen n ks ls) (seen n ks (set ls i l))
  unfolding queue_of has_room
  set_elsewhere n p q ks ls i l e from to differ =
      let same = changed_elsewhere p q from to ks ls i l (is_first p q ks i e) differ in
      (ap (λ (c : Channel T). c.items) same, ap (λ (c : Channel T). c.room) same)

  pub added_elsewhere_seen : (n p q : ℕ) (ks : List Pair) (ls : List (Channel T)) (l : Channel T) → length ks ≡ length ls → SameElsewhere p q (seen n ks ls) (seen n (ks ++ record { from = p; to = q } ∷ []) (ls ++ l ∷ []))
  unfolding queue_of has_room
  added_elsewhere_seen n p q ks ls l long from to differ =
      let k : Pair = record { from = p; to = q } in
      let other : is_pair from to k ≡ false = not_pair p q from to differ in
      let same = added_elsewhere from to ks ls k l long other in
      (ap (λ (c : Channel T). c.items) same, ap (λ (c : Channel T). c.room) same)
    where
      not_pair : (p q from to : ℕ) → ¬ ((from ≡ p) × (to ≡ q)) → is_pair from to record { from = p; to = q } ≡ false
      not_pair p q from to differ = grind (arith, common_steps)

  pub room_added : (n p q : ℕ) (ks : List Pair) (ls : List (Channel T)) → position (is_pair p q) ks ≡ None → length ks ≡ length ls → IsTrue (has_room (seen n (ks ++ record { from = p; to = q } ∷ []) (ls ++ fresh ∷ [])) p q)
  unfolding has_room
  room_added n p q ks ls e long = ap (λ (c : Channel T). c.room) (added_here p q ks ls record { from = p; to = q } fresh (is_past p q ks e) long (is_own p q))

  pub items_added : (n p q : ℕ) (ks : List Pair) (ls : List (Channel T)) (l : Channel T) → position (is_pair p q) ks ≡ None → length ks ≡ length ls → queue_of (seen n (ks ++ record { from = p; to = q } ∷ []) (ls ++ l ∷ [])) p q ≡ l.items
  unfolding queue_of
  items_added n p q ks ls l e long = ap (λ (c : Channel T). c.items) (added_here p q ks ls record { from = p; to = q } l (is_past p q ks e) long (is_own p q))

  pub same_queues : (p q : ℕ) (old new : Channels T) → SameElsewhere p q old new → queue_of new p q ≡ queue_of old p q → SameQueues old new
  same_queues p q old new others here from to = by (same_pair_or_not p q from to)
    where
      by : ((from ≡ p) × (to ≡ q)) ⊎ (¬ ((from ≡ p) × (to ≡ q))) → queue_of new from to ≡ queue_of old from to
      by (inl same) = rw (same.0, same.1) here
      by (inr differ) = (others from to differ).0

  pub keeps_room : (p q : ℕ) (old new : Channels T) → SameElsewhere p q old new → (IsTrue (has_room old p q) → IsTrue (has_room new p q)) → KeepsRoom old new
  keeps_room p q old new others here from to = by (same_pair_or_not p q from to)
    where
      by : ((from ≡ p) × (to ≡ q)) ⊎ (¬ ((from ≡ p) × (to ≡ q))) → IsTrue (has_room old from to) → IsTrue (has_room new from to)
      by (inl same) room = rw (same.0, same.1) (here (rw (same.0, same.1) at room))
      by (inr differ) room = (others from to differ).1 ∙ room

  pub copied : (n : ℕ) (ks : List Pair) (ls new : List (Channel T)) → items_of new ≡ items_of ls → SameQueues (seen n ks ls) (seen n ks new)
  unfolding queue_of
  copied n ks ls new e p q = same_items p q ks ls new e

  -- the queue that is added was never used
  pub added_fresh : (b : Bool) (ls new_ls : List (Channel T)) (l : Channel T) → new_ls ≡ (if b then ls ++ l ∷ [] else ls) → l ≡ fresh → new_ls ≡ (if b then ls ++ fresh ∷ [] else ls)
  added_fresh b ls new_ls l e f = rw f at e

  -- a queue is added or, where memory is refused, isn't
  pub queues_added : (b : Bool) (n p q : ℕ) (ks new_ks : List Pair) (ls new_ls : List (Channel T)) → position (is_pair p q) ks ≡ None → length ks ≡ length ls → new_ks ≡ (if b then ks ++ record { from = p; to = q } ∷ [] else ks) → new_ls ≡ (if b then ls ++ fresh ∷ [] else ls) → SameQueues (seen n ks ls) (seen n new_ks new_ls)
  queues_added true n p q ks new_ks ls new_ls none long e f =
      rw (e, f) (same_queues p q _ _ (added_elsewhere_seen n p q ks ls fresh long) (items_added n p q ks ls fresh none long ∙ sym (none_waits n p q ks ls none)))
  queues_added false n p q ks new_ks ls new_ls none long e f = rw (e, f) (λ from to. refl)

  pub room_kept : (b : Bool) (n p q : ℕ) (ks new_ks : List Pair) (ls new_ls : List (Channel T)) → position (is_pair p q) ks ≡ None → length ks ≡ length ls → new_ks ≡ (if b then ks ++ record { from = p; to = q } ∷ [] else ks) → new_ls ≡ (if b then ls ++ fresh ∷ [] else ls) → KeepsRoom (seen n ks ls) (seen n new_ks new_ls)
  room_kept true n p q ks new_ks ls new_ls none long e f =
      rw (e, f) (keeps_room p q _ _ (added_elsewhere_seen n p q ks ls fresh long) (λ _. room_added n p q ks ls none long))
  room_kept false n p q ks new_ks ls new_ls none long e f = rw (e, f) (λ from to room. room)

  pub room_made : {E : Type 0} (r : Result (Unit {0}) E) (n p q : ℕ) (ks new_ks : List Pair) (ls new_ls : List (Channel T)) → position (is_pair p q) ks ≡ None → length ks ≡ length ls → new_ks ≡ (if is_ok r then ks ++ record { from = p; to = q } ∷ [] else ks) → new_ls ≡ (if is_ok r then ls ++ fresh ∷ [] else ls) → OnOk r (IsTrue (has_room (seen n new_ks new_ls) p q))
  room_made (Ok u) n p q ks new_ks ls new_ls none long e f = rw (e, f) (room_added n p q ks ls none long)
  room_made (Err u) n p q ks new_ks ls new_ls none long e f = search rules

  -- the same where the queue that is added has a message
  pub sent_added : {E : Type 0} (r : Result (Unit {0}) E) (n p q : ℕ) (ks new_ks : List Pair) (ls new_ls : List (Channel T)) (l : Channel T) (m : T) → position (is_pair p q) ks ≡ None → length ks ≡ length ls → new_ks ≡ (if is_ok r then ks ++ record { from = p; to = q } ∷ [] else ks) → new_ls ≡ (if is_ok r then ls ++ l ∷ [] else ls) → l.items ≡ m ∷ [] → OnOk r (queue_of (seen n new_ks new_ls) p q ≡ queue_of (seen n ks ls) p q ++ m ∷ [])
  sent_added (Ok u) n p q ks new_ks ls new_ls l m none long e f one =
      rw (e, f, none_waits n p q ks ls none) (items_added n p q ks ls l none long ∙ one)
  sent_added (Err u) n p q ks new_ks ls new_ls l m none long e f one = search rules

  pub others_added : {E : Type 0} (r : Result (Unit {0}) E) (n p q : ℕ) (ks new_ks : List Pair) (ls new_ls : List (Channel T)) (l : Channel T) → length ks ≡ length ls → new_ks ≡ (if is_ok r then ks ++ record { from = p; to = q } ∷ [] else ks) → new_ls ≡ (if is_ok r then ls ++ l ∷ [] else ls) → OnOk r (SameElsewhere p q (seen n ks ls) (seen n new_ks new_ls))
  others_added (Ok u) n p q ks new_ks ls new_ls l long e f = rw (e, f) (added_elsewhere_seen n p q ks ls l long)
  others_added (Err u) n p q ks new_ks ls new_ls l long e f = search rules

  -- a message behind those of one queue
  pub sent_there : {E : Type 0} (r : Result (Unit {0}) E) (new old : List T) (m : T) → new ≡ (if is_ok r then old ++ m ∷ [] else old) → OnOk r (new ≡ old ++ m ∷ [])
  sent_there (Ok u) new old m e = e
  sent_there (Err u) new old m e = search rules

  pub stay_there : {E : Type 0} (r : Result (Unit {0}) E) (p q : ℕ) (old new : Channels T) (m : T) → SameElsewhere p q old new → queue_of new p q ≡ (if is_ok r then queue_of old p q ++ m ∷ [] else queue_of old p q) → OnErr r (SameQueues old new)
  stay_there (Ok u) p q old new m others e = search rules
  stay_there (Err u) p q old new m others e = same_queues p q old new others e

  -- nothing is taken out of a queue in which none waits
  pub none_taken : (m : T) (ms : List T) → ms ≡ [] → (rest : List T) → ms ≡ m ∷ rest → ⊥
  none_taken m ms e rest f = (cc)

-- the pair's positions
pair_is : (p q : ℕ) (k : Pair) → is_pair p q k ≡ true → (k.from ≡ p) × (k.to ≡ q)
pair_is p q k e = (grind (arith, common_steps), grind (arith, common_steps))

module _ {T : Type 0} where
  -- a queue without an item
  pub none_here : (ks : List Pair) (ls : List (Channel T)) (i : ℕ) (l : Channel T) → i < length ls → l ≡ get_or ls i l → l.items ≡ [] → IsWaitingAt ks ls i → ⊥
  none_here ks ls i l below at none h =
      let same : h.queue ≡ l = same_Some h.queue l (sym h.here ∙ slice_get-get_or ls i l below ∙ ap Some (sym at)) in
      h.some (ap (λ (c : Channel T). c.items) same ∙ none)

  -- a queue whose pair is found elsewhere
  pub found_elsewhere : (ks : List Pair) (ls : List (Channel T)) (i : ℕ) (k : Pair) (o : Option ℕ) → slice_get ks i ≡ Some k → o ≡ position (is_pair k.from k.to) ks → (o ≡ Some i → ⊥) → IsWaitingAt ks ls i → ⊥
  found_elsewhere ks ls i k o named search never h =
      let same : h.pair ≡ k = same_Some h.pair k (sym h.named ∙ named) in
      never (search ∙ subst (λ (x : Pair). position (is_pair x.from x.to) ks ≡ Some i) same h.first)

  -- the first queue of its pair, with an item
  pub waits_here : (ks : List Pair) (ls : List (Channel T)) (i : ℕ) (k : Pair) (l : Channel T) (o : Option ℕ) (n : ℕ) → i < length ls → slice_get ks i ≡ Some k → l ≡ get_or ls i l → (l.items ≡ [] → ⊥) → o ≡ position (is_pair k.from k.to) ks → o ≡ Some n → IsTrue (n == i) ↔ IsWaitingAt ks ls i
  waits_here ks ls i k l o n below named at some search found = (
    λ t. record {
      pair = k;
      queue = l;
      named = named;
      first = sym search ∙ found ∙ ap (λ (j : ℕ). Some j) ((Decides-eqb n i).0 t);
      here = slice_get-get_or ls i l below ∙ ap Some (sym at);
      some = some;
    },
    λ h. elim (cases_eq n i) [
      | inl e ↦ (Decides-eqb n i).1 e
      | inr differ ↦ absurd (found_elsewhere ks ls i k o named search (λ is. differ (same_Some n i (sym found ∙ is))) h)
    ],
  )

  -- one queue more in which no item waits
  pub none_more : (ks : List Pair) (ls : List (Channel T)) (i : ℕ) (b : Bool) → b ≡ false → IsTrue b ↔ IsWaitingAt ks ls i → ((k : ℕ) → k < i → IsWaitingAt ks ls k → ⊥) → (k : ℕ) → k < i + 1 → IsWaitingAt ks ls k → ⊥
  none_more ks ls i b e is before k below h = elim (cases_eq k i) [
    | inl same ↦ true≢false (sym (is.1 (subst (IsWaitingAt ks ls) same h)) ∙ e)
    | inr differ ↦ before k (omega (arith, below, differ)) h
  ]

  -- no item waits
  pub none_waits_at_all : (n : ℕ) (ks : List Pair) (ls : List (Channel T)) → length ks ≡ length ls → ((i : ℕ) → IsWaitingAt ks ls i → ⊥) → AllEmpty (seen n ks ls)
  none_waits_at_all n ks ls long none p q = by (position (is_pair p q) ks) refl
    where
      nowhere : Pair
      nowhere = record { from = 0; to = 0 }

      nothing : Channel T
      nothing = fresh

      at : (i : ℕ) → position (is_pair p q) ks ≡ Some i → (xs : List T) → (get_or ls i nothing).items ≡ xs → queue_of (seen n ks ls) p q ≡ (get_or ls i nothing).items → queue_of (seen n ks ls) p q ≡ []
      at i e [] empty is = is ∙ empty
      at i e (x ∷ xs) items is =
          let found = position-Some (is_pair p q) ks i nowhere e in
          let k = get_or ks i nowhere in
          let ends = pair_is p q k found.1 in
          absurd (none i (record {
            pair = k;
            queue = get_or ls i nothing;
            named = slice_get-get_or ks i nowhere found.0;
            first = (λ j. position (is_pair (ends.0 j) (ends.1 j)) ks) ∙ e;
            here = slice_get-get_or ls i nothing (omega (arith, found.0, long));
            some = λ empty. let bad : x ∷ xs ≡ [] = sym items ∙ empty in cc;
          }))

      by : (o : Option ℕ) → position (is_pair p q) ks ≡ o → queue_of (seen n ks ls) p q ≡ []
      by None e = none_waits n p q ks ls e
      by (Some i) e =
          let found = position-Some (is_pair p q) ks i nowhere e in
          let l = get_or ls i nothing in
          let below : i < length ls = omega (arith, found.0, long) in
          at i e l.items refl (items_at n p q ks ls i l e long (get_or_default ls i nothing l below))

  -- an item waits
  pub some_waits : (n : ℕ) (ks : List Pair) (ls : List (Channel T)) (i : ℕ) → length ks ≡ length ls → IsWaitingAt ks ls i → AllEmpty (seen n ks ls) → ⊥
  some_waits n ks ls i long h empty =
      let at : h.queue ≡ get_or ls i h.queue = sym (get_or_from_slice_get ls i h.queue h.queue h.here) in
      h.some (sym (items_at n h.pair.from h.pair.to ks ls i h.queue h.first long at) ∙ empty h.pair.from h.pair.to)

  -- so the test is that of the view
  pub empty_test : (n : ℕ) (ks : List Pair) (ls : List (Channel T)) (b : Bool) → length ks ≡ length ls → (IsTrue b ↔ ((i : ℕ) → IsWaitingAt ks ls i → ⊥)) → IsTrue b ↔ AllEmpty (seen n ks ls)
  empty_test n ks ls b long is = (
    λ t. none_waits_at_all n ks ls long (is.0 t),
    λ empty. is.1 (λ i h. some_waits n ks ls i long h empty),
  )
