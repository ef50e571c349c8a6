-- What a stage keeps, step by step.
use Rattle.std.proofs.Common.{◌≡◌, ◌∙◌, ℕ, ◌+◌, ◌^◌, ◌<◌, ◌≤◌, Bool, true, false, List, [], ◌∷◌, ◌++◌, Option, None, Some, length, nat_eq, leb, eq-eqb, refl, sym, ap, subst, length-append, append-nil, arith}
use Rattle.std.specs.List.{AllByRecursion}
use Rattle.std.proofs.lemmas.Bool.{leb-true, le-leb}
use Rattle.scrib_types.specs.declared.event.Event.{Event}
use Rattle.scrib_hold_stage.specs.declared.noted.Noted.{Noted}
use Rattle.scrib_hold_stage.specs.declared.conversation.Conversation.{Conversation}
use Rattle.scrib_hold_stage.specs.declared.deadlines.Deadline.{Deadline}
use Rattle.scrib_hold_stage.specs.Entries.{Entry, Notes, Opens, Passes, Closings, none_closed, is_of, is_since, noted_in, noted_since, opening_since, AreNumberedFrom}
use Rattle.scrib_hold_stage.specs.Conversations.{waiting_at, IsNotOldest}
use Rattle.scrib_hold_stage.specs.Changes.{Conversations, conversation_at, LeavesOthers, IsPushedOf, IsOpenedOf, IsExpiredOf}
use Rattle.scrib_hold_stage.specs.Deadlines.{IsInOrder, due_time, how_many, is_at, AreListed, AreOfOthers, StartsAfter}
use Rattle.scrib_hold_stage.specs.Stages.{StageState, IsHeld, IsStageKept, HasStaged}
use Rattle.scrib_hold_stage.proofs.Lists.{all_append, all_weaker, all_kept, kept_pass, many-here, none_behind, one_at, order_kept, order_right, each_time}
use Rattle.scrib_hold_stage.proofs.EntryLemmas.{noted-append, opening_stays, opening_other, opening_here, opening_before, numbered_push, noted_before, noted_in_order, time_of, own_added, since_own, own_since, others_added}
use Rattle.scrib_hold_stage.proofs.HeldLemmas.{held_same, held_order, AreOwn, push_held, push_own, push_waiting, open_again, open_first, open_own, open_waiting, expire_held, expire_own, expire_waiting}
use Rattle.scrib_hold_stage.proofs.DeadlineLemmas.{of_deadline, past_others, all_later, from_first, by_id, differ_back, listed_rest, listed_fewer}

-- the conversation is held, after these entries
abbrev pub HeldIn : {A : Type 0} → (A → Event) → (bound : ℕ) → List (Entry A) → Closings → (released expired : List (Noted A)) → Conversations A → ℕ → Type 0
HeldIn event bound entries closed released expired conversations id =
    IsHeld event bound (opening_since (closed id) id entries) (noted_since (closed id) id (noted_in entries)) (noted_since (closed id) id released) (noted_since (closed id) id expired)
    (conversation_at conversations id)

-- ---- times

-- the item is not later than this
abbrev is_by : {A : Type 0} → ℕ → Noted A → Bool
is_by n x = leb x.time n

by_time : {A : Type 0} (n : ℕ) (xs : List (Noted A)) → AllByRecursion (λ x. is_by n x ≡ true) xs → AllByRecursion (λ x. x.time ≤ n) xs
by_time {A} n xs a = all_weaker (λ (x : Noted A). is_by n x ≡ true) (λ (x : Noted A). x.time ≤ n) (λ x y. leb-true x.time n y) xs a

-- what waits or was released later is not later than the last entry
events_by : {A : Type 0} (n time id : ℕ) (entries : List (Entry A)) → AreNumberedFrom 1 entries → length entries ≤ n → AllByRecursion (λ x. is_by n x ≡ true) (noted_since time id (noted_in entries))
events_by {A} n time id entries a le =
    all_kept (λ (x : Noted A). is_by n x ≡ true) (is_since time id) (noted_in entries)
    (all_weaker (λ (x : Noted A). x.time < 1 + length entries) (λ (x : Noted A). is_by n x ≡ true) (λ x h. le-leb x.time n (omega (arith, h, le))) (noted_in entries) (noted_before 1 entries a))

-- more of what isn't later
more_by : {A : Type 0} (n m : ℕ) (xs ys : List (Noted A)) → n ≤ m → AllByRecursion (λ x. x.time ≤ n) xs → AllByRecursion (λ x. x.time ≤ m) ys → AllByRecursion (λ x. x.time ≤ m) (xs ++ ys)
more_by {A} n m xs ys le a b = all_append (λ (x : Noted A). x.time ≤ m) xs ys (all_weaker (λ (x : Noted A). x.time ≤ n) (λ (x : Noted A). x.time ≤ m) (λ x h. omega (arith, h, le)) xs a) b

-- ---- no entry was read

pub kept_initially : {A : Type 0} (event : A → Event) (bound : ℕ) (s : StageState A) → s.bound ≡ bound → s.time ≡ 0 → s.conversations ≡ [] → s.deadlines ≡ [] → s.others ≡ 0 → s.expired ≡ 0 → HasStaged event bound [] none_closed [] [] s
kept_initially {A} event bound s b t c d e x =
    let none : (id : ℕ) → conversation_at s.conversations id ≡ None = λ id. ap (λ z. conversation_at z id) c in
    record {
      kept = record {
        bounded = b;
        timed = t;
        fits = omega (arith, t);
        numbered = tt;
        begun = λ id. omega arith;
        passed = tt;
        gone = tt;
        held = λ id. subst (λ z. IsHeld event bound None [] [] [] z) (sym (none id)) (record { early = []; arrivals = []; given = []; late = []; all = refl; out = refl; gone = refl; held = (refl, refl, refl) });
        listed = record {
          ordered = subst (IsInOrder due_time) (sym d) tt;
          within = subst (AllByRecursion (λ (k : Deadline). k.time ≤ s.time)) (sym d) tt;
          complete = λ id n some. absurd (omega (arith, subst (λ (z : Option (Conversation A)). 0 < how_many (is_at n) (waiting_at z)) (none id) some));
        };
        events = (let none : length (noted_in {A = A} []) ≡ 0 = refl in omega (arith, none, e, t));
        expired_count = x;
        room = omega (arith, ap length d, t);
      };
      aged = λ id. tt;
      fresh = λ id. subst (λ (z : Option (Conversation A)). AllByRecursion (λ (y : Noted A). 0 < y.time + bound) (waiting_at z)) (sym (none id)) tt;
    }

-- ---- an event is read

module _ {A : Type 0} (event : A → Event) (bound : ℕ) (entries : List (Entry A)) (closed : Closings) (earlier expired before now : List (Noted A)) (x : Noted A) (old new : StageState A)
    (p : IsPushedOf event x old.conversations new.conversations before now) (a : HasStaged event bound entries closed earlier expired old) (at : x.time ≡ old.time + 1) where
  mine : is_of x.conversation x ≡ true
  mine = eq-eqb x.conversation x.conversation refl

  -- what holds of each event of the conversation holds of each that is released
  given_all : (test : Noted A → Bool) → AreOwn test (noted_since (closed x.conversation) x.conversation (noted_in entries)) → test x ≡ true → AreOwn test p.pushed.given
  given_all test =
      push_own event bound test x (noted_since (closed x.conversation) x.conversation (noted_in entries)) (noted_since (closed x.conversation) x.conversation earlier) (noted_since (closed x.conversation) x.conversation expired) before now
      (conversation_at old.conversations x.conversation) (conversation_at new.conversations x.conversation) p.pushed (opening_since (closed x.conversation) x.conversation entries) (a.kept.held x.conversation)

  is_now : is_since (closed x.conversation) x.conversation x ≡ true
  is_now = since_own (closed x.conversation) x.conversation x mine (omega (arith, at, a.kept.timed, a.kept.begun x.conversation))

  given_since : AreOwn (is_since (closed x.conversation) x.conversation) p.pushed.given
  given_since = given_all (is_since (closed x.conversation) x.conversation) (kept_pass (is_since (closed x.conversation) x.conversation) (noted_in entries)) is_now

  given_own : AreOwn (is_of x.conversation) p.pushed.given
  given_own = own_since (closed x.conversation) x.conversation p.pushed.given given_since

  given_by : AllByRecursion (λ y. y.time ≤ old.time + 1) p.pushed.given
  given_by =
      let n = old.time + 1 in
      by_time n p.pushed.given
      (given_all (is_by n) (events_by n (closed x.conversation) x.conversation entries a.kept.numbered (omega (arith, a.kept.timed))) (le-leb x.time n (omega (arith, at))))

  held_here : HeldIn event bound (entries ++ Notes x ∷ []) closed (earlier ++ p.pushed.given) expired new.conversations x.conversation
  held_here =
      let i = x.conversation in
      let more : noted_since (closed i) i (noted_in (entries ++ Notes x ∷ [])) ≡ noted_since (closed i) i (noted_in entries) ++ x ∷ [] = ap (noted_since (closed i) i) (noted-append entries (Notes x)) ∙ own_added (is_since (closed i) i) (noted_in entries) (x ∷ []) (is_now, tt) in
      held_same event bound (opening_since (closed i) i entries) (opening_since (closed i) i (entries ++ Notes x ∷ []))
      (noted_since (closed i) i (noted_in entries) ++ x ∷ []) (noted_since (closed i) i (noted_in (entries ++ Notes x ∷ [])))
      (noted_since (closed i) i earlier ++ p.pushed.given) (noted_since (closed i) i (earlier ++ p.pushed.given))
      (noted_since (closed i) i expired) (noted_since (closed i) i expired) (conversation_at new.conversations i) (conversation_at new.conversations i)
      (opening_other 1 (closed i) i entries (Notes x) refl) more (own_added (is_since (closed i) i) earlier p.pushed.given given_since) refl refl
      (push_held event bound (is_of i) x (noted_since (closed i) i (noted_in entries)) (noted_since (closed i) i earlier) (noted_since (closed i) i expired) before now
      (conversation_at old.conversations i) (conversation_at new.conversations i) p.pushed (opening_since (closed i) i entries) (a.kept.held i)
      (λ n o. omega (arith, at, a.kept.timed, opening_before 1 (closed i) i n entries o)))

  held_there : (k : ℕ) → nat_eq x.conversation k ≡ false → HeldIn event bound (entries ++ Notes x ∷ []) closed (earlier ++ p.pushed.given) expired new.conversations k
  held_there k differs =
      let i = x.conversation in
      let same : noted_since (closed k) k (noted_in (entries ++ Notes x ∷ [])) ≡ noted_since (closed k) k (noted_in entries) = ap (noted_since (closed k) k) (noted-append entries (Notes x)) ∙ others_added (closed k) i k (noted_in entries) (x ∷ []) differs (mine, tt) in
      held_same event bound (opening_since (closed k) k entries) (opening_since (closed k) k (entries ++ Notes x ∷ []))
      (noted_since (closed k) k (noted_in entries)) (noted_since (closed k) k (noted_in (entries ++ Notes x ∷ [])))
      (noted_since (closed k) k earlier) (noted_since (closed k) k (earlier ++ p.pushed.given))
      (noted_since (closed k) k expired) (noted_since (closed k) k expired) (conversation_at old.conversations k) (conversation_at new.conversations k)
      (opening_other 1 (closed k) k entries (Notes x) refl) same (others_added (closed k) i k earlier p.pushed.given differs given_own) refl (p.others k differs)
      (a.kept.held k)

  pub event_waits : (t : Noted A → Bool) → how_many t (waiting_at (conversation_at new.conversations x.conversation)) + how_many t p.pushed.given ≡ how_many t (waiting_at (conversation_at old.conversations x.conversation)) + how_many t (x ∷ [])
  event_waits =
      push_waiting event bound (is_of x.conversation) x (noted_since (closed x.conversation) x.conversation (noted_in entries)) (noted_since (closed x.conversation) x.conversation earlier) (noted_since (closed x.conversation) x.conversation expired) before now
      (conversation_at old.conversations x.conversation) (conversation_at new.conversations x.conversation) p.pushed (opening_since (closed x.conversation) x.conversation entries) (a.kept.held x.conversation)

  pub event_read : old.time + 1 < 2 ^ 64 → new.bound ≡ old.bound → new.time ≡ old.time + 1 → new.others ≡ old.others → new.expired ≡ old.expired → AreListed (old.time + 1) new.conversations new.deadlines → length new.deadlines ≤ length old.deadlines + 1
      → IsStageKept event bound (entries ++ Notes x ∷ []) closed (earlier ++ p.pushed.given) expired new
  event_read small b t e g l r = record {
    bounded = b ∙ a.kept.bounded;
    timed = omega (arith, t, a.kept.timed, length-append entries (Notes x ∷ []));
    fits = omega (arith, t, small);
    numbered = numbered_push 1 entries (Notes x) a.kept.numbered (omega (arith, at, a.kept.timed));
    begun = λ id. omega (arith, a.kept.begun id, length-append entries (Notes x ∷ []));
    passed = more_by (length entries) (length (entries ++ Notes x ∷ [])) earlier p.pushed.given (omega (arith, length-append entries (Notes x ∷ []))) a.kept.passed
        (all_weaker (λ (y : Noted A). y.time ≤ old.time + 1) (λ (y : Noted A). y.time ≤ length (entries ++ Notes x ∷ [])) (λ y h. omega (arith, h, a.kept.timed, length-append entries (Notes x ∷ []))) p.pushed.given given_by);
    gone = all_weaker (λ (y : Noted A). y.time ≤ length entries) (λ (y : Noted A). y.time ≤ length (entries ++ Notes x ∷ [])) (λ y h. omega (arith, h, length-append entries (Notes x ∷ []))) expired a.kept.gone;
    held = by_id x.conversation (HeldIn event bound (entries ++ Notes x ∷ []) closed (earlier ++ p.pushed.given) expired new.conversations) held_here held_there;
    listed = subst (λ z. AreListed z new.conversations new.deadlines) (sym t) l;
    events = omega (arith, e, t, a.kept.events, ap length (noted-append entries (Notes x)), length-append (noted_in entries) (x ∷ []));
    expired_count = g ∙ a.kept.expired_count;
    room = omega (arith, r, t, a.kept.room);
  }

-- ---- an opening is read

module _ {A : Type 0} (event : A → Event) (bound : ℕ) (entries : List (Entry A)) (closed : Closings) (earlier expired before now : List (Noted A)) (i : ℕ) (old new : StageState A)
    (p : IsOpenedOf event i old.conversations new.conversations before now) (a : HasStaged event bound entries closed earlier expired old) where
  -- what holds of each event of the conversation holds of each that is released
  opened_all : (test : Noted A → Bool) → AreOwn test (noted_since (closed i) i (noted_in entries)) → AreOwn test p.opened.given
  opened_all test =
      open_own event bound test (noted_since (closed i) i (noted_in entries)) (noted_since (closed i) i earlier) (noted_since (closed i) i expired) before now (conversation_at old.conversations i) (conversation_at new.conversations i) p.opened (opening_since (closed i) i entries)
      (a.kept.held i)

  opened_since : AreOwn (is_since (closed i) i) p.opened.given
  opened_since = opened_all (is_since (closed i) i) (kept_pass (is_since (closed i) i) (noted_in entries))

  opened_given_own : AreOwn (is_of i) p.opened.given
  opened_given_own = own_since (closed i) i p.opened.given opened_since

  opened_by : AllByRecursion (λ y. y.time ≤ length entries) p.opened.given
  opened_by = by_time (length entries) p.opened.given (opened_all (is_by (length entries)) (events_by (length entries) (closed i) i entries a.kept.numbered (omega arith)))

  same_events : (k : ℕ) → noted_since (closed k) k (noted_in (entries ++ Opens i ∷ [])) ≡ noted_since (closed k) k (noted_in entries)
  same_events k = ap (noted_since (closed k) k) (noted-append entries (Opens i) ∙ append-nil (noted_in entries))

  opened_here : HeldIn event bound (entries ++ Opens i ∷ []) closed (earlier ++ p.opened.given) expired new.conversations i
  opened_here = by (opening_since (closed i) i entries) refl
    where
      out : (opening : Option ℕ) → opening_since (closed i) i (entries ++ Opens i ∷ []) ≡ opening → IsHeld event bound opening (noted_since (closed i) i (noted_in entries)) (noted_since (closed i) i earlier ++ p.opened.given) (noted_since (closed i) i expired) (conversation_at new.conversations i) → HeldIn event bound (entries ++ Opens i ∷ []) closed (earlier ++ p.opened.given) expired new.conversations i
      out opening o h =
          held_same event bound opening (opening_since (closed i) i (entries ++ Opens i ∷ []))
          (noted_since (closed i) i (noted_in entries)) (noted_since (closed i) i (noted_in (entries ++ Opens i ∷ [])))
          (noted_since (closed i) i earlier ++ p.opened.given) (noted_since (closed i) i (earlier ++ p.opened.given))
          (noted_since (closed i) i expired) (noted_since (closed i) i expired) (conversation_at new.conversations i) (conversation_at new.conversations i)
          o (same_events i) (own_added (is_since (closed i) i) earlier p.opened.given opened_since) refl refl h

      was : (opening : Option ℕ) → opening_since (closed i) i entries ≡ opening → IsHeld event bound opening (noted_since (closed i) i (noted_in entries)) (noted_since (closed i) i earlier) (noted_since (closed i) i expired) (conversation_at old.conversations i)
      was opening o = subst (λ z. IsHeld event bound z (noted_since (closed i) i (noted_in entries)) (noted_since (closed i) i earlier) (noted_since (closed i) i expired) (conversation_at old.conversations i)) o (a.kept.held i)

      by : (opening : Option ℕ) → opening_since (closed i) i entries ≡ opening → HeldIn event bound (entries ++ Opens i ∷ []) closed (earlier ++ p.opened.given) expired new.conversations i
      by None o =
          out (Some (1 + length entries)) (opening_here 1 (closed i) i entries (Opens i) (eq-eqb i i refl) (omega (arith, a.kept.begun i)) o)
          (open_first event bound (is_of i) (noted_since (closed i) i (noted_in entries)) (noted_since (closed i) i earlier) (noted_since (closed i) i expired) before now (conversation_at old.conversations i) (conversation_at new.conversations i) p.opened
          (1 + length entries) (was None o)
          (all_weaker (λ (x : Noted A). x.time + bound ≤ length entries) (λ (x : Noted A). x.time + bound < 1 + length entries) (λ x h. omega arith) (noted_since (closed i) i expired) (a.aged i))
          (all_weaker (λ (x : Noted A). length entries < x.time + bound) (λ (x : Noted A). 1 + length entries ≤ x.time + bound) (λ x h. omega arith) (waiting_at (conversation_at old.conversations i)) (a.fresh i)))
      by (Some n) o =
          out (Some n) (opening_stays 1 (closed i) i n entries (Opens i) o)
          (open_again event bound (is_of i) (noted_since (closed i) i (noted_in entries)) (noted_since (closed i) i earlier) (noted_since (closed i) i expired) before now (conversation_at old.conversations i) (conversation_at new.conversations i) p.opened n (was (Some n) o))

  opened_there : (k : ℕ) → nat_eq i k ≡ false → HeldIn event bound (entries ++ Opens i ∷ []) closed (earlier ++ p.opened.given) expired new.conversations k
  opened_there k differs =
      held_same event bound (opening_since (closed k) k entries) (opening_since (closed k) k (entries ++ Opens i ∷ []))
      (noted_since (closed k) k (noted_in entries)) (noted_since (closed k) k (noted_in (entries ++ Opens i ∷ [])))
      (noted_since (closed k) k earlier) (noted_since (closed k) k (earlier ++ p.opened.given))
      (noted_since (closed k) k expired) (noted_since (closed k) k expired) (conversation_at old.conversations k) (conversation_at new.conversations k)
      (opening_other 1 (closed k) k entries (Opens i) (differ_back i k differs)) (same_events k) (others_added (closed k) i k earlier p.opened.given differs opened_given_own) refl (p.others k differs)
      (a.kept.held k)

  pub opening_read : old.time + 1 < 2 ^ 64 → new.bound ≡ old.bound → new.time ≡ old.time + 1 → new.others ≡ old.others + 1 → new.expired ≡ old.expired → new.deadlines ≡ old.deadlines
      → IsStageKept event bound (entries ++ Opens i ∷ []) closed (earlier ++ p.opened.given) expired new
  opening_read small b t e g d = record {
    bounded = b ∙ a.kept.bounded;
    timed = omega (arith, t, a.kept.timed, length-append entries (Opens i ∷ []));
    fits = omega (arith, t, small);
    numbered = numbered_push 1 entries (Opens i) a.kept.numbered tt;
    begun = λ id. omega (arith, a.kept.begun id, length-append entries (Opens i ∷ []));
    passed = more_by (length entries) (length (entries ++ Opens i ∷ [])) earlier p.opened.given (omega (arith, length-append entries (Opens i ∷ []))) a.kept.passed
        (all_weaker (λ (y : Noted A). y.time ≤ length entries) (λ (y : Noted A). y.time ≤ length (entries ++ Opens i ∷ [])) (λ y h. omega (arith, h, length-append entries (Opens i ∷ []))) p.opened.given opened_by);
    gone = all_weaker (λ (y : Noted A). y.time ≤ length entries) (λ (y : Noted A). y.time ≤ length (entries ++ Opens i ∷ [])) (λ y h. omega (arith, h, length-append entries (Opens i ∷ []))) expired a.kept.gone;
    held = by_id i (HeldIn event bound (entries ++ Opens i ∷ []) closed (earlier ++ p.opened.given) expired new.conversations) opened_here opened_there;
    listed = subst (λ z. AreListed new.time new.conversations z) (sym d)
        (listed_fewer old.time new.time i old.conversations new.conversations old.deadlines a.kept.listed (omega (arith, t)) p.others
        (λ n. omega (arith, open_waiting event bound (is_of i) (noted_since (closed i) i (noted_in entries)) (noted_since (closed i) i earlier) (noted_since (closed i) i expired) before now (conversation_at old.conversations i) (conversation_at new.conversations i) p.opened (opening_since (closed i) i entries) (a.kept.held i) (is_at n))));
    events = omega (arith, e, t, a.kept.events, ap length (noted-append entries (Opens i) ∙ append-nil (noted_in entries)));
    expired_count = g ∙ a.kept.expired_count;
    room = omega (arith, ap length d, t, a.kept.room);
  }

-- ---- another entry is read

pub other_read : {A : Type 0} (event : A → Event) (bound : ℕ) (entries : List (Entry A)) (closed : Closings) (earlier expired : List (Noted A)) (old new : StageState A) → HasStaged event bound entries closed earlier expired old
    → old.time + 1 < 2 ^ 64 → new.bound ≡ old.bound → new.time ≡ old.time + 1 → new.conversations ≡ old.conversations → new.others ≡ old.others + 1 → new.expired ≡ old.expired → new.deadlines ≡ old.deadlines
    → IsStageKept event bound (entries ++ Passes ∷ []) closed earlier expired new
other_read {A} event bound entries closed earlier expired old new a small b t c e g d =
    let same : noted_in (entries ++ Passes ∷ []) ≡ noted_in entries = noted-append entries Passes ∙ append-nil (noted_in entries) in
    let one : List (Entry A) = Passes ∷ [] in
    let more : length (entries ++ one) ≡ length entries + 1 = length-append entries one in
    let later : (xs : List (Noted A)) → AllByRecursion (λ (y : Noted A). y.time ≤ length entries) xs → AllByRecursion (λ (y : Noted A). y.time ≤ length (entries ++ one)) xs =
    λ xs w. all_weaker (λ (y : Noted A). y.time ≤ length entries) (λ (y : Noted A). y.time ≤ length (entries ++ one)) (λ y h. omega (arith, h, more)) xs w in
    let other : LeavesOthers 0 old.conversations new.conversations = λ k differs. ap (λ z. conversation_at z k) c in
    record {
      bounded = b ∙ a.kept.bounded;
      timed = omega (arith, t, a.kept.timed, more);
      fits = omega (arith, t, small);
      numbered = numbered_push 1 entries Passes a.kept.numbered tt;
      begun = λ id. omega (arith, a.kept.begun id, more);
      passed = later earlier a.kept.passed;
      gone = later expired a.kept.gone;
      held = λ k. held_same event bound (opening_since (closed k) k entries) (opening_since (closed k) k (entries ++ Passes ∷ []))
          (noted_since (closed k) k (noted_in entries)) (noted_since (closed k) k (noted_in (entries ++ Passes ∷ [])))
          (noted_since (closed k) k earlier) (noted_since (closed k) k earlier) (noted_since (closed k) k expired) (noted_since (closed k) k expired) (conversation_at old.conversations k) (conversation_at new.conversations k)
          (opening_other 1 (closed k) k entries Passes refl) (ap (noted_since (closed k) k) same) refl refl (ap (λ z. conversation_at z k) c) (a.kept.held k);
      listed = subst (λ z. AreListed new.time new.conversations z) (sym d)
          (listed_fewer old.time new.time 0 old.conversations new.conversations old.deadlines a.kept.listed (omega (arith, t)) other
          (λ n. omega (arith, ap (λ z. how_many (is_at n) (waiting_at (conversation_at z 0))) c)));
      events = omega (arith, e, t, a.kept.events, ap length same);
      expired_count = g ∙ a.kept.expired_count;
      room = omega (arith, ap length d, t, a.kept.room);
    }

-- ---- the first deadline of a conversation is taken out

module _ {A : Type 0} (event : A → Event) (bound : ℕ) (entries : List (Entry A)) (closed : Closings) (earlier expired : List (Noted A)) (old new : StageState A) (a : IsStageKept event bound entries closed earlier expired old) (d : Deadline) (front back : List Deadline)
    (was : old.deadlines ≡ front ++ d ∷ back) (left : new.deadlines ≡ front ++ back) (apart : AreOfOthers d.conversation front) (b : new.bound ≡ old.bound) (t : new.time ≡ old.time) (e : new.others ≡ old.others) where
  in_order : IsInOrder time_of (waiting_at (conversation_at old.conversations d.conversation))
  in_order =
      let i = d.conversation in
      held_order event bound (opening_since (closed i) i entries) (noted_since (closed i) i (noted_in entries)) (noted_since (closed i) i earlier) (noted_since (closed i) i expired) (conversation_at old.conversations i) (a.held i)
      (order_kept time_of (is_since (closed i) i) (noted_in entries) (noted_in_order 1 entries a.numbered))

  listed_was : AreListed old.time old.conversations (front ++ d ∷ back)
  listed_was = subst (AreListed old.time old.conversations) was a.listed

  one_less : length old.deadlines ≡ length new.deadlines + 1
  one_less = omega (arith, ap length was, ap length left, length-append front (d ∷ back), length-append front back)

  module _ (before now : List (Noted A)) (p : IsExpiredOf event d.conversation d.time old.conversations new.conversations before now) where
    -- what holds of each event of the conversation holds of each that is released
    expired_all : (test : Noted A → Bool) → AreOwn test (noted_since (closed d.conversation) d.conversation (noted_in entries)) → AreOwn test (p.expired.oldest ∷ p.expired.given)
    expired_all test =
        let i = d.conversation in
        expire_own event bound test d.time (noted_since (closed i) i (noted_in entries)) (noted_since (closed i) i earlier) (noted_since (closed i) i expired) before now (conversation_at old.conversations i) (conversation_at new.conversations i) p.expired (opening_since (closed i) i entries)
        (a.held i)

    expired_since : AreOwn (is_since (closed d.conversation) d.conversation) (p.expired.oldest ∷ p.expired.given)
    expired_since = expired_all (is_since (closed d.conversation) d.conversation) (kept_pass (is_since (closed d.conversation) d.conversation) (noted_in entries))

    pub expired_own : AreOwn (is_of d.conversation) (p.expired.oldest ∷ p.expired.given)
    expired_own = own_since (closed d.conversation) d.conversation (p.expired.oldest ∷ p.expired.given) expired_since

    expired_by : AllByRecursion (λ y. y.time ≤ length entries) (p.expired.oldest ∷ p.expired.given)
    expired_by =
        by_time (length entries) (p.expired.oldest ∷ p.expired.given)
        (expired_all (is_by (length entries)) (events_by (length entries) (closed d.conversation) d.conversation entries a.numbered (omega arith)))

    expired_waiting : (q : Noted A → Bool) → how_many q (waiting_at (conversation_at new.conversations d.conversation)) + how_many q (p.expired.oldest ∷ p.expired.given) ≡ how_many q (waiting_at (conversation_at old.conversations d.conversation))
    expired_waiting =
        let i = d.conversation in
        expire_waiting event bound (is_of i) d.time (noted_since (closed i) i (noted_in entries)) (noted_since (closed i) i earlier) (noted_since (closed i) i expired) before now (conversation_at old.conversations i) (conversation_at new.conversations i) p.expired (opening_since (closed i) i entries) (a.held i)

    expired_here : HeldIn event bound entries closed (earlier ++ p.expired.oldest ∷ p.expired.given) (expired ++ p.expired.oldest ∷ []) new.conversations d.conversation
    expired_here =
        let i = d.conversation in
        held_same event bound (opening_since (closed i) i entries) (opening_since (closed i) i entries) (noted_since (closed i) i (noted_in entries)) (noted_since (closed i) i (noted_in entries))
        (noted_since (closed i) i earlier ++ p.expired.oldest ∷ p.expired.given) (noted_since (closed i) i (earlier ++ p.expired.oldest ∷ p.expired.given))
        (noted_since (closed i) i expired ++ p.expired.oldest ∷ []) (noted_since (closed i) i (expired ++ p.expired.oldest ∷ [])) (conversation_at new.conversations i) (conversation_at new.conversations i)
        refl refl (own_added (is_since (closed i) i) earlier (p.expired.oldest ∷ p.expired.given) expired_since) (own_added (is_since (closed i) i) expired (p.expired.oldest ∷ []) (expired_since.0, tt)) refl
        (expire_held event bound (is_of i) d.time (noted_since (closed i) i (noted_in entries)) (noted_since (closed i) i earlier) (noted_since (closed i) i expired) before now (conversation_at old.conversations i) (conversation_at new.conversations i) p.expired (opening_since (closed i) i entries) (a.held i))

    expired_there : (k : ℕ) → nat_eq d.conversation k ≡ false → HeldIn event bound entries closed (earlier ++ p.expired.oldest ∷ p.expired.given) (expired ++ p.expired.oldest ∷ []) new.conversations k
    expired_there k differs =
        let i = d.conversation in
        held_same event bound (opening_since (closed k) k entries) (opening_since (closed k) k entries) (noted_since (closed k) k (noted_in entries)) (noted_since (closed k) k (noted_in entries))
        (noted_since (closed k) k earlier) (noted_since (closed k) k (earlier ++ p.expired.oldest ∷ p.expired.given))
        (noted_since (closed k) k expired) (noted_since (closed k) k (expired ++ p.expired.oldest ∷ [])) (conversation_at old.conversations k) (conversation_at new.conversations k)
        refl refl (others_added (closed k) i k earlier (p.expired.oldest ∷ p.expired.given) differs expired_own) (others_added (closed k) i k expired (p.expired.oldest ∷ []) differs (expired_own.0, tt)) (p.others k differs)
        (a.held k)

    still_waits : (n : ℕ) → 0 < how_many (is_at n) (waiting_at (conversation_at new.conversations d.conversation)) → (0 < how_many (is_at n) (waiting_at (conversation_at old.conversations d.conversation))) × (n ≡ d.time → ⊥)
    still_waits n some = (
      omega (arith, expired_waiting (is_at n), some),
      λ is. omega (
        arith,
        some,
        expired_waiting (is_at n),
        one_at time_of n (waiting_at (conversation_at old.conversations d.conversation)) in_order,
        many-here (is_at n) p.expired.oldest p.expired.given (eq-eqb n p.expired.oldest.time (is ∙ sym p.expired.timed)),
      ),
    )

    pub deadline_expired : new.expired ≡ old.expired + 1 → IsStageKept event bound entries closed (earlier ++ p.expired.oldest ∷ p.expired.given) (expired ++ p.expired.oldest ∷ []) new
    deadline_expired g = record {
      bounded = b ∙ a.bounded;
      timed = t ∙ a.timed;
      fits = omega (arith, t, a.fits);
      numbered = a.numbered;
      begun = a.begun;
      passed = all_append (λ (y : Noted A). y.time ≤ length entries) earlier (p.expired.oldest ∷ p.expired.given) a.passed expired_by;
      gone = all_append (λ (y : Noted A). y.time ≤ length entries) expired (p.expired.oldest ∷ []) a.gone (expired_by.0, tt);
      held = by_id d.conversation (HeldIn event bound entries closed (earlier ++ p.expired.oldest ∷ p.expired.given) (expired ++ p.expired.oldest ∷ []) new.conversations) expired_here expired_there;
      listed = subst (λ z. AreListed new.time new.conversations z) (sym left) (subst (λ z. AreListed z new.conversations (front ++ back)) (sym t) (listed_rest old.time old.conversations new.conversations d front back listed_was p.others still_waits));
      events = omega (arith, e, t, a.events);
      expired_count = omega (arith, g, a.expired_count, length-append expired (p.expired.oldest ∷ []));
      room = omega (arith, t, a.room, one_less, length-append expired (p.expired.oldest ∷ []));
    }

  -- what waits is later than the deadline, where the oldest is not of its time
  later_waits : IsNotOldest d.time (conversation_at old.conversations d.conversation) → (n : ℕ) → 0 < how_many (is_at n) (waiting_at (conversation_at old.conversations d.conversation)) → n ≡ d.time → ⊥
  later_waits other n some is = by (waiting_at (conversation_at old.conversations d.conversation)) refl
    where
      by : (ws : List (Noted A)) → waiting_at (conversation_at old.conversations d.conversation) ≡ ws → ⊥
      by [] w = omega (arith, some, ap (how_many (is_at n)) w)
      by (y ∷ ys) w =
          let oldest_some : 0 < how_many (is_at y.time) (waiting_at (conversation_at old.conversations d.conversation)) = omega (arith, ap (how_many (is_at y.time)) w, many-here (is_at y.time) y ys (eq-eqb y.time y.time refl)) in
          let le : d.time ≤ y.time = of_deadline (λ m. d.time ≤ m) d.conversation y.time (d ∷ back) (from_first d back (order_right due_time front (d ∷ back) listed_was.ordered))
          (past_others d.conversation y.time front (d ∷ back) apart (listed_was.complete d.conversation y.time oldest_some)) in
          let differs : y.time ≡ d.time → ⊥ = other y (ys, w) in
          let less : n < y.time = omega (arith, le, differs, is) in
          let all_less : AllByRecursion (λ (z : Noted A). n < z.time) (y ∷ ys) = (less, all_weaker (λ (z : Noted A). y.time < z.time) (λ (z : Noted A). n < z.time) (λ z h. omega arith) ys (subst (λ (z : List (Noted A)). IsInOrder time_of z) w in_order).0) in
          omega (arith, some, ap (how_many (is_at n)) w, none_behind time_of n (y ∷ ys) all_less)

  pub deadline_skipped : new.expired ≡ old.expired → IsNotOldest d.time (conversation_at old.conversations d.conversation) → ((k : ℕ) → conversation_at new.conversations k ≡ conversation_at old.conversations k)
      → IsStageKept event bound entries closed earlier expired new
  deadline_skipped g other same = record {
    bounded = b ∙ a.bounded;
    timed = t ∙ a.timed;
    fits = omega (arith, t, a.fits);
    numbered = a.numbered;
    begun = a.begun;
    passed = a.passed;
    gone = a.gone;
    held = λ k. subst (λ z. IsHeld event bound (opening_since (closed k) k entries) (noted_since (closed k) k (noted_in entries)) (noted_since (closed k) k earlier) (noted_since (closed k) k expired) z) (sym (same k)) (a.held k);
    listed = subst (λ z. AreListed new.time new.conversations z) (sym left)
        (subst (λ z. AreListed z new.conversations (front ++ back)) (sym t)
        (listed_rest old.time old.conversations new.conversations d front back listed_was (λ k differs. same k)
        (λ n some. (let had : 0 < how_many (is_at n) (waiting_at (conversation_at old.conversations d.conversation)) = subst (λ (z : Option (Conversation A)). 0 < how_many (is_at n) (waiting_at z)) (same d.conversation) some in
        (had, later_waits other n had)))));
    events = omega (arith, e, t, a.events);
    expired_count = g ∙ a.expired_count;
    room = omega (arith, t, a.room, one_less);
  }

-- ---- no deadline is left that has passed

pub all_fresh : {A : Type 0} (event : A → Event) (bound due : ℕ) (entries : List (Entry A)) (closed : Closings) (released expired : List (Noted A)) (s : StageState A) → IsStageKept event bound entries closed released expired s → StartsAfter due s.deadlines
    → (id : ℕ) → AllByRecursion (λ x. due < x.time) (waiting_at (conversation_at s.conversations id))
all_fresh event bound due entries closed released expired s a later id =
    each_time time_of (λ n. due < n) (waiting_at (conversation_at s.conversations id))
    (λ n some. of_deadline (λ m. due < m) id n s.deadlines (all_later due s.deadlines a.listed.ordered later) (a.listed.complete id n some))
