-- A conversation is closed.
use Rattle.std.proofs.Common.{◌≡◌, ◌∙◌, ◌⊎◌, ℕ, ◌+◌, ◌<◌, ◌≤◌, true, false, List, [], ◌∷◌, ◌++◌, Option, None, length, nat_eq, refl, sym, ap, subst, inl, inr, eq-eqb, append-nil, append_assoc, arith}
use Rattle.std.specs.List.{AllByRecursion}
use Rattle.std.proofs.lemmas.Bool.{true≢false, cond-true, cond-false}
use Rattle.scrib_types.specs.declared.event.Event.{Event}
use Rattle.scrib_hold_stage.specs.declared.noted.Noted.{Noted}
use Rattle.scrib_hold_stage.specs.declared.conversation.Conversation.{Conversation}
use Rattle.scrib_hold_stage.specs.declared.deadlines.Deadline.{Deadline}
use Rattle.scrib_hold_stage.specs.Entries.{Entry, Closings, closed_at, is_of, noted_in, noted_since, opening_since}
use Rattle.scrib_hold_stage.specs.Conversations.{waiting_at}
use Rattle.scrib_hold_stage.specs.Changes.{conversation_at, LeavesOthers}
use Rattle.scrib_hold_stage.specs.Deadlines.{IsInOrder, due_time, how_many, is_at, AreListed, AreOfOthers, AreLaterOf}
use Rattle.scrib_hold_stage.specs.Stages.{StageState, IsHeld, IsStageKept, HasStaged, nothing, one_more, Waits, IsClosed}
use Rattle.scrib_hold_stage.specs.Steps.{IsGone, IsDeadlineTaken, AreExpiredOf, IsExpiringOf, AreAllExpired}
use Rattle.scrib_hold_stage.proofs.Lists.{all_append, all_right, all_without, all_weaker, order_right}
use Rattle.scrib_hold_stage.proofs.EntryLemmas.{opening_none, noted_before, none_since, others_added}
use Rattle.scrib_hold_stage.proofs.HeldLemmas.{held_same}
use Rattle.scrib_hold_stage.proofs.DeadlineLemmas.{by_id, no_deadline_of, listed_fewer}
use Rattle.scrib_hold_stage.proofs.StageLemmas.{HeldIn}
use Rattle.scrib_hold_stage.proofs.FinishLemmas.{no_waiting, released_in_all}

-- ---- what waits of a conversation expires

pub expiring_of_none : {A : Type 0} (event : A → Event) (id : ℕ) (s : StageState A) (released : List (Noted A)) → IsExpiringOf event id s s released released
expiring_of_none event id s released = record {
  given = [];
  gone = [];
  appended = sym (append-nil released);
  others = λ k differs. refl;
  expired = λ bound entries closed earlier expired a. record { in_turn = nothing; earlier = tt; own = tt; own_gone = tt };
  after = λ bound entries closed earlier expired a.
      subst (λ z. IsStageKept event bound entries closed z (expired ++ []) s) (sym (append-nil earlier))
      (subst (λ z. IsStageKept event bound entries closed earlier z s) (sym (append-nil expired)) a);
}

-- the deadlines that are left are later than what expired before
later_left : {A : Type 0} (id : ℕ) (front : List Deadline) (d : Deadline) (back : List Deadline) (gone : List (Noted A))
    → AllByRecursion (λ x. AreLaterOf id x.time (front ++ d ∷ back)) gone → AllByRecursion (λ x. AreLaterOf id x.time (front ++ back)) gone
later_left {A} id front d back gone a =
    all_weaker (λ (x : Noted A). AreLaterOf id x.time (front ++ d ∷ back)) (λ (x : Noted A). AreLaterOf id x.time (front ++ back))
    (λ x l. all_without (λ (e : Deadline). nat_eq id e.conversation ≡ true → x.time < e.time) front d back l) gone a

-- they are later than the one that is taken out
later_than : (id : ℕ) (front : List Deadline) (d : Deadline) (back : List Deadline) → IsInOrder due_time (front ++ d ∷ back) → AreOfOthers id front → AreLaterOf id d.time (front ++ back)
later_than id front d back o apart =
    all_append (λ (e : Deadline). nat_eq id e.conversation ≡ true → d.time < e.time) front back
    (all_weaker (λ (e : Deadline). nat_eq id e.conversation ≡ false) (λ (e : Deadline). nat_eq id e.conversation ≡ true → d.time < e.time) (λ e no_ yes. absurd (true≢false (sym yes ∙ no_))) front apart)
    (all_weaker (λ (e : Deadline). d.time < e.time) (λ (e : Deadline). nat_eq id e.conversation ≡ true → d.time < e.time) (λ e h yes. h) back (order_right due_time front (d ∷ back) o).0)

-- the one that is taken out is later than what expired before
later_here : (id n : ℕ) (front : List Deadline) (d : Deadline) (back : List Deadline) → d.conversation ≡ id → AreLaterOf id n (front ++ d ∷ back) → n < d.time
later_here id n front d back of l =
    (all_right (λ (e : Deadline). nat_eq id e.conversation ≡ true → n < e.time) front (d ∷ back) l).0 (eq-eqb id d.conversation (sym of))

-- one more expires, or none
expired_more : {A : Type 0} (id : ℕ) (given gone more out : List (Noted A)) (d : Deadline) (front back : List Deadline) → d.conversation ≡ id → IsInOrder due_time (front ++ d ∷ back) → AreOfOthers id front
    → AreExpiredOf id given gone (front ++ d ∷ back) → ((more ≡ []) × (out ≡ [])) ⊎ IsGone d more out → AreExpiredOf id (given ++ more) (gone ++ out) (front ++ back)
expired_more {A} id given gone more out d front back of o apart e (inl k) =
    let none : AreExpiredOf id given gone (front ++ back) =
    record { in_turn = e.in_turn; earlier = later_left id front d back gone e.earlier; own = e.own; own_gone = e.own_gone } in
    let same_given : given ≡ given ++ more = sym (append-nil given) ∙ ap (λ z. given ++ z) (sym k.0) in
    let same_gone : gone ≡ gone ++ out = sym (append-nil gone) ∙ ap (λ z. gone ++ z) (sym k.1) in
    subst (λ z. AreExpiredOf id z (gone ++ out) (front ++ back)) same_given (subst (λ z. AreExpiredOf id given z (front ++ back)) same_gone none)
expired_more {A} id given gone more out d front back of o apart e (inr k) =
    let mine : is_of id k.x ≡ true = eq-eqb id k.x.conversation (sym (k.of ∙ of)) in
    let before : AllByRecursion (λ (y : Noted A). y.time < k.x.time) gone =
    all_weaker (λ (y : Noted A). AreLaterOf id y.time (front ++ d ∷ back)) (λ (y : Noted A). y.time < k.x.time) (λ y l. omega (arith, later_here id y.time front d back of l, k.timed)) gone e.earlier in
    let here : AreLaterOf id k.x.time (front ++ back) = subst (λ n. AreLaterOf id n (front ++ back)) (sym k.timed) (later_than id front d back o apart) in
    let own : AllByRecursion (λ (y : Noted A). is_of id y ≡ true) k.others = subst (λ n. AllByRecursion (λ (y : Noted A). is_of n y ≡ true) k.others) (k.of ∙ of) k.own in
    let one : AreExpiredOf id (given ++ k.x ∷ k.others) (gone ++ k.x ∷ []) (front ++ back) =
    record {
      in_turn = one_more k.x k.others e.in_turn before k.own;
      earlier = all_append (λ (y : Noted A). AreLaterOf id y.time (front ++ back)) gone (k.x ∷ []) (later_left id front d back gone e.earlier) (here, tt);
      own = all_append (λ (y : Noted A). is_of id y ≡ true) given (k.x ∷ k.others) e.own (mine, own);
      own_gone = all_append (λ (y : Noted A). is_of id y ≡ true) gone (k.x ∷ []) e.own_gone (mine, tt);
    } in
    subst (λ z. AreExpiredOf id (given ++ z) (gone ++ out) (front ++ back)) (sym k.first) (subst (λ z. AreExpiredOf id (given ++ k.x ∷ k.others) (gone ++ z) (front ++ back)) (sym k.only) one)

pub expiring_of_more : {A : Type 0} (event : A → Event) (id : ℕ) (old mid new : StageState A) (released between now : List (Noted A)) → IsExpiringOf event id old mid released between → IsDeadlineTaken event id mid new between now → IsExpiringOf event id old new released now
expiring_of_more {A} event id old mid new released between now p q = record {
  given = p.given ++ q.given;
  gone = p.gone ++ q.gone;
  appended = q.appended ∙ ap (λ z. z ++ q.given) p.appended ∙ append_assoc released p.given q.given;
  others = λ k differs. q.others k differs ∙ p.others k differs;
  expired = λ bound entries closed earlier expired a. (let k = p.after bound entries closed earlier expired a in
      subst (AreExpiredOf id (p.given ++ q.given) (p.gone ++ q.gone)) (sym q.was.left)
      (expired_more id p.given p.gone q.given q.gone q.first q.was.front q.was.back q.was.is (subst (IsInOrder due_time) q.was.was k.listed.ordered) q.was.before
      (subst (AreExpiredOf id p.given p.gone) q.was.was (p.expired bound entries closed earlier expired a))
      (q.one bound entries closed (earlier ++ p.given) (expired ++ p.gone) k)));
  after = λ bound entries closed earlier expired a.
      subst (λ z. IsStageKept event bound entries closed z (expired ++ (p.gone ++ q.gone)) new) (append_assoc earlier p.given q.given)
      (subst (λ z. IsStageKept event bound entries closed ((earlier ++ p.given) ++ q.given) z new) (append_assoc expired p.gone q.gone)
      (q.after bound entries closed (earlier ++ p.given) (expired ++ p.gone) (p.after bound entries closed earlier expired a)));
}

-- no event waits
pub all_expired_before : {A : Type 0} (event : A → Event) (id : ℕ) (s : StageState A) (released : List (Noted A)) → waiting_at (conversation_at s.conversations id) ≡ [] → AreAllExpired event id s s released released
unfolding expiring_of_none
all_expired_before event id s released none = record {
  expiring = expiring_of_none event id s released;
  at_once = λ e. refl;
  none_waits = λ bound entries closed earlier expired a. none;
}

-- the conversation has no deadline any more
pub all_expired_now : {A : Type 0} (event : A → Event) (id : ℕ) (old mid new : StageState A) (released between now : List (Noted A)) → Waits id old → IsExpiringOf event id old mid released between → AreOfOthers id mid.deadlines → new ≡ mid → now ≡ between
    → AreAllExpired event id old new released now
all_expired_now {A} event id old mid new released between now some p apart same unchanged =
    subst (λ s. AreAllExpired event id old s released now) (sym same) (subst (AreAllExpired event id old mid released) (sym unchanged) (record {
      expiring = p;
      at_once = λ e. absurd (some_none some.0 some.1.0 (sym e ∙ some.1.1));
      none_waits = λ bound entries closed earlier expired a.
          no_waiting (waiting_at (conversation_at mid.conversations id))
          (λ n waits. omega (arith, a.listed.complete id n waits, no_deadline_of id n mid.deadlines apart));
    }))
  where
    some_none : (x : Noted A) (xs : List (Noted A)) → [] ≡ x ∷ xs → ⊥
    some_none x xs e = absurd (cc)

-- ---- the conversation is forgotten

closed_here : (id n : ℕ) (closed : Closings) → closed_at id n closed id ≡ n
closed_here id n closed = cond-true (nat_eq id id) n (closed id) (eq-eqb id id refl)

closed_there : (id n k : ℕ) (closed : Closings) → nat_eq id k ≡ false → closed_at id n closed k ≡ closed k
closed_there id n k closed differs = cond-false (nat_eq id k) n (closed k) differs

module _ {A : Type 0} (event : A → Event) (id bound : ℕ) (entries : List (Entry A)) (closed : Closings) (earlier expired given gone : List (Noted A)) (old mid new : StageState A)
    (a : HasStaged event bound entries closed earlier expired old) (k : IsStageKept event bound entries closed (earlier ++ given) (expired ++ gone) mid)
    (own : AllByRecursion (λ x. is_of id x ≡ true) given) (own_gone : AllByRecursion (λ x. is_of id x ≡ true) gone)
    (there : LeavesOthers id old.conversations mid.conversations) (others : LeavesOthers id mid.conversations new.conversations) (none : conversation_at new.conversations id ≡ None) where
  held_new : IsHeld event bound None [] [] [] (conversation_at new.conversations id)
  held_new = subst (IsHeld event bound None [] [] []) (sym none) (record { early = []; arrivals = []; given = []; late = []; all = refl; out = refl; gone = refl; held = (refl, refl, refl) })

  -- its new life has no events yet
  held_at : (n : ℕ) → n ≡ length entries
      → IsHeld event bound (opening_since n id entries) (noted_since n id (noted_in entries)) (noted_since n id (earlier ++ given)) (noted_since n id (expired ++ gone)) (conversation_at new.conversations id)
  held_at n is =
      held_same event bound None (opening_since n id entries) [] (noted_since n id (noted_in entries)) [] (noted_since n id (earlier ++ given)) [] (noted_since n id (expired ++ gone))
      (conversation_at new.conversations id) (conversation_at new.conversations id)
      (opening_none 1 n id entries (omega (arith, is)))
      (none_since n id (noted_in entries) (all_weaker (λ (x : Noted A). x.time < 1 + length entries) (λ (x : Noted A). x.time ≤ n) (λ x h. omega (arith, h, is)) (noted_in entries) (noted_before 1 entries k.numbered)))
      (none_since n id (earlier ++ given) (subst (λ m. AllByRecursion (λ (x : Noted A). x.time ≤ m) (earlier ++ given)) (sym is) k.passed))
      (none_since n id (expired ++ gone) (subst (λ m. AllByRecursion (λ (x : Noted A). x.time ≤ m) (expired ++ gone)) (sym is) k.gone))
      refl held_new

  abbrev closed_now : Closings
  closed_now = closed_at id (length entries) closed

  held_here : HeldIn event bound entries closed_now (earlier ++ given) (expired ++ gone) new.conversations id
  held_here = held_at (closed_now id) (closed_here id (length entries) closed)

  held_there : (i : ℕ) → nat_eq id i ≡ false → HeldIn event bound entries closed_now (earlier ++ given) (expired ++ gone) new.conversations i
  held_there i differs =
      subst (λ n. IsHeld event bound (opening_since n i entries) (noted_since n i (noted_in entries)) (noted_since n i (earlier ++ given)) (noted_since n i (expired ++ gone)) (conversation_at new.conversations i))
      (sym (closed_there id (length entries) i closed differs))
      (subst (IsHeld event bound (opening_since (closed i) i entries) (noted_since (closed i) i (noted_in entries)) (noted_since (closed i) i (earlier ++ given)) (noted_since (closed i) i (expired ++ gone)))
      (sym (others i differs)) (k.held i))

  kept_closed : new.bound ≡ mid.bound → new.time ≡ mid.time → new.deadlines ≡ mid.deadlines → new.others ≡ mid.others → new.expired ≡ mid.expired
      → IsStageKept event bound entries closed_now (earlier ++ given) (expired ++ gone) new
  kept_closed b t d e g = record {
    bounded = b ∙ k.bounded;
    timed = t ∙ k.timed;
    fits = omega (arith, t, k.fits);
    numbered = k.numbered;
    begun = by_id id (λ i. closed_now i ≤ length entries) (omega (arith, closed_here id (length entries) closed))
        (λ i differs. omega (arith, closed_there id (length entries) i closed differs, k.begun i));
    held = by_id id (HeldIn event bound entries closed_now (earlier ++ given) (expired ++ gone) new.conversations) held_here held_there;
    passed = k.passed;
    gone = k.gone;
    listed = subst (λ z. AreListed new.time new.conversations z) (sym d)
        (listed_fewer mid.time new.time id mid.conversations new.conversations mid.deadlines k.listed (omega (arith, t)) others
        (λ n. omega (arith, ap (λ (o : Option (Conversation A)). how_many (is_at n) (waiting_at o)) none)));
    events = omega (arith, e, t, k.events);
    expired_count = g ∙ k.expired_count;
    room = omega (arith, t, ap length d, k.room);
  }

  abbrev IsAged : Noted A → Type 0
  IsAged x = x.time + bound ≤ length entries

  abbrev IsFresh : Noted A → Type 0
  IsFresh x = length entries < x.time + bound

  aged_closed : (i : ℕ) → AllByRecursion IsAged (noted_since (closed_now i) i (expired ++ gone))
  aged_closed = by_id id (λ i. AllByRecursion IsAged (noted_since (closed_now i) i (expired ++ gone)))
      (subst (AllByRecursion IsAged) (sym (none_since (closed_now id) id (expired ++ gone)
      (subst (λ m. AllByRecursion (λ (x : Noted A). x.time ≤ m) (expired ++ gone)) (sym (closed_here id (length entries) closed)) k.gone))) tt)
      (λ i differs. subst (λ n. AllByRecursion IsAged (noted_since n i (expired ++ gone))) (sym (closed_there id (length entries) i closed differs))
      (subst (AllByRecursion IsAged) (sym (others_added (closed i) id i expired gone differs own_gone)) (a.aged i)))

  fresh_closed : (i : ℕ) → AllByRecursion IsFresh (waiting_at (conversation_at new.conversations i))
  fresh_closed = by_id id (λ i. AllByRecursion IsFresh (waiting_at (conversation_at new.conversations i)))
      (subst (λ (o : Option (Conversation A)). AllByRecursion IsFresh (waiting_at o)) (sym none) tt)
      (λ i differs. subst (λ (o : Option (Conversation A)). AllByRecursion IsFresh (waiting_at o)) (sym (others i differs ∙ there i differs)) (a.fresh i))

  pub staged_closed : new.bound ≡ mid.bound → new.time ≡ mid.time → new.deadlines ≡ mid.deadlines → new.others ≡ mid.others → new.expired ≡ mid.expired
      → HasStaged event bound entries closed_now (earlier ++ given) (expired ++ gone) new
  staged_closed b t d e g = record { kept = kept_closed b t d e g; aged = aged_closed; fresh = fresh_closed }

pub closed_of : {A : Type 0} (event : A → Event) (id : ℕ) (old mid new : StageState A) (released now : List (Noted A)) → AreAllExpired event id old mid released now
    → conversation_at new.conversations id ≡ None → LeavesOthers id mid.conversations new.conversations
    → new.bound ≡ mid.bound → new.time ≡ mid.time → new.deadlines ≡ mid.deadlines → new.others ≡ mid.others → new.expired ≡ mid.expired → IsClosed event id old new released now
closed_of {A} event id old mid new released now q none others b t d e g =
    let p = q.expiring in
    record {
      given = p.given;
      gone = p.gone;
      appended = p.appended;
      at_once = q.at_once;
      forgotten = none;
      others = λ k differs. others k differs ∙ p.others k differs;
      in_turn = λ bound entries closed earlier expired a. (p.expired bound entries closed earlier expired a.kept).in_turn;
      after = λ bound entries closed earlier expired a. (let x = p.expired bound entries closed earlier expired a.kept in
          staged_closed event id bound entries closed earlier expired p.given p.gone old mid new a (p.after bound entries closed earlier expired a.kept) x.own x.own_gone p.others others none b t d e g);
      law = λ bound entries closed earlier expired a. (let k = p.after bound entries closed earlier expired a.kept in
          released_in_all event bound id entries closed earlier expired p.given p.gone old mid a k (q.none_waits bound entries closed (earlier ++ p.given) (expired ++ p.gone) k));
    }
