-- Entries that are taken, and deadlines that pass, with their counts.
use Rattle.std.proofs.Common.{◌≡◌, ◌∙◌, ℕ, ◌+◌, ◌-◌, ◌^◌, ◌<◌, ◌≤◌, min, List, [], ◌∷◌, ◌++◌, Some, length, slice_get, refl, sym, ap, subst, inl, inr, eqb-true, length-append, append-nil, arith}
use Rattle.std.proofs.Math.Nat.{min-eq_left}
use Rattle.scrib_types.specs.declared.event.Event.{Event}
use Rattle.scrib_hold_stage.specs.declared.noted.Noted.{Noted}
use Rattle.scrib_hold_stage.specs.declared.deadlines.Deadline.{Deadline}
use Rattle.scrib_hold_stage.specs.declared.stage.HoldStage.{HoldStage}
use Rattle.scrib_hold_stage.specs.Entries.{Entry, Opens, Passes, Closings, note, is_of}
use Rattle.scrib_hold_stage.specs.Conversations.{IsNotOldest}
use Rattle.scrib_hold_stage.specs.Changes.{conversation_at, IsPushedOf, IsOpenedOf, IsExpiredOf}
use Rattle.scrib_hold_stage.specs.Deadlines.{AreListed, AreOfOthers, IsFirstOf}
use Rattle.scrib_hold_stage.specs.Stages.{StageState, IsStageKept, HasStaged}
use Rattle.scrib_hold_stage.specs.Steps.{IsEntryTaken, IsGone, IsDeadlinePassed, IsDeadlineTaken}
use Rattle.scrib_hold_stage.proofs.HeldLemmas.{AreOwn}
use Rattle.scrib_hold_stage.proofs.DeadlineLemmas.{listed_more, listed_same}
use Rattle.scrib_hold_stage.proofs.StageLemmas.{event_waits, event_read, opening_read, other_read, expired_own, deadline_expired, deadline_skipped}

-- a count that fits is counted up
counted_up : (n m : ℕ) → m ≡ min (n + 1) (2 ^ 64 - 1) → n + 1 < 2 ^ 64 → m ≡ n + 1
counted_up n m e small = e ∙ min-eq_left (omega arith)

-- an entry that is no event is counted
pub began_other : {A : Type 0} (old begun : HoldStage A) (n : ℕ) → begun ≡ record old { time = old.time + 1 } → n ≡ min (begun.others + 1) (2 ^ 64 - 1)
    → record begun { others = n } ≡ record old { time = old.time + 1; others = min (old.others + 1) (2 ^ 64 - 1) }
began_other {A} old begun n begins e =
    ap (λ (s : HoldStage A). record s { others = n }) begins
    ∙ ap (λ m. record old { time = old.time + 1; others = m }) (e ∙ ap (λ (s : HoldStage A). min (s.others + 1) (2 ^ 64 - 1)) begins)

-- the first item behind others
first_given : {X : Type 0} (released given : List X) (y : X) → slice_get (released ++ given) (length released) ≡ Some y → (rest : List X) × (given ≡ y ∷ rest)
first_given [] [] y e = absurd (cc)
first_given [] (z ∷ zs) y e = let same : z ≡ y = cc in (zs, ap (λ w. w ∷ zs) same)
first_given (r ∷ rs) given y e = first_given rs given y e

-- ---- an event

module _ {A : Type 0} (event : A → Event) (id : ℕ) (arrival : A) (old begun new : StageState A) (released now : List (Noted A)) (begins : begun ≡ record old { time = old.time + 1 }) (small : old.time + 1 < 2 ^ 64)
    (pushed : IsPushedOf event (record { conversation = id; time = begun.time; arrival = arrival }) begun.conversations new.conversations released now)
    (b : new.bound ≡ begun.bound) (t : new.time ≡ begun.time) (e : new.others ≡ begun.others) (g : new.expired ≡ begun.expired) where
  abbrev item : Noted A
  item = record { conversation = id; time = old.time + 1; arrival = arrival }

  item_pushed : IsPushedOf event item old.conversations new.conversations released now
  item_pushed = subst (λ (s : StageState A). IsPushedOf event (record { conversation = id; time = s.time; arrival = arrival }) s.conversations new.conversations released now) begins pushed

  time_is : begun.time ≡ old.time + 1
  time_is = ap (λ (s : StageState A). s.time) begins

  others_are : begun.others ≡ old.others
  others_are = ap (λ (s : StageState A). s.others) begins

  by_listed : ((bound : ℕ) (entries : List (Entry A)) (closed : Closings) (earlier expired : List (Noted A)) → HasStaged event bound entries closed earlier expired old → AreListed (old.time + 1) new.conversations new.deadlines)
      → length new.deadlines ≤ length old.deadlines + 1 → IsEntryTaken event (note id (old.time + 1) arrival) old new released now
  by_listed l r = record {
    given = item_pushed.pushed.given;
    appended = item_pushed.pushed.appended;
    after = λ bound entries closed earlier expired a.
        event_read event bound entries closed earlier expired released now item old new item_pushed a refl small
        (b ∙ ap (λ (s : StageState A). s.bound) begins) (t ∙ time_is)
        (e ∙ others_are)
        (g ∙ ap (λ (s : StageState A). s.expired) begins) (l bound entries closed earlier expired a) r;
  }

  deadlines_are : begun.deadlines ≡ old.deadlines
  deadlines_are = ap (λ (s : StageState A). s.deadlines) begins

  -- it waits
  pub taken_waiting : (d : Deadline) → new.deadlines ≡ begun.deadlines ++ d ∷ [] → d.time ≡ begun.time → d.conversation ≡ id → IsEntryTaken event (note id (old.time + 1) arrival) old new released now
  taken_waiting d more at of =
      let now_are : new.deadlines ≡ old.deadlines ++ d ∷ [] = more ∙ ap (λ z. z ++ d ∷ []) deadlines_are in
      by_listed
      (λ bound entries closed earlier expired a. subst (λ z. AreListed (old.time + 1) new.conversations z) (sym now_are)
      (listed_more old.time old.conversations new.conversations old.deadlines item item_pushed.pushed.given a.kept.listed item_pushed.others refl
      (event_waits event bound entries closed earlier expired released now item old new item_pushed a refl) d (at ∙ time_is) of))
      (omega (arith, ap length now_are, length-append old.deadlines (d ∷ [])))

  -- it is released at once
  pub taken_at_once : new.deadlines ≡ begun.deadlines → (start : ℕ) (y : Noted A) → start ≡ length released → slice_get now start ≡ Some y → y.time ≡ begun.time → IsEntryTaken event (note id (old.time + 1) arrival) old new released now
  taken_at_once same start y from there at =
      let now_are : new.deadlines ≡ old.deadlines = same ∙ deadlines_are in
      let first = first_given released item_pushed.pushed.given y (ap (λ z. slice_get z (length released)) (sym item_pushed.pushed.appended) ∙ ap (λ n. slice_get now n) (sym from) ∙ there) in
      by_listed
      (λ bound entries closed earlier expired a. subst (λ z. AreListed (old.time + 1) new.conversations z) (sym now_are)
      (listed_same old.time old.conversations new.conversations old.deadlines item item_pushed.pushed.given a.kept.listed item_pushed.others refl
      (event_waits event bound entries closed earlier expired released now item old new item_pushed a refl) y first.0 first.1 (at ∙ time_is)))
      (omega (arith, ap length now_are))

-- ---- an opening, and another entry

pub taken_opening : {A : Type 0} (event : A → Event) (id : ℕ) (old begun new : StageState A) (released now : List (Noted A)) → begun ≡ record old { time = old.time + 1; others = min (old.others + 1) (2 ^ 64 - 1) } → old.time + 1 < 2 ^ 64
    → IsOpenedOf event id begun.conversations new.conversations released now → new.bound ≡ begun.bound → new.time ≡ begun.time → new.others ≡ begun.others → new.expired ≡ begun.expired → new.deadlines ≡ begun.deadlines
    → IsEntryTaken event (Opens id) old new released now
taken_opening {A} event id old begun new released now begins small opened b t e g d =
    let p : IsOpenedOf event id old.conversations new.conversations released now = subst (λ (s : StageState A). IsOpenedOf event id s.conversations new.conversations released now) begins opened in
    record {
      given = p.opened.given;
      appended = p.opened.appended;
      after = λ bound entries closed earlier expired a.
          opening_read event bound entries closed earlier expired released now id old new p a small
          (b ∙ ap (λ (s : StageState A). s.bound) begins) (t ∙ ap (λ (s : StageState A). s.time) begins)
          (counted_up old.others new.others (e ∙ ap (λ (s : StageState A). s.others) begins) (omega (arith, small, a.kept.events)))
          (g ∙ ap (λ (s : StageState A). s.expired) begins) (d ∙ ap (λ (s : StageState A). s.deadlines) begins);
    }

pub taken_other : {A : Type 0} (event : A → Event) (old new : StageState A) (released : List (Noted A)) → new ≡ record old { time = old.time + 1; others = min (old.others + 1) (2 ^ 64 - 1) } → old.time + 1 < 2 ^ 64 → IsEntryTaken event Passes old new released released
taken_other {A} event old new released begins small = record {
  given = [];
  appended = sym (append-nil released);
  after = λ bound entries closed earlier expired a.
      subst (λ z. IsStageKept event bound (entries ++ Passes ∷ []) closed z expired new) (sym (append-nil earlier))
      (other_read event bound entries closed earlier expired old new a small
      (ap (λ (s : StageState A). s.bound) begins) (ap (λ (s : StageState A). s.time) begins) (ap (λ (s : StageState A). s.conversations) begins)
      (counted_up old.others new.others (ap (λ (s : StageState A). s.others) begins) (omega (arith, small, a.kept.events))) (ap (λ (s : StageState A). s.expired) begins) (ap (λ (s : StageState A). s.deadlines) begins));
}

-- ---- a deadline passes

-- what is the conversation's is that of its first item's
own_of : {A : Type 0} (id : ℕ) (x : Noted A) (xs : List (Noted A)) → AreOwn (is_of id) (x ∷ xs) → AreOwn (is_of x.conversation) xs
own_of id x xs own = subst (λ n. AreOwn (is_of n) xs) (eqb-true id x.conversation own.0) own.1

module _ {A : Type 0} (event : A → Event) (old new : StageState A) (d : Deadline) (front back : List Deadline)
    (was : old.deadlines ≡ front ++ d ∷ back) (left : new.deadlines ≡ front ++ back) (apart : AreOfOthers d.conversation front)
    (b : new.bound ≡ old.bound) (t : new.time ≡ old.time) (e : new.others ≡ old.others) where
  module _ (released now : List (Noted A)) (p : IsExpiredOf event d.conversation d.time old.conversations new.conversations released now) where
    gone_of : (bound : ℕ) (entries : List (Entry A)) (closed : Closings) (earlier expired : List (Noted A)) → IsStageKept event bound entries closed earlier expired old
        → IsGone d (p.expired.oldest ∷ p.expired.given) (p.expired.oldest ∷ [])
    gone_of bound entries closed earlier expired a =
        let own = expired_own event bound entries closed earlier expired old new a d front back was left apart b t e released now p in
        record {
          x = p.expired.oldest;
          others = p.expired.given;
          timed = p.expired.timed;
          of = sym (eqb-true d.conversation p.expired.oldest.conversation own.0);
          first = refl;
          only = refl;
          own = own_of d.conversation p.expired.oldest p.expired.given own;
        }

    after_gone : new.expired ≡ min (old.expired + 1) (2 ^ 64 - 1) → (bound : ℕ) (entries : List (Entry A)) (closed : Closings) (earlier expired : List (Noted A)) → IsStageKept event bound entries closed earlier expired old
        → IsStageKept event bound entries closed (earlier ++ p.expired.oldest ∷ p.expired.given) (expired ++ p.expired.oldest ∷ []) new
    after_gone g bound entries closed earlier expired a =
        deadline_expired event bound entries closed earlier expired old new a d front back was left apart b t e released now p
        (counted_up old.expired new.expired g (omega (arith, a.expired_count, a.room, ap length was, length-append front (d ∷ back), a.fits)))

  after_none : new.expired ≡ old.expired → IsNotOldest d.time (conversation_at old.conversations d.conversation) → ((k : ℕ) → conversation_at new.conversations k ≡ conversation_at old.conversations k)
      → (bound : ℕ) (entries : List (Entry A)) (closed : Closings) (earlier expired : List (Noted A)) → IsStageKept event bound entries closed earlier expired old → IsStageKept event bound entries closed (earlier ++ []) (expired ++ []) new
  after_none g other same bound entries closed earlier expired a =
      subst (λ z. IsStageKept event bound entries closed z (expired ++ []) new) (sym (append-nil earlier))
      (subst (λ z. IsStageKept event bound entries closed earlier z new) (sym (append-nil expired))
      (deadline_skipped event bound entries closed earlier expired old new a d front back was left apart b t e g other same))

-- the first deadline of all
module _ {A : Type 0} (event : A → Event) (due : ℕ) (old new : StageState A) (d : Deadline) (was : old.deadlines ≡ d ∷ new.deadlines) (le : d.time ≤ due) (b : new.bound ≡ old.bound) (t : new.time ≡ old.time) (e : new.others ≡ old.others) where
  pub one_expired : (released now : List (Noted A)) → IsExpiredOf event d.conversation d.time old.conversations new.conversations released now → new.expired ≡ min (old.expired + 1) (2 ^ 64 - 1) → IsDeadlinePassed event due old new released now
  one_expired released now p g = record {
    given = p.expired.oldest ∷ p.expired.given;
    gone = p.expired.oldest ∷ [];
    appended = p.expired.appended;
    passed = (omega (arith, p.expired.timed, le), tt);
    first = d;
    was = was;
    one = λ bound entries closed earlier expired a. inr (gone_of event old new d [] new.deadlines was refl tt b t e released now p bound entries closed earlier expired a);
    after = after_gone event old new d [] new.deadlines was refl tt b t e released now p g;
  }

  pub none_expired : (released now : List (Noted A)) → now ≡ released → new.expired ≡ old.expired → IsNotOldest d.time (conversation_at old.conversations d.conversation) → ((k : ℕ) → conversation_at new.conversations k ≡ conversation_at old.conversations k) → IsDeadlinePassed event due old new released now
  none_expired released now unchanged g other same = record {
    given = [];
    gone = [];
    appended = unchanged ∙ sym (append-nil released);
    passed = tt;
    first = d;
    was = was;
    one = λ bound entries closed earlier expired a. inl (refl, refl);
    after = after_none event old new d [] new.deadlines was refl tt b t e g other same;
  }

-- the first of a conversation
module _ {A : Type 0} (event : A → Event) (id : ℕ) (old new : StageState A) (d : Deadline) (f : IsFirstOf id d old.deadlines new.deadlines) (b : new.bound ≡ old.bound) (t : new.time ≡ old.time) (e : new.others ≡ old.others) where
  apart_of : AreOfOthers d.conversation f.front
  apart_of = subst (λ n. AreOfOthers n f.front) (sym f.is) f.before

  pub one_taken : (released now : List (Noted A)) → IsExpiredOf event id d.time old.conversations new.conversations released now → new.expired ≡ min (old.expired + 1) (2 ^ 64 - 1) → IsDeadlineTaken event id old new released now
  one_taken released now q g =
      let p : IsExpiredOf event d.conversation d.time old.conversations new.conversations released now = subst (λ n. IsExpiredOf event n d.time old.conversations new.conversations released now) (sym f.is) q in
      record {
        given = p.expired.oldest ∷ p.expired.given;
        gone = p.expired.oldest ∷ [];
        appended = p.expired.appended;
        first = d;
        was = f;
        others = q.others;
        one = λ bound entries closed earlier expired a. inr (gone_of event old new d f.front f.back f.was f.left apart_of b t e released now p bound entries closed earlier expired a);
        after = after_gone event old new d f.front f.back f.was f.left apart_of b t e released now p g;
      }

  pub none_taken : (released now : List (Noted A)) → now ≡ released → new.expired ≡ old.expired → IsNotOldest d.time (conversation_at old.conversations id) → ((k : ℕ) → conversation_at new.conversations k ≡ conversation_at old.conversations k) → IsDeadlineTaken event id old new released now
  none_taken released now unchanged g other same = record {
    given = [];
    gone = [];
    appended = unchanged ∙ sym (append-nil released);
    first = d;
    was = f;
    others = λ k differs. same k;
    one = λ bound entries closed earlier expired a. inl (refl, refl);
    after = after_none event old new d f.front f.back f.was f.left apart_of b t e g (subst (λ n. IsNotOldest d.time (conversation_at old.conversations n)) (sym f.is) other) same;
  }
