-- What entries let out where more entries follow.
use Rattle.std.proofs.Common.{◌≡◌, ◌∙◌, ℕ, ◌+◌, Bool, true, false, List, [], ◌∷◌, ◌++◌, Option, map, length, nat_eq, eq-eqb, inl, inr, refl, sym, ap, subst, arith}
use Rattle.std.specs.List.{AllByRecursion}
use Rattle.std.proofs.lemmas.Bool.{true≢false}
use Rattle.scrib_script_reader.specs.declared.item.Item.{Item}
use Rattle.scrib_script_reader.specs.declared.entry.Entry.{Entry}
use Rattle.scrib_hold_stage.specs.declared.noted.Noted.{Noted}
use Rattle.scrib_holdback.specs.Holdings.{IsOldestWaiting}
use Rattle.scrib_hold_stage.specs.declared.conversation.Conversation.{Conversation}
use Rattle.scrib_hold_stage.specs.Entries as stage
use Rattle.scrib_hold_stage.specs.Entries.{Closings, none_closed, closed_at}
use Rattle.scrib_hold_stage.specs.Conversations.{waiting_at}
use Rattle.scrib_hold_stage.specs.Changes.{LeavesOthers}
use Rattle.scrib_hold_stage.specs.PendingClosings.{IsMade, IsOf, IsApart, IsReady, IsNotReady}
use Rattle.scrib_hold_stage.specs.Stages.{StageState, HasStaged, IsRead, IsFinished}
use Rattle.scrib_hold_stage.proofs.HistoryLemmas.{unreleased, all_released}
use Rattle.scrib_hold.specs.HeldScripts.{Asked, Pending, event_in, staged, staged_from, item_of, closing_item, closing_at, passing, opens_conversation, ends_inside, end_item, WaitsFurther, IsDue, IsNext, nothing, reads, closes, noted_events_of}
use Rattle.scrib_hold.specs.NumberedItems.{Numbered, items_in, numbered_read, numbered_closed, numbered_last, LetsOutNumbered, AreHeldNumbered, AreLetOutNumbered}
use Rattle.scrib_hold.specs.LetOutSoFar.{LetsOutSoFar, closing_items}
use Rattle.scrib_hold.proofs.EntryLemmas.{given_to, staged_more, length_staged, noted_more, noted_closing, all_noted}
use Rattle.scrib_hold.proofs.NumberedLemmas.{more_read, more_closed, items_let_out}

-- ---- lists of closings

pub all_left : {X : Type 0} (P : X → Type 0) (xs : List X) (y : X) (ys : List X) → AllByRecursion P (xs ++ y ∷ ys) → AllByRecursion P (xs ++ ys)
all_left P [] y ys a = a.1
all_left P (x ∷ xs) y ys a = (a.0, all_left P xs y ys a.1)

pub all_weaker : {X : Type 0} (P Q : X → Type 0) → ((x : X) → P x → Q x) → (xs : List X) → AllByRecursion P xs → AllByRecursion Q xs
all_weaker P Q w [] a = tt
all_weaker P Q w (x ∷ xs) a = (w x a.0, all_weaker P Q w xs a.1)

pub all_applied : {X : Type 0} (P Q : X → Type 0) (xs : List X) → AllByRecursion P xs → AllByRecursion (λ x. P x → Q x) xs → AllByRecursion Q xs
all_applied P Q [] a b = tt
all_applied P Q (x ∷ xs) a b = (b.0 a.0, all_applied P Q xs a.1 b.1)

-- ---- what was let out so far

pub so_far_none : (bound : ℕ) (s : StageState Asked) (pending : List Pending) → HasStaged event_in bound [] none_closed [] [] s → pending ≡ [] → LetsOutSoFar bound s pending [] [] []
so_far_none bound s pending a none = record {
  closed = none_closed;
  released = [];
  expired = [];
  staged = a;
  lets = λ later. subst (λ (l : List Pending). LetsOutNumbered bound [] later none_closed l [] [] []) (sym none) ([], nothing later, refl);
  noted = λ id. refl;
}

-- where the next entries are known
pub so_far_next : (bound : ℕ) (s : StageState Asked) (pending : List Pending) (entries next : List Entry) (numbered : List Numbered) → LetsOutSoFar bound s pending entries [] numbered → LetsOutSoFar bound s pending entries next numbered
so_far_next bound s pending entries next numbered a = record {
  closed = a.closed;
  released = a.released;
  expired = a.expired;
  staged = a.staged;
  lets = λ later. a.lets (next ++ later);
  noted = a.noted;
}

-- the same of an equal state and equal closings
pub so_far_same : (bound : ℕ) (s t : StageState Asked) (pending others : List Pending) (entries next : List Entry) (numbered : List Numbered) → t ≡ s → others ≡ pending → LetsOutSoFar bound s pending entries next numbered → LetsOutSoFar bound t others entries next numbered
so_far_same bound s t pending others entries next numbered same equal a =
    subst (λ (z : StageState Asked). LetsOutSoFar bound z others entries next numbered) (sym same) (subst (λ (l : List Pending). LetsOutSoFar bound s l entries next numbered) (sym equal) a)

pub so_far_let_out : (bound : ℕ) (s : StageState Asked) (pending : List Pending) (entries next later : List Entry) (numbered : List Numbered) → LetsOutSoFar bound s pending entries next numbered → AreLetOutNumbered bound entries (next ++ later) numbered
so_far_let_out bound s pending entries next later numbered a = inl (a.closed, pending, a.released, a.expired, a.lets later)

-- a closing waits further
pub waiting_further : (bound : ℕ) (s : StageState Asked) (all : List Pending) (entries next : List Entry) (numbered : List Numbered) (a : LetsOutSoFar bound s all entries next numbered) (pending : List Pending)
    → AllByRecursion (λ c. IsNotReady c s) pending → AllByRecursion (WaitsFurther bound entries a.closed a.released) pending
waiting_further bound s all entries next numbered a [] w = tt
waiting_further bound s all entries next numbered a (c ∷ pending) w = (
  (
    omega (arith, w.0.0, a.staged.kept.timed, a.staged.kept.bounded, length_staged 1 entries),
    unreleased event_in bound c.conversation (staged_from 1 entries) a.closed a.released a.expired s a.staged w.0.1,
  ),
  waiting_further bound s all entries next numbered a pending w.1,
)

-- the entry that follows is read
module _ (bound : ℕ) (s t : StageState Asked) (pending more : List Pending) (entries : List Entry) (numbered : List Numbered) (e : Entry) (released : List (Noted Asked)) (a : LetsOutSoFar bound s pending entries (e ∷ []) numbered)
    (wait : AllByRecursion (λ c. IsNotReady c s) pending) (apart : AllByRecursion (λ c. opens_conversation c.conversation e ≡ false) pending)
    (read : IsRead event_in (staged (s.time + 1) e) s t [] released) (more_is : more ≡ pending ++ closing_at (s.time + 1) e) where
  number_is : length entries + 1 ≡ s.time + 1
  number_is = omega (arith, a.staged.kept.timed, length_staged 1 entries)

  staged_further : HasStaged event_in bound (staged_from 1 (entries ++ e ∷ [])) a.closed (a.released ++ (read.given ++ read.late)) (a.expired ++ read.gone) t
  staged_further =
      let number : 1 + length entries ≡ s.time + 1 = omega (arith, number_is) in
      let same : staged_from 1 (entries ++ e ∷ []) ≡ staged_from 1 entries ++ staged (s.time + 1) e ∷ [] =
      staged_more 1 entries e ∙ ap (λ (k : ℕ). staged_from 1 entries ++ staged k e ∷ []) number in
      subst (λ (l : List (stage.Entry Asked)). HasStaged event_in bound l a.closed (a.released ++ (read.given ++ read.late)) (a.expired ++ read.gone) t) (sym same)
      (read.after bound (staged_from 1 entries) a.closed a.released a.expired a.staged)

  lets_more : (later : List Entry) → LetsOutNumbered bound (entries ++ e ∷ []) later a.closed more (a.released ++ (read.given ++ read.late)) (a.expired ++ read.gone) (numbered ++ numbered_read (s.time + 1) e (read.given ++ read.late))
  lets_more later =
      let all = read.given ++ read.late in
      let k = a.lets later in
      subst (λ (l : List Pending). LetsOutNumbered bound (entries ++ e ∷ []) later a.closed l (a.released ++ all) (a.expired ++ read.gone) (numbered ++ numbered_read (s.time + 1) e all))
      (ap (λ (n : ℕ). pending ++ closing_at n e) number_is ∙ sym more_is) (
        k.0 ++ (passing e ++ map item_of all),
        reads entries later a.closed pending a.released a.expired k.0 e read.given read.late read.gone k.1 (waiting_further bound s pending entries (e ∷ []) numbered a pending wait) apart (t, staged_further)
            (read.in_turn bound (staged_from 1 entries) a.closed a.released a.expired a.staged),
        ap (λ (l : List Numbered). l ++ numbered_read (length entries + 1) e all) k.2 ∙ ap (λ (n : ℕ). numbered ++ numbered_read n e all) number_is,
      )

  noted_further : (id : ℕ) → noted_events_of id (items_in (numbered ++ numbered_read (s.time + 1) e (read.given ++ read.late))) ≡ given_to id (a.released ++ (read.given ++ read.late))
  noted_further id =
      let all = read.given ++ read.late in
      ap (noted_events_of id) (more_read numbered (s.time + 1) e all) ∙ noted_more id (items_in numbered) a.released all e (a.noted id)

  pub read_further : LetsOutSoFar bound t more (entries ++ e ∷ []) [] (numbered ++ numbered_read (s.time + 1) e released)
  read_further =
      subst (λ (l : List (Noted Asked)). LetsOutSoFar bound t more (entries ++ e ∷ []) [] (numbered ++ numbered_read (s.time + 1) e l)) (sym read.appended) (record {
        closed = a.closed;
        released = a.released ++ (read.given ++ read.late);
        expired = a.expired ++ read.gone;
        staged = staged_further;
        lets = lets_more;
        noted = noted_further;
      })

-- a closing is made
module _ (Is IsNot : Pending → Type 0) (bound : ℕ) (s t : StageState Asked) (pending left : List Pending) (entries next : List Entry) (numbered : List Numbered) (c : Pending) (released : List (Noted Asked))
    (made : IsMade event_in Is IsNot c pending left s t [] released) (a : LetsOutSoFar bound s pending entries next numbered) (n : (later : List Entry) → IsNext bound entries (next ++ later) a.closed a.released made.taken.front c) where
  abbrev closed_now : Closings
  closed_now = closed_at c.conversation (length entries) a.closed

  staged_closed : HasStaged event_in bound (staged_from 1 entries) closed_now (a.released ++ made.closed.given) (a.expired ++ made.closed.gone) t
  staged_closed =
      subst (λ (k : ℕ). HasStaged event_in bound (staged_from 1 entries) (closed_at c.conversation k a.closed) (a.released ++ made.closed.given) (a.expired ++ made.closed.gone) t) (length_staged 1 entries)
      (made.closed.after bound (staged_from 1 entries) a.closed a.released a.expired a.staged)

  lets_closed : (later : List Entry) → LetsOutNumbered bound entries (next ++ later) closed_now left (a.released ++ made.closed.given) (a.expired ++ made.closed.gone) (numbered ++ numbered_closed c made.closed.given)
  lets_closed later =
      let all = a.released ++ made.closed.given in
      let gone = a.expired ++ made.closed.gone in
      let k = subst (λ (l : List Pending). LetsOutNumbered bound entries (next ++ later) a.closed l a.released a.expired numbered) made.taken.was (a.lets later) in
      subst (λ (l : List Pending). LetsOutNumbered bound entries (next ++ later) closed_now l all gone (numbered ++ numbered_closed c made.closed.given)) (sym made.taken.left) (
        k.0 ++ closing_items c made.closed.given,
        closes entries (next ++ later) a.closed made.taken.front made.taken.back c a.released a.expired k.0 made.closed.given made.closed.gone k.1 (n later) (t, staged_closed)
            (made.closed.in_turn bound (staged_from 1 entries) a.closed a.released a.expired a.staged)
            (made.closed.law bound (staged_from 1 entries) a.closed a.released a.expired a.staged),
        ap (λ (l : List Numbered). l ++ numbered_closed c made.closed.given) k.2,
      )

  noted_closed : (id : ℕ) → noted_events_of id (items_in (numbered ++ numbered_closed c made.closed.given)) ≡ given_to id (a.released ++ made.closed.given)
  noted_closed id =
      ap (noted_events_of id) (more_closed numbered c made.closed.given) ∙ noted_closing id (items_in numbered) a.released made.closed.given c (a.noted id)

  pub closed_further : LetsOutSoFar bound t left entries next (numbered ++ numbered_closed c released)
  closed_further =
      subst (λ (l : List (Noted Asked)). LetsOutSoFar bound t left entries next (numbered ++ numbered_closed c l)) (sym made.closed.appended) (record {
        closed = closed_now;
        released = a.released ++ made.closed.given;
        expired = a.expired ++ made.closed.gone;
        staged = staged_closed;
        lets = lets_closed;
        noted = noted_closed;
      })

-- ---- why a closing is made

due_now : (bound : ℕ) (s : StageState Asked) (pending : List Pending) (entries next : List Entry) (numbered : List Numbered) (a : LetsOutSoFar bound s pending entries next numbered) (c : Pending) → IsReady c s → IsDue bound entries a.closed a.released c
due_now bound s pending entries next numbered a c (inl le) = inl (omega (arith, le, a.staged.kept.timed, a.staged.kept.bounded, length_staged 1 entries))
due_now bound s pending entries next numbered a c (inr none) = inr (all_released event_in bound c.conversation (staged_from 1 entries) a.closed a.released a.expired s a.staged none)

-- it waits no further
pub ready_next : (bound : ℕ) (s : StageState Asked) (pending : List Pending) (entries : List Entry) (numbered : List Numbered) (a : LetsOutSoFar bound s pending entries [] numbered) (front : List Pending) (c : Pending)
    → AllByRecursion (λ d. IsNotReady d s) front → IsReady c s → (later : List Entry) → IsNext bound entries ([] ++ later) a.closed a.released front c
ready_next bound s pending entries numbered a front c before ready later = inl (waiting_further bound s pending entries [] numbered a front before, due_now bound s pending entries [] numbered a c ready)

-- the next entry opens its conversation
pub forced_next : (id bound : ℕ) (entries : List Entry) (closed : Closings) (released : List (Noted Asked)) (e : Entry) (front : List Pending) (c : Pending) → opens_conversation id e ≡ true → AllByRecursion (IsApart id) front → IsOf id c
    → (later : List Entry) → IsNext bound entries ((e ∷ []) ++ later) closed released front c
forced_next id bound entries closed released e front c opens apart of later = inr (
  subst (λ (k : ℕ). AllByRecursion (λ (d : Pending). nat_eq k d.conversation ≡ false) front) (sym of) apart,
  ap (λ (k : ℕ). opens_conversation k e) of ∙ opens,
)

-- another conversation's closing waits as before
still_waits : (id : ℕ) (s t : StageState Asked) → t.time ≡ s.time → t.bound ≡ s.bound → LeavesOthers id s.conversations t.conversations → (d : Pending) → (IsApart id d → IsNotReady d s) → IsApart id d → IsNotReady d t
still_waits id s t time bound others d w apart = (
  omega (arith, time, bound, (w apart).0),
  subst (λ (o : Option (Conversation Asked)). (x : Noted Asked) × IsOldestWaiting (waiting_at o) x) (sym (others d.conversation apart)) (w apart).1,
)

-- all those of other conversations do
pub others_wait : (bound id : ℕ) (s t : StageState Asked) (pending left : List Pending) (entries next : List Entry) (numbered more : List Numbered) (c : Pending) (released : List (Noted Asked))
    → LetsOutSoFar bound s pending entries next numbered → LetsOutSoFar bound t left entries next more → IsMade event_in (IsOf id) (IsApart id) c pending left s t [] released
    → AllByRecursion (λ d. IsApart id d → IsNotReady d s) pending → AllByRecursion (λ d. IsApart id d → IsNotReady d t) left
others_wait bound id s t pending left entries next numbered more c released a b made w =
    all_weaker (λ (d : Pending). IsApart id d → IsNotReady d s) (λ (d : Pending). IsApart id d → IsNotReady d t)
    (λ d v. still_waits id s t (b.staged.kept.timed ∙ sym a.staged.kept.timed) (b.staged.kept.bounded ∙ sym a.staged.kept.bounded)
    (subst (λ (i : ℕ). LeavesOthers i s.conversations t.conversations) made.taken.is made.closed.others) d v)
    left
    (subst (AllByRecursion (λ (d : Pending). IsApart id d → IsNotReady d s)) (sym made.taken.left)
    (all_left (λ (d : Pending). IsApart id d → IsNotReady d s) made.taken.front c made.taken.back
    (subst (AllByRecursion (λ (d : Pending). IsApart id d → IsNotReady d s)) made.taken.was w)))

-- a closing of another conversation is not of the one that the entry opens
not_opened : (id k : ℕ) (b : Bool) → (b ≡ true → k ≡ id) → nat_eq id k ≡ false → b ≡ false
not_opened id k true only apart = absurd (true≢false (sym (eq-eqb id k (sym (only refl))) ∙ apart))
not_opened id k false only apart = refl

pub none_opened : (id : ℕ) (e : Entry) (pending : List Pending) → ((k : ℕ) → opens_conversation k e ≡ true → k ≡ id) → AllByRecursion (IsApart id) pending → AllByRecursion (λ c. opens_conversation c.conversation e ≡ false) pending
none_opened id e pending only a =
    all_weaker (IsApart id) (λ (c : Pending). opens_conversation c.conversation e ≡ false) (λ c apart. not_opened id c.conversation (opens_conversation c.conversation e) (only c.conversation) apart) pending a

-- ---- the end of the script

pub held_at_end : (bound : ℕ) (s : StageState Asked) (pending : List Pending) (entries : List Entry) (numbered : List Numbered) (released : List (Noted Asked)) (inside : Bool) → (a : LetsOutSoFar bound s pending entries [] numbered)
    → AllByRecursion (λ c. IsNotReady c s) pending → IsFinished event_in s [] released → inside ≡ ends_inside entries
    → AreHeldNumbered bound entries a.expired (numbered ++ numbered_last s.time released pending inside)
held_at_end bound s pending entries numbered released inside a wait finished inside_is =
    let k = a.lets [] in
    let items_are : k.0 ≡ items_in numbered = sym (items_let_out k.1) ∙ ap items_in k.2 in
    let number : length entries ≡ s.time = omega (arith, a.staged.kept.timed, length_staged 1 entries) in (
      k.0 ++ (map item_of finished.given ++ (map closing_item pending ++ end_item (ends_inside entries))),
      record {
        closed = a.closed;
        pending = pending;
        released = a.released;
        waited = finished.given;
        gone = finished.gone;
        let_out = k.0;
        lets = k.1;
        wait = waiting_further bound s pending entries [] numbered a pending wait;
        in_turn = finished.in_turn bound (staged_from 1 entries) a.closed a.released a.expired a.staged;
        law = finished.law bound (staged_from 1 entries) a.closed a.released a.expired a.staged;
        noted = λ id. all_noted id k.0 a.released finished.given pending (ends_inside entries) (ap (noted_events_of id) items_are ∙ a.noted id);
        is = refl;
      },
      ap (λ (l : List Numbered). l ++ numbered_last (length entries) finished.given pending (ends_inside entries)) k.2
          ∙ ap (λ (n : ℕ). numbered ++ numbered_last n finished.given pending (ends_inside entries)) number
          ∙ ap (λ (l : List (Noted Asked)). numbered ++ numbered_last s.time l pending (ends_inside entries)) (sym finished.appended)
          ∙ ap (λ (b : Bool). numbered ++ numbered_last s.time released pending b) (sym inside_is),
    )
