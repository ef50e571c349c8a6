-- Deadlines, and what waits.
use Rattle.std.proofs.Common.{◌≡◌, ◌∙◌, ◌⊎◌, ◌&&◌, ℕ, ◌+◌, ◌<◌, ◌≤◌, zero, suc, Bool, true, false, List, [], ◌∷◌, ◌++◌, Option, None, Some, IfSome, OnSome, take, drop, slice_get, slice_index_or, nat_eq, eqb-true, eq-eqb, true≢false, refl, sym, ap, subst, inl, inr, arith}
use Rattle.std.specs.List.{AllByRecursion}
use Rattle.std.proofs.lemmas.Bool.{cases_Bool, and_parts, and_right}
use Rattle.scrib_hold_stage.specs.declared.noted.Noted.{Noted}
use Rattle.scrib_hold_stage.specs.declared.conversation.Conversation.{Conversation}
use Rattle.scrib_hold_stage.specs.declared.deadlines.Deadline.{Deadline}
use Rattle.scrib_hold_stage.specs.Conversations.{waiting_at}
use Rattle.scrib_hold_stage.specs.Changes.{Conversations, conversation_at, LeavesOthers}
use Rattle.scrib_hold_stage.specs.Deadlines.{IsInOrder, due_time, how_many, is_at, is_deadline, AreListed, AreOfOthers, StartsAfter}
use Rattle.scrib_hold_stage.proofs.Lists.{all_append, all_weaker, all_without, none_pass, many-append, many-here, many-past, order_push, order_without}

-- what holds of the time of each deadline holds of each time that has one
pub of_deadline : (P : ℕ → Type 0) (id n : ℕ) (ds : List Deadline) → AllByRecursion (λ d. P d.time) ds → 0 < how_many (is_deadline id n) ds → P n
of_deadline P id n [] a some = absurd (omega arith)
of_deadline P id n (d ∷ ds) a some = elim (cases_Bool (is_deadline id n d)) [
  | inl y ↦ subst P (sym (eqb-true n d.time (and_parts (nat_eq n d.time) (nat_eq id d.conversation) y).0)) a.0
  | inr k ↦ of_deadline P id n ds a.1 (omega (arith, many-past (is_deadline id n) d ds k))
]

-- the conversation has no deadline among those of others
pub no_deadline_of : (id n : ℕ) (ds : List Deadline) → AreOfOthers id ds → how_many (is_deadline id n) ds ≡ 0
no_deadline_of id n ds a =
    none_pass (is_deadline id n) ds (all_weaker (λ (d : Deadline). nat_eq id d.conversation ≡ false) (λ (d : Deadline). is_deadline id n d ≡ false) (λ d h. and_right (nat_eq n d.time) (nat_eq id d.conversation) h) ds a)

-- a deadline of the conversation is behind those of others
pub past_others : (id n : ℕ) (front back : List Deadline) → AreOfOthers id front → 0 < how_many (is_deadline id n) (front ++ back) → 0 < how_many (is_deadline id n) back
past_others id n front back a some =
    omega (arith, some, many-append (is_deadline id n) front back, no_deadline_of id n front a)

-- where the first is later than this, all are
pub all_later : (due : ℕ) (ds : List Deadline) → IsInOrder due_time ds → StartsAfter due ds → AllByRecursion (λ d. due < d.time) ds
all_later due [] o s = tt
all_later due (d ∷ ds) o s = (s, all_weaker (λ (e : Deadline). d.time < e.time) (λ (e : Deadline). due < e.time) (λ e h. omega arith) ds o.0)

-- all are the first or later
pub from_first : (d : Deadline) (ds : List Deadline) → IsInOrder due_time (d ∷ ds) → AllByRecursion (λ e. d.time ≤ e.time) (d ∷ ds)
from_first d ds o = (omega arith, all_weaker (λ (e : Deadline). d.time < e.time) (λ (e : Deadline). d.time ≤ e.time) (λ e h. omega arith) ds o.0)

-- those behind the first are later than it
pub rest_later : (d : Deadline) (ds : List Deadline) → IsInOrder due_time (d ∷ ds) → StartsAfter d.time ds
rest_later d [] o = tt
rest_later d (e ∷ es) o = o.0.0

-- they are later than what the first is later than
pub rest_after : (n : ℕ) (d : Deadline) (ds : List Deadline) → IsInOrder due_time (d ∷ ds) → StartsAfter n (d ∷ ds) → StartsAfter n ds
rest_after n d [] o s = tt
rest_after n d (e ∷ es) o s = omega (arith, s, o.0.0)

-- what is true of one id, and of each other one
pub by_id : (i : ℕ) (P : ℕ → Type 0) → P i → ((k : ℕ) → nat_eq i k ≡ false → P k) → (k : ℕ) → P k
by_id i P here others k = elim (cases_Bool (nat_eq i k)) [ inl y ↦ subst P (eqb-true i k y) here | inr differs ↦ others k differs ]

-- ids that differ
pub differ_back : (i k : ℕ) → nat_eq i k ≡ false → nat_eq k i ≡ false
differ_back i k differs = elim (cases_Bool (nat_eq k i)) [
  | inl y ↦ absurd (true≢false (sym (eq-eqb i k (sym (eqb-true k i y))) ∙ differs))
  | inr z ↦ z
]

-- ---- a deadline passes

-- the deadlines but for the first of a conversation
pub listed_rest : {A : Type 0} (time : ℕ) (old new : Conversations A) (d : Deadline) (front back : List Deadline) → AreListed time old (front ++ d ∷ back) → LeavesOthers d.conversation old new
    → ((n : ℕ) → 0 < how_many (is_at n) (waiting_at (conversation_at new d.conversation)) → (0 < how_many (is_at n) (waiting_at (conversation_at old d.conversation))) × (n ≡ d.time → ⊥))
    → AreListed time new (front ++ back)
listed_rest {A} time old new d front back l others here = record {
  ordered = order_without due_time front d back l.ordered;
  within = all_without (λ (e : Deadline). e.time ≤ time) front d back l.within;
  complete = by_id d.conversation (λ k. (n : ℕ) → 0 < how_many (is_at n) (waiting_at (conversation_at new k)) → 0 < how_many (is_deadline k n) (front ++ back))
      (λ n some. (let h = here n some in
      past d.conversation n (λ y. h.1 (eqb-true n d.time (and_parts (nat_eq n d.time) (nat_eq d.conversation d.conversation) y).0)) (l.complete d.conversation n h.0)))
      (λ k differs n some. past k n
      (λ y. true≢false (sym (and_parts (nat_eq n d.time) (nat_eq k d.conversation) y).1 ∙ differ_back d.conversation k differs))
      (l.complete k n (subst (λ (o : Option (Conversation A)). 0 < how_many (is_at n) (waiting_at o)) (others k differs) some)));
}
  where
    past : (k n : ℕ) → (is_deadline k n d ≡ true → ⊥) → 0 < how_many (is_deadline k n) (front ++ d ∷ back) → 0 < how_many (is_deadline k n) (front ++ back)
    past k n other some = elim (cases_Bool (is_deadline k n d)) [
      | inl y ↦ absurd (other y)
      | inr z ↦ omega (arith, some, many-append (is_deadline k n) front (d ∷ back), many-append (is_deadline k n) front back, many-past (is_deadline k n) d back z)
    ]

-- ---- another event

module _ {A : Type 0} (time : ℕ) (old new : Conversations A) (ds : List Deadline) (x : Noted A) (given : List (Noted A)) (l : AreListed time old ds) (others : LeavesOthers x.conversation old new) (now : x.time ≡ time + 1)
    (waits : (t : Noted A → Bool) → how_many t (waiting_at (conversation_at new x.conversation)) + how_many t given ≡ how_many t (waiting_at (conversation_at old x.conversation)) + how_many t (x ∷ [])) where
  -- nothing waits yet that is as late
  none_yet : how_many (is_at x.time) (waiting_at (conversation_at old x.conversation)) ≡ 0
  none_yet = by (how_many (is_at x.time) (waiting_at (conversation_at old x.conversation))) (λ some. (let b : x.time ≤ time = of_deadline (λ n. n ≤ time) x.conversation x.time ds l.within (l.complete x.conversation x.time some) in omega (arith, b, now)))
    where
      by : (n : ℕ) → (0 < n → ⊥) → n ≡ 0
      by n not_more = omega arith

  -- what waits then waited, or is the event
  waited_or_new : (n : ℕ) → 0 < how_many (is_at n) (waiting_at (conversation_at new x.conversation)) → (0 < how_many (is_at n) (waiting_at (conversation_at old x.conversation))) ⊎ (n ≡ x.time)
  waited_or_new n some = elim (cases_Bool (nat_eq n x.time)) [
    | inl y ↦ inr (eqb-true n x.time y)
    | inr z ↦ inl (omega (arith, waits (is_at n), many-past (is_at n) x [] z))
  ]

  elsewhere : (more : List Deadline) (k n : ℕ) → nat_eq x.conversation k ≡ false → 0 < how_many (is_at n) (waiting_at (conversation_at new k)) → 0 < how_many (is_deadline k n) (ds ++ more)
  elsewhere more k n differs some =
      omega (arith, many-append (is_deadline k n) ds more, l.complete k n (subst (λ (o : Option (Conversation A)). 0 < how_many (is_at n) (waiting_at o)) (others k differs) some))

  -- its deadline is put behind the others
  pub listed_more : (d : Deadline) → d.time ≡ x.time → d.conversation ≡ x.conversation → AreListed (time + 1) new (ds ++ d ∷ [])
  listed_more d at of = record {
    ordered = order_push due_time ds d l.ordered (all_weaker (λ (e : Deadline). e.time ≤ time) (λ (e : Deadline). e.time < d.time) (λ e h. omega (arith, at, now)) ds l.within);
    within = all_append (λ (e : Deadline). e.time ≤ time + 1) ds (d ∷ []) (all_weaker (λ (e : Deadline). e.time ≤ time) (λ (e : Deadline). e.time ≤ time + 1) (λ e h. omega arith) ds l.within) (omega (arith, at, now), tt);
    complete = by_id x.conversation (λ k. (n : ℕ) → 0 < how_many (is_at n) (waiting_at (conversation_at new k)) → 0 < how_many (is_deadline k n) (ds ++ d ∷ []))
        (λ n some. elim (waited_or_new n some) [
          | inl was ↦ omega (arith, many-append (is_deadline x.conversation n) ds (d ∷ []), l.complete x.conversation n was)
          | inr is ↦ (let yes_ : is_deadline x.conversation n d ≡ true = both n (eq-eqb n d.time (is ∙ sym at)) in omega (arith, many-append (is_deadline x.conversation n) ds (d ∷ []), many-here (is_deadline x.conversation n) d [] yes_))
        ])
        (λ k differs n some. elsewhere (d ∷ []) k n differs some);
  }
    where
      both : (n : ℕ) → nat_eq n d.time ≡ true → is_deadline x.conversation n d ≡ true
      both n y = ap (λ b. b && nat_eq x.conversation d.conversation) y ∙ eq-eqb x.conversation d.conversation (sym of)

  -- it was released at once
  pub listed_same : (y : Noted A) (rest : List (Noted A)) → given ≡ y ∷ rest → y.time ≡ x.time → AreListed (time + 1) new ds
  listed_same y rest first at = record {
    ordered = l.ordered;
    within = all_weaker (λ (e : Deadline). e.time ≤ time) (λ (e : Deadline). e.time ≤ time + 1) (λ e h. omega arith) ds l.within;
    complete = by_id x.conversation (λ k. (n : ℕ) → 0 < how_many (is_at n) (waiting_at (conversation_at new k)) → 0 < how_many (is_deadline k n) ds)
        (λ n some. elim (waited_or_new n some) [
          | inl was ↦ l.complete x.conversation n was
          | inr is ↦ absurd (none_then (subst (λ m. 0 < how_many (is_at m) (waiting_at (conversation_at new x.conversation))) is some))
        ])
        (λ k differs n some. l.complete k n (subst (λ (o : Option (Conversation A)). 0 < how_many (is_at n) (waiting_at o)) (others k differs) some));
  }
    where
      none_then : 0 < how_many (is_at x.time) (waiting_at (conversation_at new x.conversation)) → ⊥
      none_then some =
          omega (
            arith,
            some,
            waits (is_at x.time),
            none_yet,
            many-here (is_at x.time) x [] (eq-eqb x.time x.time refl),
            ap (how_many (is_at x.time)) first,
            many-here (is_at x.time) y rest (eq-eqb x.time y.time (sym at)),
          )

-- ---- fewer wait

pub listed_fewer : {A : Type 0} (time later id : ℕ) (old new : Conversations A) (ds : List Deadline) → AreListed time old ds → time ≤ later → LeavesOthers id old new
    → ((n : ℕ) → how_many (is_at n) (waiting_at (conversation_at new id)) ≤ how_many (is_at n) (waiting_at (conversation_at old id))) → AreListed later new ds
listed_fewer {A} time later id old new ds l le others fewer = record {
  ordered = l.ordered;
  within = all_weaker (λ (e : Deadline). e.time ≤ time) (λ (e : Deadline). e.time ≤ later) (λ e h. omega arith) ds l.within;
  complete = by_id id (λ k. (n : ℕ) → 0 < how_many (is_at n) (waiting_at (conversation_at new k)) → 0 < how_many (is_deadline k n) ds)
      (λ n some. l.complete id n (omega (arith, fewer n)))
      (λ k differs n some. l.complete k n (subst (λ (o : Option (Conversation A)). 0 < how_many (is_at n) (waiting_at o)) (others k differs) some));
}
